use Rattle.example_handlers.proofs.texts.text_list_law.Goals as goal

pub returns : goal.returns
returns g c = λ q m.
    c.list_law.ensures.two q m _ _ _ _ (c.seen_places_law.ensures.string q m)
    (c.seen_places_law.ensures.bytes q _)
