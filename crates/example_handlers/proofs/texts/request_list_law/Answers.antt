use Rattle.example_handlers.proofs.texts.request_list_law.Goals as goal

pub returns : goal.returns
returns g c = λ q m u is_u p is_p.
    c.list_law.ensures.four q m _ _ _ _ _ _ _ _
    (c.seen_places_law.ensures.request q m) (c.seen_places_law.ensures.uri q m u is_u)
    (c.seen_places_law.ensures.string q m) (c.payload_place_law.ensures q _ p is_p)
