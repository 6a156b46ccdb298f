use Rattle.std.proofs.Common.{ap, refl, ◌∙◌}
use Rattle.web_codec.specs.FieldReaders.{only_field}
use Rattle.web_codec.specs.WholeNumbers.{u32_field}
use Rattle.web_body.specs.declared.errors.path_error.PathError.TheVariants as path
use Rattle.web_reply.specs.Responders.{text_reply}
use Rattle.web_extract.specs.Refusals.{path_fault}
use Rattle.web_extract_head.specs.PathArgument.{decoded_parameters}
use Rattle.example_items.specs.ItemReplies.{item_id, item_text}
use Rattle.example_items.proofs.ItemLemmas.{by_result, no_path_handler, refused_alone, seen_each}
use Rattle.example_items.proofs.laws.show_item_law.Goals as goal

pub returns : goal.returns
returns g c = λ q.
    let none = no_path_handler q.layers in
    by_result _ _ _ (λ m. m) (λ id. text_reply (item_text id))
    (λ m d id seen. c.list_exchange_law.ensures.value q m m d 0 id _ seen
    (λ v is k y answer. (
      answer.0,
      λ r response. response ∙ ap text_reply (answer.1 ∙ ap item_text is),
    )))
    (λ m d f seen. c.list_exchange_law.ensures.refusal q m m d f seen)
    (λ m. item_id q.params)
    (seen_each _ (item_id q.params)
    (λ m. c.path_law.ensures q (only_field u32_field (decoded_parameters q.params))
    (λ e. path_fault (path.Deserialize e)) m (refl, λ x h. h)
    (λ e. refused_alone _ _ none q.head e)))
