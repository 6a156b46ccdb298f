use Rattle.std.proofs.Common.{ap, refl, ◌∙◌}
use Rattle.web_codec.specs.FieldReaders.{only_field}
use Rattle.web_codec.specs.WholeNumbers.{u32_field}
use Rattle.web_body.specs.declared.errors.path_error.PathError.TheVariants as path
use Rattle.web_reply.specs.Responders.{text_reply}
use Rattle.web_extract.specs.LayerConfigurations.{payload_settings}
use Rattle.web_extract.specs.ListResults.{list2}
use Rattle.web_extract.specs.Refusals.{path_fault}
use Rattle.web_extract.specs.StringArgument.{string_rest, string_result}
use Rattle.web_extract_head.specs.PathArgument.{decoded_parameters}
use Rattle.example_items.specs.ItemReplies.{item_id, note_text}
use Rattle.example_items.proofs.ItemLemmas.{by_result, default_settings, no_path_handler}
use Rattle.example_items.proofs.ItemLemmas.{note_by_default, nothing_held, refused_alone, seen_each}
use Rattle.example_items.proofs.laws.note_item_law.Goals as goal

pub returns : goal.returns
returns g c = λ q.
    let none = no_path_handler q.layers in
    let settings = payload_settings nothing_held q.layers in
    note_by_default _ settings (default_settings q.layers) q.params q.head.headers
    (by_result _ _ _ (λ m. string_rest settings q.head.headers m) (λ v. text_reply (note_text v))
    (λ m d v seen. c.list_exchange_law.ensures.value q m
    (string_rest settings q.head.headers m) d 0 v _ seen
    (λ args is k y answer. (
      answer.0,
      λ r response. response ∙ ap text_reply (answer.1 ∙ ap note_text is),
    )))
    (λ m d f seen. c.list_exchange_law.ensures.refusal q m
    (string_rest settings q.head.headers m) d f seen)
    (λ m. list2 (item_id q.params) (string_result settings q.head.headers m))
    (λ m. c.list_law.ensures.two q m m (string_rest settings q.head.headers m) (item_id q.params)
    (string_result settings q.head.headers m)
    (c.same_error_law.ensures.seen q m m (item_id q.params)
    (seen_each _ (item_id q.params)
    (λ k. c.path_law.ensures q (only_field u32_field (decoded_parameters q.params))
    (λ e. path_fault (path.Deserialize e)) k (refl, λ x h. h)
    (λ e. refused_alone _ _ none q.head e)) m))
    (c.seen_places_law.ensures.string q m)))
