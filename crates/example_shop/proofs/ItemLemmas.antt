-- What items are answered with.
use Rattle.std.proofs.Common.{◌≡◌, ℕ, List, ap, ◌∙◌, refl}
use Rattle.std.specs.Prelude.{Ok}
use Rattle.web_request.specs.declared.source.Mark.{Mark}
use Rattle.web_request.specs.Head.{Head}
use Rattle.web_codec.specs.PrintedValues.{printed_json, text_or_float}
use Rattle.web_body.specs.DecoderSettings.{JsonSettings}
use Rattle.web_reply.specs.ResponseBodies.{Plain}
use Rattle.web_reply.specs.Replies.{Reply}
use Rattle.web_extract.specs.declared.config.refuse.NoType.{NoType}
use Rattle.web_extract_body.specs.ValueReplies.{JsonResponds, json_reply}
use Rattle.web_extract_body.specs.declared.json_value.Json.{Json}
use Rattle.example_shop.specs.Item.{data_of_item, item_no_float}
use Rattle.example_shop.specs.ItemReplies.{HoldsBody, body_reply, item_json, item_reply}
use Rattle.example_shop.specs.ItemReplies.{item_result}
use Rattle.example_shop.specs.declared.item.Item.{Item}
use Rattle.example_shop.specs.declared.item_layer.ItemErrors.{ItemErrors}

-- no item is written with a float
pub json_responds : (v : Json Item) (r : Reply Plain)
    → JsonResponds (λ y. y ≡ Ok (data_of_item v.0)) r → r ≡ item_json v
json_responds v r (x, (y, writes, prints), response) =
    let d = data_of_item v.0 in
    response ∙ ap json_reply
    (prints ∙ (ap printed_json writes ∙ ap (λ b. text_or_float b d) (item_no_float v.0)))

pub held_body : (settings : JsonSettings ItemErrors NoType) (errors : ItemErrors) (head : Head)
    (m : List Mark) (body : List ℕ) → HoldsBody settings errors head m body
    → item_reply (item_result settings head m).result ≡ body_reply errors body
held_body settings errors head m body (handler, refuses, content) =
    rw handler (rw refuses (rw content refl))
