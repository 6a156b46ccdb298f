-- What a request with an item is answered with.
use Rattle.std.specs.Prelude.{◌≡◌, ℕ, List, false, true, codes}
use Rattle.std.specs.Prelude.{None, Some, Result}
use Rattle.serde_json.specs.Written.{compact_text}
use Rattle.web_request.specs.declared.source.Mark.{Mark}
use Rattle.web_request.specs.Feed.{Feed}
use Rattle.web_request.specs.Head.{Head}
use Rattle.web_request.specs.Pool.{Pool}
use Rattle.web_request.specs.Reading.{Whole, reading}
use Rattle.web_codec.specs.DecodedJson.{decoded_json}
use Rattle.web_body.specs.declared.errors.json_error.JsonPayloadError.{JsonPayloadError}
use Rattle.web_body.specs.DecoderSettings.{JsonSettings}
use Rattle.web_body.specs.Payload.{payload_feed}
use Rattle.web_decoders.specs.JsonBodies.{as_deserialize}
use Rattle.web_reply.specs.declared.errors.cause.Cause.TheVariants.{Custom, Json as json_cause}
use Rattle.web_reply.specs.Replies.{Fault, Reply, typed_reply}
use Rattle.web_reply.specs.ResponseBodies.{Plain, Plain.Bytes}
use Rattle.web_extract.specs.ConvertedFutures.{converted_result}
use Rattle.web_extract.specs.LayerConfigurations.{Configurations, holds_nothing, json_settings}
use Rattle.web_extract.specs.ListResults.{DelayedResult}
use Rattle.web_extract.specs.declared.config.refuse.NoHandler.{NoHandler}
use Rattle.web_extract.specs.declared.config.refuse.NoType.{NoType}
use Rattle.web_extract_body.specs.JsonArgument.{json_head_refusal, json_is_read, json_of}
use Rattle.web_extract_body.specs.JsonArgument.{json_result}
use Rattle.web_extract_body.specs.declared.json_value.Json.{Json}
use Rattle.web_status.specs.JsonErrors.{body_error, json_error, json_is_refused}
use Rattle.web_worker.specs.AnsweredExchanges.{AreAnswered, marks_or_none, reply_or_error}
use Rattle.web_worker.specs.Exchanges.{ExchangeView, request_of}
use Rattle.web_worker.specs.Outcomes.{OutcomeView}
use Rattle.example_shop.specs.Item.{data_of_item, item_of}
use Rattle.example_shop.specs.declared.item.Item.{Item}
use Rattle.example_shop.specs.declared.item_layer.ItemErrors.{ItemErrors}
use Rattle.example_shop.specs.declared.item_layer.ItemErrors.TheVariants.{BadRequest}
use Rattle.example_shop.specs.declared.item_layer.ItemErrors.TheVariants.{UnprocessableContent}
use Rattle.example_shop.specs.declared.item_layer.ItemLayer.{ItemLayer}

-- the text of a refusal as JSON, with its own status, or with 422 where the reader refused
abbrev pub item_error : ItemErrors → JsonPayloadError → Fault
item_error BadRequest e = json_error (json_cause e)
item_error UnprocessableContent e = body_error (json_is_refused e) (json_cause e)

-- a text of JSON with this status
abbrev pub json_text : ℕ → List ℕ → Reply Plain
json_text status text = typed_reply status (codes "application/json") (Bytes text)

-- the same with the text of a refusal, which the reply keeps as its error
abbrev pub refused_json : ℕ → List ℕ → List ℕ → Reply Plain
refused_json status refusal text =
    record (json_text status text) { error = Some (Custom status refusal) }

-- 200 with the item as JSON
abbrev pub item_json : Json Item → Reply Plain
item_json v = json_text 200 (compact_text (data_of_item v.0))

-- the reply to what comes of an argument: the item, or the error
abbrev pub item_reply : Result (Json Item) Fault → Reply Plain
item_reply x = reply_or_error item_json x

-- the reply to a body of these bytes: to the item that their JSON value is read as, or the refusal
abbrev pub body_reply : ItemErrors → List ℕ → Reply Plain
body_reply errors body =
    item_reply (converted_result json_of (item_error errors)
    (as_deserialize (decoded_json item_of body)))

-- the item of these marks as an argument, after the tests of the head
abbrev pub item_result : JsonSettings ItemErrors NoType → Head → List Mark
    → DelayedResult (Json Item)
item_result settings head m =
    json_result settings (λ errors e h. item_error errors e) (λ p t. false) item_of head m

-- the head refuses no body, the marks are this body within the limit, and these are its errors
abbrev pub HoldsBody : JsonSettings ItemErrors NoType → ItemErrors → Head → List Mark → List ℕ
    → Type 0
HoldsBody settings errors head m body =
    (settings.handler ≡ Some errors)
    × (json_head_refusal settings.limit
    (json_is_read settings (λ errors e h. item_error errors e) (λ p t. false) item_of head)
    head.headers ≡ None)
    × ((reading settings.limit m).content ≡ Whole body)

-- a layer with a limit and the handler of refusals
abbrev pub item_layer : ℕ → ItemErrors → ItemLayer
item_layer limit errors = record {
  json = record {
    limit = limit;
    handler = Some errors;
    predicate = None;
    type_required = true;
  };
}

-- what a layer configures
abbrev pub configurations_of : ItemLayer
    → Configurations ItemErrors NoHandler NoHandler NoHandler NoType
configurations_of l = record (holds_nothing) { json = Some l.json }

module _ {S D C : Type 0} (feed : S → Feed) (pool : Pool ItemLayer) where
  -- the item of the body as an argument, under the nearest configuration
  abbrev pub item_argument : ExchangeView S ItemLayer D C → DelayedResult (Json Item)
  item_argument x =
      let q = request_of pool x in
      item_result (json_settings configurations_of q.layers) q.head
      (marks_or_none (payload_feed feed x.body).marks)

  -- Each exchange whose body states its marks has the reply of its item, at its number of polls in
  -- the plan. A failed allocation is the exception.
  abbrev pub ItemsAnswered : List ℕ → List (ExchangeView S ItemLayer D C) → List OutcomeView
      → Type 0
  ItemsAnswered = AreAnswered feed (λ x. (item_argument x).delay)
      (λ x. item_reply (item_argument x).result)
