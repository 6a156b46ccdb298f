-- Arguments whose handlers, predicates and readers are functions.
use Rattle.std.specs.Prelude.{Bool, List, Result}
use Rattle.serde_json.specs.Data.{Data}
use Rattle.web_texts.specs.MediaTypes.{MediaType}
use Rattle.web_texts.specs.Pairs.{Pair}
use Rattle.web_request.specs.declared.source.Mark.{Mark}
use Rattle.web_request.specs.Head.{Head}
use Rattle.web_request.specs.Request.{Request}
use Rattle.web_codec.specs.declared.faults.ReadFault.{ReadFault}
use Rattle.web_codec.specs.DecodedForms.{PairReader}
use Rattle.web_codec.specs.DecodedJson.{JsonReader}
use Rattle.web_body.specs.declared.errors.json_error.JsonPayloadError.{JsonPayloadError}
use Rattle.web_body.specs.declared.errors.form_error.UrlencodedError.{UrlencodedError}
use Rattle.web_decoders.specs.TypePredicates.{Predicate}
use Rattle.web_reply.specs.Replies.{Fault}
use Rattle.web_extract.specs.Extracts.{AllowsOnly}
use Rattle.web_extract.specs.LayerConfigurations.{Configurations, form_settings, json_settings}
use Rattle.web_extract.specs.ListMeanings.{Meaning}
use Rattle.web_extract.specs.ListResults.{Exactly}
use Rattle.web_extract.specs.Refusals.{Handler}
use Rattle.web_extract_body.specs.FormArgument.{form_rest, form_result}
use Rattle.web_extract_body.specs.JsonArgument.{json_rest, json_result}
use Rattle.web_extract_body.specs.declared.form_value.Form.{Form}
use Rattle.web_extract_body.specs.declared.json_value.Json.{Json}

-- the handler allows what this function gives, and nothing else
abbrev pub IsHandler : {H E : Type 0} → Handler H E → (H → E → Head → Fault) → Type 0
IsHandler {H} {E} refuses answer =
    (h : H) (e : E) (head : Head) → AllowsOnly (refuses h e head) (answer h e head)

abbrev pub IsPredicate : {P : Type 0} → Predicate P → (P → MediaType → Bool) → Type 0
IsPredicate {P} allows allowed = (p : P) (m : MediaType) → AllowsOnly (allows p m) (allowed p m)

abbrev pub IsReader : {T : Type 0} → JsonReader T → (Data → Result T ReadFault) → Type 0
IsReader reads read = (d : Data) → AllowsOnly (reads d) (read d)

abbrev pub IsPairReader : {T : Type 0} → PairReader T → (List Pair → Result T ReadFault) → Type 0
IsPairReader reads read = (pairs : List Pair) → AllowsOnly (reads pairs) (read pairs)

-- the layers' configurations, and what an argument means of each request
module _ {L D C J F P Q B T : Type 0} (of_layer : L → Configurations J F P Q B) where
  -- where these are functions, exactly their result is allowed
  abbrev pub DecidesJson : Handler J JsonPayloadError → Predicate B → JsonReader T
      → (Request L D C → Meaning (Json T)) → Type 0
  DecidesJson refuses allows reads means =
      (answer : J → JsonPayloadError → Head → Fault) → IsHandler refuses answer
      → (allowed : B → MediaType → Bool) → IsPredicate allows allowed
      → (read : Data → Result T ReadFault) → IsReader reads read
      → (q : Request L D C) (m : List Mark) → Exactly (means q) m
      (json_rest (json_settings of_layer q.layers) answer allowed read q.head m)
      (json_result (json_settings of_layer q.layers) answer allowed read q.head m)

  abbrev pub DecidesForm : Handler F UrlencodedError → PairReader T
      → (Request L D C → Meaning (Form T)) → Type 0
  DecidesForm refuses reads means =
      (answer : F → UrlencodedError → Head → Fault) → IsHandler refuses answer
      → (read : List Pair → Result T ReadFault) → IsPairReader reads read
      → (q : Request L D C) (m : List Mark) → Exactly (means q) m
      (form_rest q.head.headers m)
      (form_result (form_settings of_layer q.layers) answer read q.head m)
