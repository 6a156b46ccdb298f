-- JSON values as arguments and as responses.
use Rattle.std.specs.Prelude.{◌≡◌, ◌⊎◌, ℕ, Bool, false, List, Option, None, Result, codes}
use Rattle.std.specs.Prelude.{min, refl}
use Rattle.http_header.specs.FieldValue.{FieldValue}
use Rattle.http_header.specs.HeaderMap.{Entries}
use Rattle.serde_json.specs.Data.{Data}
use Rattle.web_texts.specs.MediaTypes.{MediaType}
use Rattle.web_request.specs.declared.source.Mark.{Mark}
use Rattle.web_request.specs.Feed.{Feed}
use Rattle.web_request.specs.Head.{Head}
use Rattle.web_request.specs.MessageFields.{first_content_type}
use Rattle.web_codec.specs.declared.faults.ReadFault.{ReadFault}
use Rattle.web_codec.specs.DecodedJson.{JsonReader}
use Rattle.web_body.specs.declared.errors.json_error.JsonPayloadError.{JsonPayloadError}
use Rattle.web_body.specs.declared.poll.Step.{Step}
use Rattle.web_body.specs.DecoderSettings.{JsonSettings}
use Rattle.web_decoders.specs.JsonBodies.{JsonAnswer, JsonBody, PollsJsonBody, json_answer}
use Rattle.web_decoders.specs.JsonBodies.{json_answer_some}
use Rattle.web_decoders.specs.JsonHeads.{head_under, json_head, json_refusal}
use Rattle.web_decoders.specs.TypePredicates.{Predicate, ReadsType}
use Rattle.web_decoders.specs.WrittenTypes.{NeedsNoReading}
use Rattle.web_extract_body.specs.ReadTypes.{reads_type, reads_type_some}
use Rattle.web_reply.specs.Replies.{Fault}
use Rattle.web_extract.specs.Extracts.{AllowsSome}
use Rattle.web_extract.specs.LayerConfigurations.{Configurations, json_settings}
use Rattle.web_extract.specs.ListResults.{DelayedResult}
use Rattle.web_extract.specs.Refusals.{Handler, RefusedBy, json_fault, refused_by, refused_some}
use Rattle.web_extract_body.specs.HandledBodies.{GivesHandled, ReadsBody, handled_result}
use Rattle.web_extract_body.specs.HandledBodies.{handled_some}
use Rattle.web_extract_body.specs.HandledBodies.{reads_some, rest_where}
use Rattle.web_extract_body.specs.declared.json_value.Json.{Json}

abbrev pub json_of : {T : Type 0} → T → Json T
json_of v = record { 0 = v }

-- the same settings under the lesser of their limit and this cap
abbrev pub capped_json : {H P : Type 0} → ℕ → JsonSettings H P → JsonSettings H P
capped_json cap settings = record settings { limit = min settings.limit cap }

-- the handler of refusals that counts for these layers
abbrev pub json_handler : {L J F P Q T : Type 0}
    → (L → Configurations J F P Q T) → List L → Option J
json_handler of_layer layers = (json_settings of_layer layers).handler

-- to begin allocates nothing: no handler is configured, and no media type is read
abbrev pub JsonNeedsNoMemory : {H P : Type 0} → JsonSettings H P → Entries FieldValue → Type 0
JsonNeedsNoMemory settings headers =
    (settings.handler ≡ None)
    × ((settings.type_required ≡ false)
    ⊎ NeedsNoReading (codes "application/json") (first_content_type headers))

-- the first test of the head that refuses a body, whose media type may be read or not
abbrev pub json_head_refusal : ℕ → Bool → Entries FieldValue → Option JsonPayloadError
json_head_refusal limit is_read headers =
    json_refusal (head_under limit (json_head is_read headers))

module _ {H P T : Type 0} (settings : JsonSettings H P) (allows : Predicate P)
    (reads : JsonReader T) (headers : Entries FieldValue) where
  -- After the test of the media type, which leaves the payload, the body is read and decoded.
  abbrev pub MeansJsonBody : List Mark → List Mark → ℕ → Result T JsonPayloadError → Type 0
  MeansJsonBody m rest n y =
      (is_read : Bool)
      × ReadsType allows settings.predicate settings.type_required headers is_read
      × (rest ≡ rest_where is_read m)
      × ReadsBody (JsonAnswer reads settings.limit) settings.limit
      (json_head_refusal settings.limit is_read headers) m n y

  pub json_body_some : (m : List Mark) → AllowsSome (MeansJsonBody m)
  json_body_some m none =
      reads_type_some allows settings.predicate settings.type_required headers (λ is_read h.
      reads_some (JsonAnswer reads settings.limit) (json_answer_some reads settings.limit)
      settings.limit (json_head_refusal settings.limit is_read headers) m (λ n y k.
      none (rest_where is_read m) n y (is_read, h, refl, k)))

module _ {H P T : Type 0} (settings : JsonSettings H P) (refuses : Handler H JsonPayloadError)
    (allows : Predicate P) (reads : JsonReader T) (head : Head) where
  -- the error of a refusal
  abbrev pub JsonErrors : JsonPayloadError → Fault → Type 0
  JsonErrors e x = RefusedBy refuses json_fault settings.handler e head x

  -- A refusal goes through the configured handler, where there is one.
  abbrev pub MeansJson : List Mark → List Mark → ℕ → Result (Json T) Fault → Type 0
  MeansJson m rest n x =
      GivesHandled json_of JsonErrors (MeansJsonBody settings allows reads head.headers m rest) n x

  pub json_some : (m : List Mark) → AllowsSome (MeansJson m)
  json_some m none =
      json_body_some settings allows reads head.headers m (λ rest n y h.
      handled_some json_of JsonErrors
      (λ e. refused_some refuses json_fault settings.handler e head)
      (MeansJsonBody settings allows reads head.headers m rest)
      (λ without. without n y h) (λ k x g. none rest k x g))

-- the marks that are left, and the result with its delay, where the handler, the predicate and the
-- reader are functions
module _ {H P T : Type 0} (settings : JsonSettings H P)
    (answer : H → JsonPayloadError → Head → Fault)
    (allowed : P → MediaType → Bool) (read : Data → Result T ReadFault) (head : Head) where
  -- whether the media type may be read
  abbrev pub json_is_read : Bool
  json_is_read = reads_type allowed settings.predicate settings.type_required head.headers

  abbrev pub json_rest : List Mark → List Mark
  json_rest m = rest_where json_is_read m

  abbrev pub json_result : List Mark → DelayedResult (Json T)
  json_result m =
      handled_result json_of (λ e. refused_by answer json_fault settings.handler e head)
      (json_answer read settings.limit) settings.limit
      (json_head_refusal settings.limit json_is_read head.headers) m

-- a poll of the collector, of whose step this holds, and what it says of its payload, whether or
-- not its marks are stated
abbrev pub PollsJson : {S T : Type 0} → (S → Feed) → JsonReader T
    → (Step (Result T JsonPayloadError) → Type 0) → JsonBody S → JsonBody S → Type 0
PollsJson {S} {T} feed reads holds old new =
    (s : Step (Result T JsonPayloadError))
    × PollsJsonBody feed reads old s new
    × holds s
