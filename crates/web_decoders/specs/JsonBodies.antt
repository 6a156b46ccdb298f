-- Collectors of JSON bodies, and the results that they may give.
use Rattle.std.specs.Prelude.{◌≡◌, ◌<◌, ℕ, Bool, true, false, List, [], Option, None, Some, Result}
use Rattle.std.specs.Prelude.{Ok, Err, refl}
use Rattle.std.specs.Option.{IfNone}
use Rattle.serde_json.specs.Data.{Data}
use Rattle.serde_json.specs.Written.{has_float}
use Rattle.web_request.specs.declared.source.Mark.{Mark}
use Rattle.web_request.specs.Feed.{Feed}
use Rattle.web_codec.specs.declared.faults.JsonFault.{JsonFault}
use Rattle.web_codec.specs.declared.faults.JsonFault.TheVariants as fault
use Rattle.web_codec.specs.Answers.{or_all_some}
use Rattle.web_codec.specs.JsonValues.{body_value}
use Rattle.web_codec.specs.DecodedJson.{JsonReader, as_target, decoded_json}
use Rattle.web_codec.specs.DecodedJson.{DecodesJson, DecodesValue, DecodesData}
use Rattle.web_codec.specs.declared.faults.ReadFault.{ReadFault}
use Rattle.web_body.specs.declared.collecting.Unread.TheVariants.{TooLong, Failed}
use Rattle.web_body.specs.declared.message_body.PayloadError.TheVariants.{Io}
use Rattle.web_body.specs.declared.errors.json_error.JsonPayloadError.{JsonPayloadError}
use Rattle.web_body.specs.declared.errors.json_error.JsonPayloadError.TheVariants as json
use Rattle.web_body.specs.declared.payload.Payload.{Payload}
use Rattle.web_body.specs.declared.poll.Step.{Step}
use Rattle.web_body.specs.Payload.{payload_feed}
use Rattle.web_body.specs.PollSteps.{GivesSome, IfReady}
use Rattle.web_body.specs.Collector.{Collector, Read}
use Rattle.web_decoders.specs.declared.json_head.JsonHead.{JsonHead}
use Rattle.web_decoders.specs.Decoding.{Decoding, new_decoding, decoding_gives, DecodesSome}
use Rattle.web_decoders.specs.Decoding.{CameBy, CameWhole, PollsDecoding, came_length}
use Rattle.web_decoders.specs.Decoding.{decoding_some}
use Rattle.web_decoders.specs.JsonHeads.{json_refusal}

-- the limit where no other is chosen, in bytes
abbrev pub default_json_limit : ℕ
default_json_limit = 2097152

abbrev pub as_deserialize : {T : Type 0} → Result T JsonFault → Result T JsonPayloadError
as_deserialize (Ok x) = Ok x
as_deserialize (Err e) = Err (json.Deserialize e)

-- what may come of a body that was read under this limit
abbrev pub JsonAnswer : {T : Type 0}
    → JsonReader T → ℕ → Read → Result T JsonPayloadError → Type 0
JsonAnswer reads limit (Err (TooLong size)) x = x ≡ Err (json.Overflow limit)
JsonAnswer reads limit (Err Failed) x = x ≡ Err (json.Payload Io)
JsonAnswer {T} reads limit (Ok b) x =
    (y : Result T JsonFault) × DecodesJson reads b y × (x ≡ as_deserialize y)

-- what comes of it where the reader is a function
abbrev pub json_answer : {T : Type 0}
    → (Data → Result T ReadFault) → ℕ → Read → Result T JsonPayloadError
json_answer read limit (Err (TooLong size)) = Err (json.Overflow limit)
json_answer read limit (Err Failed) = Err (json.Payload Io)
json_answer read limit (Ok b) = as_deserialize (decoded_json read b)

pub record JsonBody (S : Type 0) : Type 0 where
  -- the body under its limit, and its refusal by the head
  pub decoding : Decoding ℕ S JsonPayloadError
  pub head : JsonHead

-- a collector of a JSON body that was not polled yet
abbrev pub new_json_body : {S : Type 0} → Payload S → ℕ → JsonHead → JsonBody S
new_json_body payload limit head = record {
  decoding = new_decoding payload limit limit (json_refusal head);
  head = head;
}

abbrev pub json_gives : {S T : Type 0} → (S → Feed) → JsonReader T
    → JsonBody S → ℕ → Result T JsonPayloadError → Type 0
json_gives feed reads b n x = decoding_gives feed (λ d. JsonAnswer reads d) b.decoding n x

-- its result was given
abbrev pub json_body_finished : {S : Type 0} → JsonBody S → Bool
json_body_finished b = b.decoding.is_finished

-- the refusal by the head, until it is given
abbrev pub json_body_refusal : {S : Type 0} → JsonBody S → Option JsonPayloadError
json_body_refusal b = b.decoding.refusal

-- the marks of its payload, where they are stated
abbrev pub json_body_marks : {S : Type 0} → (S → Feed) → JsonBody S → Option (List Mark)
json_body_marks feed b = (payload_feed feed b.decoding.body.payload).marks

data_some : {T : Type 0} (reads : JsonReader T) (has : Bool) (d : Data)
    → ((y : Result T JsonFault) → DecodesData reads has d y → ⊥) → ⊥
data_some reads true d none = none (Err fault.Float) refl
data_some reads false d none =
    or_all_some (reads d) (Err (record { text = [] })) (λ y h. none (as_target y) (y, h, refl))

value_some : {T : Type 0} (reads : JsonReader T) (d : Option Data)
    → ((y : Result T JsonFault) → DecodesValue reads d y → ⊥) → ⊥
value_some reads None none = none (Err fault.Syntax) refl
value_some reads (Some d) none = data_some reads (has_float d) d none

pub json_answer_some : {T : Type 0} (reads : JsonReader T) (limit : ℕ)
    → DecodesSome (JsonAnswer reads limit)
json_answer_some reads limit (Err (TooLong size)) none = none (Err (json.Overflow limit)) refl
json_answer_some reads limit (Err Failed) none = none (Err (json.Payload Io)) refl
json_answer_some reads limit (Ok b) none =
    value_some reads (body_value b) (λ y h. none (as_deserialize y) (y, h, refl))

-- What a result says of how the body was read, by the counts of its payload. A refusal by the head
-- is none of them.
abbrev pub JsonCame : {S T : Type 0} → (S → Feed) → Collector S
    → Result T JsonPayloadError → Collector S → Type 0
JsonCame feed old (Ok value) new = CameWhole feed old new
JsonCame feed old (Err (json.Deserialize e)) new = CameWhole feed old new
JsonCame feed old (Err (json.Overflow limit)) new = old.limit < came_length feed old new
JsonCame feed old (Err (json.Payload Io)) new = CameBy feed old (Err Failed) new
JsonCame feed old (Err _) new = ⊥

-- It is not the case that nothing may come of it.
pub json_gives_some : {S T : Type 0} (feed : S → Feed) (reads : JsonReader T) (b : JsonBody S)
    → GivesSome (json_gives feed reads b)
json_gives_some feed reads b =
    decoding_some feed (λ d. JsonAnswer reads d) (json_answer_some reads) b.decoding

-- what one poll from old to new with this result says of the collector
abbrev pub PollsJsonBody : {S T : Type 0} → (S → Feed) → JsonReader T → JsonBody S
    → Step (Result T JsonPayloadError) → JsonBody S → Type 0
PollsJsonBody feed reads old s new =
    PollsDecoding feed (λ d. JsonAnswer reads d) old.decoding s new.decoding
    × IfNone old.decoding.refusal
    (IfReady s (λ x. JsonCame feed old.decoding.body x new.decoding.body))
