-- What the result of a collector that decodes says of its body.
use Rattle.std.proofs.Common.{◌≡◌, ℕ, List, ◌∙◌, ap}
use Rattle.std.specs.Prelude.{Option, None, Some, Result, Ok, Err}
use Rattle.std.specs.Option.{IfNone}
use Rattle.serde_json.specs.Data.{Data}
use Rattle.web_texts.specs.Pairs.{Pair}
use Rattle.web_request.specs.Feed.{Feed}
use Rattle.web_codec.specs.declared.faults.ReadFault.{ReadFault}
use Rattle.web_codec.specs.declared.faults.JsonFault.{JsonFault}
use Rattle.web_codec.specs.DecodedJson.{JsonReader}
use Rattle.web_codec.specs.DecodedForms.{PairReader}
use Rattle.web_codec.proofs.ReaderFunctionLemmas.{json_only, form_only}
use Rattle.web_body.specs.declared.collecting.Unread.TheVariants.{TooLong, Failed}
use Rattle.web_body.specs.declared.errors.json_error.JsonPayloadError.{JsonPayloadError}
use Rattle.web_body.specs.declared.errors.form_error.UrlencodedError.{UrlencodedError}
use Rattle.web_body.specs.declared.poll.Step.{Step}
use Rattle.web_body.specs.declared.poll.Step.TheVariants.{Pending, Ready, NoMemory}
use Rattle.web_body.specs.PollSteps.{IfReady}
use Rattle.web_body.specs.Collector.{Collector, Read}
use Rattle.web_decoders.specs.Decoding.{AnsweredBy, CameBy, Decoding, PollsDecoding}
use Rattle.web_decoders.specs.JsonBodies.{JsonAnswer, JsonCame, as_deserialize, json_answer}
use Rattle.web_decoders.specs.FormBodies.{FormAnswer, FormCame, as_parse, form_answer}

-- Where the reader is a function, nothing is allowed but what it gives.
pub json_answer_only : {T : Type 0} (read : Data → Result T ReadFault) (limit : ℕ) (y : Read) (x : Result T JsonPayloadError)
    → JsonAnswer (λ d z. z ≡ read d) limit y x → x ≡ json_answer read limit y
json_answer_only read limit (Err (TooLong size)) x h = h
json_answer_only read limit (Err Failed) x h = h
json_answer_only read limit (Ok b) x h = h.2 ∙ ap as_deserialize (json_only read b h.0 h.1)

pub form_answer_only : {T : Type 0} (read : List Pair → Result T ReadFault) (limit : ℕ) (y : Read) (x : Result T UrlencodedError)
    → FormAnswer (λ pairs z. z ≡ read pairs) limit y x → x ≡ form_answer read limit y
form_answer_only read limit (Err (TooLong size)) x h = h
form_answer_only read limit (Err Failed) x h = h
form_answer_only read limit (Ok b) x h = h.2 ∙ ap as_parse (form_only read b h.0 h.1)

-- the counts of the payload, by the result
module _ {S T : Type 0} (feed : S → Feed) (old new : Collector S) where
  json_whole : (y : Result T JsonFault) (b : List ℕ) → CameBy feed old (Ok b) new → JsonCame feed old (as_deserialize y) new
  json_whole (Ok value) b came = came.0
  json_whole (Err e) b came = came.0

  json_came : (reads : JsonReader T) (limit : ℕ) (y : Read) (x : Result T JsonPayloadError) → JsonAnswer reads limit y x → CameBy feed old y new → JsonCame feed old x new
  json_came reads limit (Err (TooLong size)) x h came = rw h (came.1)
  json_came reads limit (Err Failed) x h came = rw h came
  json_came reads limit (Ok b) x h came = rw h.2 (json_whole h.0 b came)

  json_counts : (reads : JsonReader T) (limit : ℕ) (refusal : Option JsonPayloadError) (s : Step (Result T JsonPayloadError))
      → IfReady s (AnsweredBy refusal (JsonAnswer reads limit) (λ y. CameBy feed old y new)) → IfNone refusal (IfReady s (λ x. JsonCame feed old x new))
  json_counts reads limit (Some e) s h = tt
  json_counts reads limit None Pending h = tt
  json_counts reads limit None NoMemory h = tt
  json_counts reads limit None (Ready x) h = json_came reads limit h.0 x h.1 h.2

  form_whole : (y : Result T ReadFault) (b : List ℕ) → CameBy feed old (Ok b) new → FormCame feed old (as_parse y) new
  form_whole (Ok value) b came = came.0
  form_whole (Err e) b came = came.0

  form_came : (reads : PairReader T) (limit : ℕ) (y : Read) (x : Result T UrlencodedError) → FormAnswer reads limit y x → CameBy feed old y new → FormCame feed old x new
  form_came reads limit (Err (TooLong size)) x h came = rw h came
  form_came reads limit (Err Failed) x h came = rw h came
  form_came reads limit (Ok b) x h came = rw h.2 (form_whole h.0 b came)

  form_counts : (reads : PairReader T) (limit : ℕ) (refusal : Option UrlencodedError) (s : Step (Result T UrlencodedError))
      → IfReady s (AnsweredBy refusal (FormAnswer reads limit) (λ y. CameBy feed old y new)) → IfNone refusal (IfReady s (λ x. FormCame feed old x new))
  form_counts reads limit (Some e) s h = tt
  form_counts reads limit None Pending h = tt
  form_counts reads limit None NoMemory h = tt
  form_counts reads limit None (Ready x) h = form_came reads limit h.0 x h.1 h.2

pub json_polled : {S T : Type 0} (feed : S → Feed) (reads : JsonReader T) (old new : Decoding ℕ S JsonPayloadError) (s : Step (Result T JsonPayloadError))
    → PollsDecoding feed (λ d. JsonAnswer reads d) old s new → IfNone old.refusal (IfReady s (λ x. JsonCame feed old.body x new.body))
json_polled feed reads old new s h = json_counts feed old.body new.body reads old.decoder old.refusal s h.answered

pub form_polled : {S T : Type 0} (feed : S → Feed) (reads : PairReader T) (old new : Decoding ℕ S UrlencodedError) (s : Step (Result T UrlencodedError))
    → PollsDecoding feed (λ d. FormAnswer reads d) old s new → IfNone old.refusal (IfReady s (λ x. FormCame feed old.body x new.body))
form_polled feed reads old new s h = form_counts feed old.body new.body reads old.decoder old.refusal s h.answered
