-- Collectors of forms, and the results that they may give.
use Rattle.std.specs.Prelude.{◌≡◌, ℕ, Bool, List, [], Option, Result, Ok, Err, refl}
use Rattle.std.specs.Option.{IfNone}
use Rattle.web_texts.specs.Pairs.{Pair}
use Rattle.web_request.specs.declared.source.Mark.{Mark}
use Rattle.web_request.specs.Feed.{Feed}
use Rattle.web_codec.specs.declared.faults.ReadFault.{ReadFault}
use Rattle.web_codec.specs.FormPairs.{form_pairs}
use Rattle.web_codec.specs.DecodedForms.{PairReader, DecodesForm, decoded_form}
use Rattle.web_body.specs.declared.collecting.Unread.TheVariants.{TooLong, Failed}
use Rattle.web_body.specs.declared.message_body.PayloadError.TheVariants.{Io}
use Rattle.web_body.specs.declared.errors.form_error.UrlencodedError.{UrlencodedError}
use Rattle.web_body.specs.declared.errors.form_error.UrlencodedError.TheVariants as form
use Rattle.web_body.specs.declared.payload.Payload.{Payload}
use Rattle.web_body.specs.declared.poll.Step.{Step}
use Rattle.web_body.specs.Payload.{payload_feed}
use Rattle.web_body.specs.PollSteps.{GivesSome, IfReady}
use Rattle.web_body.specs.Collector.{Collector, Read}
use Rattle.web_decoders.specs.declared.form_head.FormHead.{FormHead}
use Rattle.web_decoders.specs.Decoding.{Decoding, new_decoding, decoding_gives, DecodesSome}
use Rattle.web_decoders.specs.Decoding.{CameBy, CameWhole, PollsDecoding, decoding_some}
use Rattle.web_decoders.specs.FormHeads.{form_refusal}
use Rattle.web_codec.specs.Answers.{or_all_some}

-- the limit where no other is chosen, in bytes
abbrev pub default_form_limit : ℕ
default_form_limit = 32768

abbrev pub as_parse : {T : Type 0} → Result T ReadFault → Result T UrlencodedError
as_parse (Ok x) = Ok x
as_parse (Err e) = Err (form.Parse e)

-- what may come of a body that was read under this limit
abbrev pub FormAnswer : {T : Type 0}
    → PairReader T → ℕ → Read → Result T UrlencodedError → Type 0
FormAnswer reads limit (Err (TooLong size)) x = x ≡ Err (form.Overflow size limit)
FormAnswer reads limit (Err Failed) x = x ≡ Err (form.Payload Io)
FormAnswer {T} reads limit (Ok b) x =
    (y : Result T ReadFault) × DecodesForm reads b y × (x ≡ as_parse y)

-- what comes of it where the reader is a function
abbrev pub form_answer : {T : Type 0}
    → (List Pair → Result T ReadFault) → ℕ → Read → Result T UrlencodedError
form_answer read limit (Err (TooLong size)) = Err (form.Overflow size limit)
form_answer read limit (Err Failed) = Err (form.Payload Io)
form_answer read limit (Ok b) = as_parse (decoded_form read b)

pub record FormBody (S : Type 0) : Type 0 where
  -- the body under its limit, and its refusal by the head
  pub decoding : Decoding ℕ S UrlencodedError
  pub head : FormHead

-- a collector of a form that was not polled yet
abbrev pub new_form_body : {S : Type 0} → Payload S → ℕ → FormHead → FormBody S
new_form_body payload limit head = record {
  decoding = new_decoding payload limit limit (form_refusal head limit);
  head = head;
}

abbrev pub form_gives : {S T : Type 0} → (S → Feed) → PairReader T
    → FormBody S → ℕ → Result T UrlencodedError → Type 0
form_gives feed reads b n x = decoding_gives feed (λ d. FormAnswer reads d) b.decoding n x

-- its result was given
abbrev pub form_body_finished : {S : Type 0} → FormBody S → Bool
form_body_finished b = b.decoding.is_finished

-- the refusal by the head, until it is given
abbrev pub form_body_refusal : {S : Type 0} → FormBody S → Option UrlencodedError
form_body_refusal b = b.decoding.refusal

-- the marks of its payload, where they are stated
abbrev pub form_body_marks : {S : Type 0} → (S → Feed) → FormBody S → Option (List Mark)
form_body_marks feed b = (payload_feed feed b.decoding.body.payload).marks

-- It is not the case that nothing is allowed.
pub form_answer_some : {T : Type 0} (reads : PairReader T) (limit : ℕ)
    → DecodesSome (FormAnswer reads limit)
form_answer_some reads limit (Err (TooLong size)) none =
    none (Err (form.Overflow size limit)) refl
form_answer_some reads limit (Err Failed) none = none (Err (form.Payload Io)) refl
form_answer_some reads limit (Ok b) none =
    or_all_some (reads (form_pairs b)) (Err (record { text = [] }))
    (λ y h. none (as_parse y) (y, h, refl))

-- What a result says of how the body was read, by the counts of its payload. A refusal by the head
-- is none of them but for `Overflow`.
abbrev pub FormCame : {S T : Type 0} → (S → Feed) → Collector S
    → Result T UrlencodedError → Collector S → Type 0
FormCame feed old (Ok value) new = CameWhole feed old new
FormCame feed old (Err (form.Parse e)) new = CameWhole feed old new
FormCame feed old (Err (form.Overflow size limit)) new = CameBy feed old (Err (TooLong size)) new
FormCame feed old (Err (form.Payload Io)) new = CameBy feed old (Err Failed) new
FormCame feed old (Err _) new = ⊥

-- It is not the case that nothing may come of it.
pub form_gives_some : {S T : Type 0} (feed : S → Feed) (reads : PairReader T) (b : FormBody S)
    → GivesSome (form_gives feed reads b)
form_gives_some feed reads b =
    decoding_some feed (λ d. FormAnswer reads d) (form_answer_some reads) b.decoding

-- what one poll from old to new with this result says of the collector
abbrev pub PollsFormBody : {S T : Type 0} → (S → Feed) → PairReader T → FormBody S
    → Step (Result T UrlencodedError) → FormBody S → Type 0
PollsFormBody feed reads old s new =
    PollsDecoding feed (λ d. FormAnswer reads d) old.decoding s new.decoding
    × IfNone old.decoding.refusal
    (IfReady s (λ x. FormCame feed old.decoding.body x new.decoding.body))
