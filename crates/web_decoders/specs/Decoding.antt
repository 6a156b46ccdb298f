-- A collector that decodes the body which it collected, and the results that it may still give.
use Rattle.std.specs.Prelude.{◌≡◌, ℕ, ◌+◌, ◌<◌, ◌≤◌, Bool, false, List, length}
use Rattle.std.specs.Prelude.{Option, None, Some, Result, Ok, Err, ⊤, refl, IfSome}
use Rattle.std.specs.Option.{IfNone}
use Rattle.web_texts.specs.Counts.{Rose}
use Rattle.web_request.specs.declared.source.Mark.{Mark}
use Rattle.web_request.specs.Reading.{reading}
use Rattle.web_request.specs.Feed.{Feed}
use Rattle.web_body.specs.declared.payload.Payload.{Payload}
use Rattle.web_body.specs.declared.collecting.Unread.TheVariants.{TooLong, Failed}
use Rattle.web_body.specs.declared.poll.Step.{Step}
use Rattle.web_body.specs.declared.poll.Step.TheVariants.{Ready}
use Rattle.web_body.specs.Payload.{payload_feed, bytes_between, KeepsPayload}
use Rattle.web_body.specs.PollSteps.{GivesSome, IfReady, IsPending, OnPending}
use Rattle.web_body.specs.PollSteps.{UnlessNoMemory}
use Rattle.web_body.specs.Collector.{Collector, new_collector, Read, read_of, StallsNext}
use Rattle.web_body.specs.Collector.{collector_gives, collector_some}

pub record Decoding (D S E : Type 0) : Type 0 where
  pub body : Collector S
  pub decoder : D
  -- the refusal before any byte is read, and none once it was given
  pub refusal : Option E
  pub is_finished : Bool

-- a collector that was not polled yet
abbrev pub new_decoding : {D S E : Type 0} → Payload S → ℕ → D → Option E → Decoding D S E
new_decoding payload limit decoder refusal = record {
  body = new_collector payload limit;
  decoder = decoder;
  refusal = refusal;
  is_finished = false;
}

-- the refusal at once; where there is none, what may come otherwise
abbrev pub RefusedOr : {T E : Type 0} → Option E
    → (ℕ → Result T E → Type 0) → ℕ → Result T E → Type 0
RefusedOr (Some e) gives n x = (n ≡ 0) × (x ≡ Err e)
RefusedOr None gives n x = gives n x

-- what the body is decoded to, when the body comes
abbrev pub Decoded : {X : Type 0} → (Read → X → Type 0) → (ℕ → Read → Type 0) → ℕ → X → Type 0
Decoded decodes gives n x = (y : Read) × gives n y × decodes y x

abbrev pub decoding_gives : {D S T E : Type 0} → (S → Feed) → (D → Read → Result T E → Type 0)
    → Decoding D S E → ℕ → Result T E → Type 0
decoding_gives feed decodes b n x =
    RefusedOr b.refusal (Decoded (decodes b.decoder) (collector_gives feed b.body)) n x

-- it is not the case that nothing may come of a body
abbrev pub DecodesSome : {X : Type 0} → (Read → X → Type 0) → Type 0
DecodesSome {X} decodes = (y : Read) → ((x : X) → decodes y x → ⊥) → ⊥

refused_some : {T E : Type 0} (refusal : Option E) (gives : ℕ → Result T E → Type 0)
    → GivesSome gives → GivesSome (RefusedOr refusal gives)
refused_some (Some e) gives some none = none 0 (Err e) (refl, refl)
refused_some None gives some none = some none

pub decoding_some : {D S T E : Type 0} (feed : S → Feed) (decodes : D → Read → Result T E → Type 0)
    → ((d : D) → DecodesSome (decodes d))
    → (b : Decoding D S E) → GivesSome (decoding_gives feed decodes b)
decoding_some feed decodes some b =
    refused_some b.refusal (Decoded (decodes b.decoder) (collector_gives feed b.body))
    (λ none. collector_some feed b.body
    (λ n y h. some b.decoder y (λ x k. none n x (y, h, k))))

-- what reading the marks under the limit is decoded to, when that comes
abbrev pub DecodedReading : {X : Type 0} → (Read → X → Type 0) → ℕ → List Mark → ℕ → X → Type 0
DecodedReading decodes limit m n x =
    (n ≡ (reading limit m).delay) × decodes (read_of ((reading limit m).content)) x

-- Where there is a refusal, it alone is allowed, and at once. Where there is none and the marks are
-- stated, only what reading them under the limit is decoded to is allowed.
abbrev pub MeansDecoded : {T E : Type 0} → (Read → Result T E → Type 0) → ℕ → Option E
    → Option (List Mark) → (ℕ → Result T E → Type 0) → Type 0
MeansDecoded {T} {E} decodes limit (Some e) marks gives =
    (n : ℕ) (x : Result T E) → gives n x → (n ≡ 0) × (x ≡ Err e)
MeansDecoded decodes limit None None gives = ⊤
MeansDecoded {T} {E} decodes limit None (Some m) gives =
    (n : ℕ) (x : Result T E) → gives n x → DecodedReading decodes limit m n x

-- how many bytes came: those that were held, and what the payload gave
abbrev pub came_length : {S : Type 0} → (S → Feed) → Collector S → Collector S → ℕ
came_length feed old new = length old.held + bytes_between feed old.payload new.payload

-- the payload came to its end without a fault or want of memory
abbrev pub CameWhole : {S : Type 0} → (S → Feed) → Collector S → Collector S → Type 0
CameWhole feed old new =
    ((payload_feed feed new.payload).answers ≡ 0)
    × ((payload_feed feed new.payload).faults ≡ (payload_feed feed old.payload).faults)
    × ((payload_feed feed new.payload).lacked ≡ (payload_feed feed old.payload).lacked)

-- what the counts of the payload say of a body that was read in one poll
abbrev pub CameBy : {S : Type 0} → (S → Feed) → Collector S → Read → Collector S → Type 0
CameBy feed old (Ok b) new =
    CameWhole feed old new × (length b ≡ came_length feed old new) × (length b ≤ old.limit)
CameBy feed old (Err (TooLong size)) new =
    (size ≡ came_length feed old new) × (old.limit < came_length feed old new)
CameBy feed old (Err Failed) new =
    Rose (payload_feed feed old.payload).faults (payload_feed feed new.payload).faults

-- the result is the refusal, or what a body that came so is decoded to
abbrev pub AnsweredBy : {T E : Type 0} → Option E → (Read → Result T E → Type 0)
    → (Read → Type 0) → Result T E → Type 0
AnsweredBy (Some e) decodes came x = x ≡ Err e
AnsweredBy None decodes came x = (y : Read) × decodes y x × came y

-- what makes a poll allocate nothing: a refusal, or a stall that is next
abbrev pub DecodingNeedsNoMemory : {E : Type 0} → Option E → Option (List Mark) → Type 0
DecodingNeedsNoMemory None marks = StallsNext marks
DecodingNeedsNoMemory (Some e) marks = ⊤

-- what one poll from old to new with this result says, beside which results may come
pub record PollsDecoding {D S T E : Type 0} (feed : S → Feed)
    (decodes : D → Read → Result T E → Type 0) (old : Decoding D S E)
    (s : Step (Result T E)) (new : Decoding D S E) : Type 0 where
  pub refused : IfSome old.refusal (λ e. (s ≡ Ready (Err e)) × (new.body ≡ old.body))
  pub stalled : IfNone old.refusal
      (StallsNext (payload_feed feed old.body.payload).marks → IsPending s)
  pub decoder : new.decoder ≡ old.decoder
  pub limit : new.body.limit ≡ old.body.limit
  pub payload : KeepsPayload feed old.body.payload new.body.payload
  pub pending : OnPending s (Rose
      (payload_feed feed old.body.payload).stalls (payload_feed feed new.body.payload).stalls)
  pub lacked : UnlessNoMemory s ((payload_feed feed new.body.payload).lacked
      ≡ (payload_feed feed old.body.payload).lacked)
  pub held : OnPending s (length new.body.held
      ≡ length old.body.held + bytes_between feed old.body.payload new.body.payload)
  pub within : OnPending s (length new.body.held ≤ new.body.limit)
  pub answered : IfReady s (AnsweredBy old.refusal
      (decodes old.decoder) (λ y. CameBy feed old.body y new.body))
