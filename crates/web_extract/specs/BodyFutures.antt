-- The futures of arguments that are the whole body: a refusal by the head, or the collector.
use Rattle.std.specs.Prelude.{◌≡◌, ◌+◌, ◌<◌, ◌≤◌, ℕ, Bool, false, List, length, refl, ⊤}
use Rattle.std.specs.Prelude.{Option, None, Some, Result, Ok, Err, String, is_none}
use Rattle.std.specs.Global.{Global}
use Rattle.std.specs.Option.{IfNone}
use Rattle.web_texts.specs.Counts.{Rose}
use Rattle.web_request.specs.Feed.{Feed}
use Rattle.web_request.specs.declared.source.Mark.{Mark}
use Rattle.web_body.specs.Collector.{StallsNext}
use Rattle.web_body.specs.CollectorPolls.{OnBody, OnWhole}
use Rattle.web_body.specs.MessageBody.{BodyNeedsNoMemory, MessageBody, body_gives, body_refusal}
use Rattle.web_body.specs.MessageBody.{body_some}
use Rattle.web_body.specs.MessageBodyPolls.{NotByHead, OnIo, OnOverflow}
use Rattle.web_body.specs.Payload.{KeepsPayload, bytes_between, payload_feed}
use Rattle.web_body.specs.PollSteps.{GivesSome, IfReady, MatchStep, OnPending}
use Rattle.web_body.specs.PollSteps.{UnlessNoMemory}
use Rattle.web_body.specs.declared.message_body.PayloadError.{PayloadError}
use Rattle.web_body.specs.declared.poll.Step.{Step}
use Rattle.web_body.specs.declared.poll.Step.TheVariants.{Pending, Ready, NoMemory}
use Rattle.web_reply.specs.Replies.{Fault}
use Rattle.web_extract.specs.BodyArguments.{collected}
use Rattle.web_extract.specs.ReadyFuture.{GivesHeld, held_some}
use Rattle.web_extract.specs.StringArgument.{Decodes, bytes_of, text_of}
use Rattle.web_extract.specs.declared.either_future.EitherFuture.{EitherFuture}
use Rattle.web_extract.specs.declared.either_future.EitherFuture.TheVariants.{Left, Right}

-- the refusal, and none once it was returned; or the collector
abbrev pub BodyFuture : Type 0 → Type 0
BodyFuture S = EitherFuture (Option Fault) (MessageBody S)

abbrev pub body_finished : {S : Type 0} → BodyFuture S → Bool
body_finished (Left refusal) = is_none refusal
body_finished (Right body) = body.is_finished

-- the step of a refusal
abbrev pub refused_step : {T : Type 0} → Step Fault → Step (Result T Fault)
refused_step Pending = Pending
refused_step (Ready e) = Ready (Err e)
refused_step NoMemory = NoMemory

-- the step of a collector, with its error as a cause
abbrev pub collected_step : Step (Result (List ℕ) PayloadError) → Step (Result (List ℕ) Fault)
collected_step Pending = Pending
collected_step (Ready x) = Ready (collected x)
collected_step NoMemory = NoMemory

-- the same step with its body as a text, for which memory may be lacking
abbrev pub DecodesStep : Step (Result (List ℕ) Fault) → Step (Result (String Global) Fault)
    → Type 0
DecodesStep Pending t = t ≡ Pending
DecodesStep (Ready (Ok bytes)) t = MatchStep t ⊥ (λ x. bytes_of x ≡ text_of bytes) ⊤
DecodesStep (Ready (Err e)) t = t ≡ Ready (Err e)
DecodesStep NoMemory t = t ≡ NoMemory

-- it is no body, and memory was not lacking
abbrev pub IsWithoutBody : Step (Result (List ℕ) Fault) → Type 0
IsWithoutBody Pending = ⊤
IsWithoutBody (Ready (Ok bytes)) = ⊥
IsWithoutBody (Ready (Err e)) = ⊤
IsWithoutBody NoMemory = ⊥

-- the head refuses, or a stall is next
abbrev pub RefusedOrStalls : Option PayloadError → Option (List Mark) → Type 0
RefusedOrStalls None marks = StallsNext marks
RefusedOrStalls (Some e) marks = ⊤

module _ {S : Type 0} (feed : S → Feed) where
  -- the refusal at the first poll, or what the collector gives
  abbrev pub bytes_gives : BodyFuture S → ℕ → Result (List ℕ) Fault → Type 0
  bytes_gives (Left refusal) n x = (e : Fault) × GivesHeld refusal n e × (x ≡ Err e)
  bytes_gives (Right body) n x =
      (y : Result (List ℕ) PayloadError) × body_gives feed body n y × (x ≡ collected y)

  pub bytes_gives_some : (f : BodyFuture S) → body_finished f ≡ false → GivesSome (bytes_gives f)
  bytes_gives_some (Left refusal) h none =
      held_some refusal h (λ n e g. none n (Err e) (e, g, refl))
  bytes_gives_some (Right body) h none =
      body_some feed body (λ n y g. none n (collected y) (y, g, refl))

  abbrev pub string_gives : BodyFuture S → ℕ → Result (String Global) Fault → Type 0
  string_gives f n x = Decodes (bytes_gives f) n x

  -- the next poll allocates nothing
  abbrev pub BytesNeedNoMemory : BodyFuture S → Type 0
  BytesNeedNoMemory (Left refusal) = ⊤
  BytesNeedNoMemory (Right body) =
      BodyNeedsNoMemory (body_refusal body) (payload_feed feed body.payload).marks body.held

  -- the same, and it gives no body, of which a text would be made
  abbrev pub StringNeedsNoMemory : BodyFuture S → Type 0
  StringNeedsNoMemory (Left refusal) = ⊤
  StringNeedsNoMemory (Right body) =
      RefusedOrStalls (body_refusal body) (payload_feed feed body.payload).marks

  -- what a poll of the collector says of its payload, whether or not its marks are stated
  pub record BodyCounts (old : MessageBody S) (s : Step (Result (List ℕ) PayloadError))
      (new : MessageBody S) : Type 0 where
    pub payload : KeepsPayload feed old.payload new.payload
    pub pending : OnPending s
        (Rose (payload_feed feed old.payload).stalls (payload_feed feed new.payload).stalls)
    pub held : OnPending s
        (length new.held ≡ length old.held + bytes_between feed old.payload new.payload)
    pub io : OnIo s
        (Rose (payload_feed feed old.payload).faults (payload_feed feed new.payload).faults)
    pub whole_ended : OnWhole s ((payload_feed feed new.payload).answers ≡ 0)
    pub whole_unfailed : OnWhole s
        ((payload_feed feed new.payload).faults ≡ (payload_feed feed old.payload).faults)
    pub lacked : UnlessNoMemory s
        ((payload_feed feed new.payload).lacked ≡ (payload_feed feed old.payload).lacked)
    pub whole_length : OnBody s
        (λ b. length b ≡ length old.held + bytes_between feed old.payload new.payload)
    pub whole_within : OnBody s (λ b. length b ≤ old.limit)
    pub by_head : IfNone (body_refusal old) (IfReady s NotByHead)
    pub overflow : IfNone (body_refusal old) (OnOverflow s
        (old.limit < length old.held + bytes_between feed old.payload new.payload))

  -- a poll of the collector, of whose step this holds
  abbrev pub PollsCollector : (Step (Result (List ℕ) Fault) → Type 0)
      → BodyFuture S → BodyFuture S → Type 0
  PollsCollector P (Left refusal) new = ⊤
  PollsCollector P (Right old) (Left refusal) = ⊥
  PollsCollector P (Right old) (Right new) =
      (s : Step (Result (List ℕ) PayloadError)) × BodyCounts old s new × P (collected_step s)
