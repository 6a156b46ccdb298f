-- What `http1` reads and writes, status by status.
use Rattle.std.specs.Prelude.{◌≡◌, ◌≤◌, ◌⊎◌, ℕ, false, List, [], Some, length, Result}
use Rattle.web_texts.specs.Counts.{Rose}
use Rattle.cli_io.specs.IoState.{InputState, OutputState}
use Rattle.cli_io.specs.WholeReading.{limit, IsAll, IsTooLong}
use Rattle.cli_io.specs.WholeWriting.{IsWritten, IsCutOff}
use Rattle.web_request.specs.Feed.{Feed}
use Rattle.web_request.specs.declared.source.Mark.{Mark}
use Rattle.web_reply.specs.ResponseBodies.{Plain}
use Rattle.web_reply.specs.Replies.{Fault, Reply}
use Rattle.web_worker.specs.HandlerServices.{handler_setting}
use Rattle.web_messages.specs.declared.limits.Limits.{Limits}
use Rattle.web_http1.specs.Answers.{Answers}
use Rattle.web_http1.specs.declared.ended.Ended.{Ended}
use Rattle.demo_app.specs.DemoRequests.{DemoRequest}
use Rattle.web_cli.specs.DemoExchanges.{demo_pool}
use Rattle.web_cli.specs.Run.{AllocationFails, FailsToRead, HasNoMemory, too_long_text}
use Rattle.web_cli.specs.declared.status.Status.{Status}
use Rattle.web_cli.specs.declared.status.Status.TheVariants as status

-- i and j: the input before and after; o and p: the output before and after

-- the greatest messages of a connection
abbrev pub connection_limits : Limits
connection_limits = record {
  head = 16384;
  headers = 64;
  body = 1048576;
  kept = 18446744073709551615;
  checks = record { host = false; target = false; encode = false; reasons = false };
}

-- The text has the answers of the bytes, which are all that come: where each message has one reply
-- by these promises of arguments, handler and responders, these. What the futures are is no matter.
abbrev pub AreAnswers : {V E Y : Type 0}
    → (DemoRequest → List Mark → List Mark → ℕ → Result V E → Type 0) → (E → Fault → Type 0)
    → (V → ℕ → Y → Type 0) → (Y → DemoRequest → Reply Plain → Type 0)
    → ℕ → List ℕ → List ℕ → Type 0
AreAnswers means converts answers responds capacity bytes text =
    (given : List ℕ) (end : Ended)
    → Answers (handler_setting {U = Unit {0}} {W = Unit {0}} means converts answers responds
    (λ (f : Feed). f) (λ u n x. ⊥) (λ u n x. ⊥) (demo_pool capacity))
    connection_limits bytes given end
    → text ≡ given

-- `answers` relates the bytes that came and the text that answers them
module _ (answers : List ℕ → List ℕ → Type 0) where
  -- all was read, and its answers were written
  pub record AnswersConnection (came : List ℕ) (i j : InputState) (o p : OutputState) : Type 0 where
    pub read : IsAll came i j
    pub text : List ℕ
    pub answers_are : answers came text
    pub written : IsWritten text o p

  -- all was read, and a write failed after a prefix of its answers
  pub record CutsAnswers (came : List ℕ) (i j : InputState) (o p : OutputState) : Type 0 where
    pub read : IsAll came i j
    pub text : List ℕ
    pub answers_are : answers came text
    pub cut : (sent : ℕ) × IsCutOff sent text o p

  -- nothing is left of the input, and the answers of the bytes were written
  pub record WritesAnswers (result : Status) (bytes : List ℕ) (j : InputState)
      (o p : OutputState) : Type 0 where
    pub result_is : result ≡ status.Done
    pub nothing_left : j.left ≡ Some []
    pub text : List ℕ
    pub answers_are : answers bytes text
    pub written : IsWritten text o p

-- `untouched`: the handler is unchanged
module _ (untouched : Type 0) where
  -- more bytes than the limit came, and the text that says so was written
  pub record RefusesConnection (came : List ℕ) (i j : InputState) (o p : OutputState) : Type 0 where
    pub read : IsTooLong came i j
    pub written : IsWritten too_long_text o p
    pub handler : untouched

  -- more bytes than the limit came, and a write failed after a prefix of the text that says so
  pub record CutsTooLong (came : List ℕ) (i j : InputState) (o p : OutputState) : Type 0 where
    pub read : IsTooLong came i j
    pub cut : (sent : ℕ) × IsCutOff sent too_long_text o p
    pub handler : untouched

-- what `http1` read and wrote, where these bytes came
abbrev pub ConnectionResult : (List ℕ → List ℕ → Type 0) → Type 0
    → Status → List ℕ → InputState → InputState → OutputState → OutputState → Type 0
ConnectionResult answers untouched status.Done came i j o p =
    AnswersConnection answers came i j o p
ConnectionResult answers untouched status.Script came i j o p =
    RefusesConnection untouched came i j o p
ConnectionResult answers untouched status.ReadFault came i j o p =
    FailsToRead untouched came i j o p
ConnectionResult answers untouched status.WriteFault came i j o p =
    CutsAnswers answers came i j o p ⊎ CutsTooLong untouched came i j o p
ConnectionResult answers untouched status.NoMemory came i j o p = AllocationFails i j o p
ConnectionResult answers untouched status.Usage came i j o p = ⊥

-- The bytes of every connection within the limit, where no read and no write fails, are answered,
-- or allocation failed.
abbrev pub AllAnswered : (List ℕ → List ℕ → Type 0)
    → Status → InputState → InputState → OutputState → OutputState → Type 0
AllAnswered answers result i j o p =
    (bytes : List ℕ) → i.left ≡ Some bytes → length bytes ≤ limit
    → ¬ (Rose i.faults j.faults) → ¬ (Rose o.faults p.faults)
    → HasNoMemory result o p ⊎ WritesAnswers answers result bytes j o p
