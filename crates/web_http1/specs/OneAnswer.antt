-- One answer of a connection: at most one reply, or the refusal.
use Rattle.std.specs.Prelude.{◌≡◌, ℕ, ◌<◌, Bool, true, false, List, ◌++◌, length, drop}
use Rattle.std.specs.Prelude.{MatchOption, None, Some, Ok, ⊤}
use Rattle.web_worker.specs.Setting.{Setting}
use Rattle.web_messages.specs.Progress.{HasFewBlank, IsSettled}
use Rattle.web_messages.specs.declared.limits.Limits.{Limits}
use Rattle.web_messages.specs.declared.message.Message.{Message}
use Rattle.web_messages.specs.declared.message.Next.TheVariants as next
use Rattle.web_http1.specs.declared.answered.Answered.{Answered}
use Rattle.web_http1.specs.declared.answered.Answered.TheVariants as answered
use Rattle.web_http1.specs.declared.answering.Turned.{Turned}
use Rattle.web_http1.specs.declared.answering.Turned.TheVariants as turned
use Rattle.web_http1.specs.declared.ended.Ended.{Ended}
use Rattle.web_http1.specs.declared.ended.Ended.TheVariants as ended
use Rattle.web_http1.specs.Answers.{refusal_bytes}
use Rattle.web_http1.specs.Connections.{ConnectionView, WaitsForMore}
use Rattle.web_http1.specs.ConnectionSteps.{IsReplied}
use Rattle.web_http1.specs.Keeping.{KeepsFew}

module _ {S L D C V K : Type 0} (s : Setting S L D C V K) where
  -- The next message, which these bytes settle, was answered by one reply, which closes or does
  -- not; n bytes were read for it.
  pub record OneReply (limits : Limits) (bytes before behind : List ℕ) (closes : Bool) (n : ℕ)
      : Type 0 where
    pub message : Message
    pub settled : IsSettled limits bytes (next.Message message)
    pub used : n ≡ message.used
    pub replied : IsReplied s message before behind (Ok closes)

  -- the connection ended with at most one reply
  abbrev pub EndsOne : Limits → List ℕ → List ℕ → List ℕ → Ended → Type 0
  EndsOne limits bytes before behind ended.Closed =
      (n : ℕ) × OneReply limits bytes before behind true n
  EndsOne limits bytes before behind (ended.Refused w) =
      IsSettled limits bytes (next.Refused w) × (behind ≡ before ++ refusal_bytes w)
  EndsOne limits bytes before behind ended.SourceFault = ⊥
  EndsOne limits bytes before behind ended.NoMemory = behind ≡ before

  -- one step writes at most one reply
  abbrev pub TurnsOne : Limits → List ℕ → List ℕ → List ℕ → Turned → Type 0
  TurnsOne limits bytes before behind (turned.Goes used) =
      OneReply limits bytes before behind false used
  TurnsOne limits bytes before behind (turned.Waits skipped p) = behind ≡ before
  TurnsOne limits bytes before behind (turned.Ended end) = EndsOne limits bytes before behind end

  -- One reply, and fewer bytes are left; or none, since more bytes have to come; or the connection
  -- ended, with one reply or a refusal, or before.
  abbrev pub IsAnswered : ConnectionView → ConnectionView → List ℕ → List ℕ → Answered → Type 0
  IsAnswered old new before behind answered.Replied =
      (old.ended ≡ None) × (new.ended ≡ None)
      × (n : ℕ) × OneReply old.limits old.left before behind false n
      × (new.left ≡ drop n old.left) × (length new.left < length old.left)
  IsAnswered old new before behind answered.Waits =
      (old.ended ≡ None) × (new.ended ≡ None) × (behind ≡ before)
  IsAnswered old new before behind (answered.Ended end) =
      (new.ended ≡ Some end)
      × MatchOption old.ended (EndsOne old.limits old.left before behind end)
      (λ e. behind ≡ before)

-- the connection waits for more bytes, and keeps no more than it has to
abbrev pub Waits : ConnectionView → Type 0
Waits c = WaitsForMore c × HasFewBlank c.limits c.left × KeepsFew c.limits c.left

abbrev pub WaitsWhere : Answered → ConnectionView → Type 0
WaitsWhere answered.Replied c = ⊤
WaitsWhere answered.Waits c = Waits c
WaitsWhere (answered.Ended end) c = ⊤
