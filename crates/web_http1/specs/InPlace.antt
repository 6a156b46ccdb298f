-- A piece that is answered, and a reply that is written, where it stands.
use Rattle.std.specs.Prelude.{◌≡◌, ℕ, ◌⊎◌, Bool, List, [], ◌++◌, Option, None, Some}
use Rattle.web_reply.specs.ResponseBodies.{Plain}
use Rattle.web_reply.specs.Replies.{Reply}
use Rattle.web_worker.specs.Exchanges.{FlightView}
use Rattle.web_messages.specs.declared.limits.Limits.{Limits}
use Rattle.web_http1.specs.declared.answered.Answered.{Answered}
use Rattle.web_http1.specs.declared.ended.Ended.TheVariants as ended
use Rattle.web_http1.specs.Answers.{StatesMarks}
use Rattle.web_http1.specs.BegunAnswers.{WaitsAfter}
use Rattle.web_http1.specs.Connections.{ConnectionView, ended_at, open_at}
use Rattle.web_http1.specs.Polls.{LastReplied}
use Rattle.web_http1.specs.ReplyBytes.{Sent, SentFrom, sent_bytes, sent_reply}

-- these bytes are kept, and more have to come; or an allocation failed, and the connection ended
abbrev pub KeepsRest : Limits → List ℕ → ConnectionView → Answered → Type 0
KeepsRest limits rest new answered =
    WaitsAfter (open_at limits rest) new answered ⊎ (new ≡ ended_at limits [] ended.NoMemory)

-- the reply was written, to HEAD or to another method, and this says whether it closes
abbrev pub IsWritten : Bool → Sent → List ℕ → List ℕ → Bool → Type 0
IsWritten is_head sent before behind closes =
    (closes ≡ sent.closes) × (behind ≡ before ++ sent_bytes is_head sent)

-- the reply was written; or its body is not in memory, and nothing was
abbrev pub WritesAtOnce : Bool → Bool → Reply Plain → List ℕ → List ℕ → Option Bool → Type 0
WritesAtOnce is_head asked reply before behind (Some closes) =
    IsWritten is_head (sent_reply asked reply) before behind closes
WritesAtOnce is_head asked reply before behind None = behind ≡ before

-- the reply of the one flight was written
pub record IsLastWritten {S L D C K : Type 0} (asked is_head : Bool)
    (flights : List (FlightView S L D C K)) (before behind : List ℕ) (closes : Bool)
    : Type 0 where
  pub reply : Reply Plain
  pub last : LastReplied flights reply
  pub sent : Sent
  pub states : StatesMarks reply.body → sent ≡ sent_reply asked reply
  pub from : SentFrom asked reply.head sent
  pub written : IsWritten is_head sent before behind closes
