-- A body that is written after the head of its reply, piece by piece.
use Rattle.std.specs.Prelude.{◌≡◌, ℕ, ◌<◌, List, [], ◌++◌, length, Some, ⊤}
use Rattle.web_body.specs.Payload.{payload_feed}
use Rattle.web_request.specs.Feed.{Feed}
use Rattle.web_request.specs.declared.source.Mark.{Mark}
use Rattle.web_http1.specs.declared.due_body.BodyFraming.{BodyFraming}
use Rattle.web_http1.specs.declared.due_body.BodyStage.{BodyStage}
use Rattle.web_http1.specs.declared.due_body.BodyStage.TheVariants as stage
use Rattle.web_http1.specs.declared.due_body.BodyWritten.{BodyWritten}
use Rattle.web_http1.specs.declared.due_body.BodyWritten.TheVariants as written
use Rattle.web_http1.specs.declared.due_body.DueBody.{DueBody}
use Rattle.web_http1.specs.declared.ended.Ended.TheVariants as ended
use Rattle.web_http1.specs.BodyFramings.{Fits, IsAsStated, NoneIsDue, after_bytes, body_text}
use Rattle.web_http1.specs.BodyFramings.{end_text, piece_text}
use Rattle.web_http1.specs.Connections.{ConnectionView}

-- At most one piece was written, whole and no more than is due, or the end of the body where no
-- byte is due; else nothing. It is given up where the source failed, or gives another number of
-- bytes, or an allocation failed.
abbrev pub WritesOne : BodyFraming → List ℕ → List ℕ → BodyWritten → BodyStage → Type 0
WritesOne f before behind written.Piece left =
    (b : List ℕ) × (0 < length b) × Fits f (length b)
    × (left ≡ stage.Due (after_bytes f (length b))) × (behind ≡ before ++ piece_text f b)
WritesOne f before behind written.Pending left = (left ≡ stage.Due f) × (behind ≡ before)
WritesOne f before behind written.Done left =
    NoneIsDue f × (left ≡ stage.Sent) × (behind ≡ before ++ end_text f)
WritesOne f before behind written.Broken left = (left ≡ stage.Broken) × (behind ≡ before)
WritesOne f before behind written.NoMemory left = (left ≡ stage.Broken) × (behind ≡ before)

-- what became of this piece, where it is next, or of the end
abbrev pub WritesPiece : BodyFraming → List ℕ → List ℕ → List ℕ → BodyWritten → BodyStage → Type 0
WritesPiece f b before behind written.Piece left =
    Fits f (length b) × (left ≡ stage.Due (after_bytes f (length b)))
    × (behind ≡ before ++ piece_text f b)
WritesPiece f b before behind written.Pending left = ⊥
WritesPiece f b before behind written.Done left = ⊥
WritesPiece f b before behind written.Broken left =
    ¬ (Fits f (length b)) × (left ≡ stage.Broken) × (behind ≡ before)
WritesPiece f b before behind written.NoMemory left = (left ≡ stage.Broken) × (behind ≡ before)

abbrev pub WritesEnd : BodyFraming → List ℕ → List ℕ → BodyWritten → BodyStage → Type 0
WritesEnd f before behind written.Piece left = ⊥
WritesEnd f before behind written.Pending left = ⊥
WritesEnd f before behind written.Done left =
    NoneIsDue f × (left ≡ stage.Sent) × (behind ≡ before ++ end_text f)
WritesEnd f before behind written.Broken left =
    ¬ (NoneIsDue f) × (left ≡ stage.Broken) × (behind ≡ before)
WritesEnd f before behind written.NoMemory left = (left ≡ stage.Broken) × (behind ≡ before)

-- nothing is written of a body after its end, or after it was given up
abbrev pub WritesNext : BodyStage → List ℕ → List ℕ → BodyWritten → BodyStage → Type 0
WritesNext (stage.Due f) before behind result left = WritesOne f before behind result left
WritesNext stage.Sent before behind result left =
    (result ≡ written.Done) × (left ≡ stage.Sent) × (behind ≡ before)
WritesNext stage.Broken before behind result left =
    (result ≡ written.Broken) × (left ≡ stage.Broken) × (behind ≡ before)

-- a body whose source states its marks, which are as the head of the reply states: this text is
-- still to be written
abbrev pub IsToCome : Feed → BodyStage → List ℕ → Type 0
IsToCome feed (stage.Due f) text =
    (marks : List Mark) × (feed.marks ≡ Some marks) × IsAsStated f marks
    × (text ≡ body_text f marks)
IsToCome feed stage.Sent text = text ≡ []
IsToCome feed stage.Broken text = ⊥

-- a front of the text was written, and the rest is to come
pub record WritesFront (text : List ℕ) (feed : Feed) (left : BodyStage) (before behind : List ℕ)
    : Type 0 where
  pub given : List ℕ
  pub rest : List ℕ
  pub written : behind ≡ before ++ given
  pub parts : text ≡ given ++ rest
  pub to_come : IsToCome feed left rest

-- of such a body: it is not given up but for want of memory
abbrev pub WritesOn : List ℕ → Feed → BodyStage → List ℕ → List ℕ → BodyWritten → Type 0
WritesOn text feed left before behind written.Piece = WritesFront text feed left before behind
WritesOn text feed left before behind written.Pending = WritesFront text feed left before behind
WritesOn text feed left before behind written.Done = WritesFront text feed left before behind
WritesOn text feed left before behind written.Broken = ⊥
WritesOn text feed left before behind written.NoMemory = ⊤

-- the source has fewer results left, where there may be a next piece
abbrev pub HasFewer : BodyWritten → Feed → Feed → Type 0
HasFewer written.Piece old new = new.answers < old.answers
HasFewer written.Pending old new = new.answers < old.answers
HasFewer written.Done old new = ⊤
HasFewer written.Broken old new = ⊤
HasFewer written.NoMemory old new = ⊤

-- A body ends where its source does, with nothing left to come. It is broken off where the source
-- failed, and memory is lacking where a piece was lost.
abbrev pub FollowsSource : BodyWritten → Feed → Feed → Type 0
FollowsSource written.Piece old new = (new.faults ≡ old.faults) × (new.lacked ≡ old.lacked)
FollowsSource written.Pending old new = (new.faults ≡ old.faults) × (new.lacked ≡ old.lacked)
FollowsSource written.Done old new =
    (new.answers ≡ 0) × (new.faults ≡ old.faults) × (new.lacked ≡ old.lacked)
FollowsSource written.Broken old new = new.lacked ≡ old.lacked
FollowsSource written.NoMemory old new = new.faults ≡ old.faults

-- nothing is read after the end of a body, or after it was given up
abbrev pub FollowsNext : BodyStage → BodyWritten → Feed → Feed → Type 0
FollowsNext (stage.Due f) result old new = FollowsSource result old new
FollowsNext stage.Sent result old new = new ≡ old
FollowsNext stage.Broken result old new = new ≡ old

-- the source of the body
abbrev pub body_feed : {S : Type 0} → (S → Feed) → DueBody S → Feed
body_feed feed due = payload_feed feed due.payload.value

-- ended, since a body was not written to its end
abbrev pub cut : ConnectionView → ConnectionView
cut c = record { limits = c.limits; left = c.left; ended = Some ended.SourceFault }

-- the connection after a body of which so much was written
abbrev pub after_body : BodyStage → ConnectionView → ConnectionView
after_body (stage.Due f) c = cut c
after_body stage.Sent c = c
after_body stage.Broken c = cut c
