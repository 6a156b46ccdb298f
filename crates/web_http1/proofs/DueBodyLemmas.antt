-- A body that is written piece by piece.
use Rattle.std.proofs.Common.{◌≡◌, ℕ, false, List, [], ◌∷◌, ◌++◌, length, Option, None, Some, refl, sym, ap, ◌∙◌, subst, arith, append-nil, length-append}
use Rattle.web_request.specs.Body.{ends_in_fault, piece_bytes}
use Rattle.web_request.specs.Feed.{Feed, GivesPiece, Stalls, Fails, Ends, Takes, TakesLast, NoneLeft}
use Rattle.web_request.specs.declared.source.Mark.{Mark}
use Rattle.web_request.specs.declared.source.Mark.TheVariants as mark
use Rattle.web_http1.specs.declared.due_body.BodyFraming.{BodyFraming}
use Rattle.web_http1.specs.declared.due_body.BodyFraming.TheVariants.{Length, Chunked, UntilClose}
use Rattle.web_http1.specs.declared.due_body.BodyStage.{BodyStage}
use Rattle.web_http1.specs.declared.due_body.BodyStage.TheVariants as stage
use Rattle.web_http1.specs.declared.due_body.BodyWritten.{BodyWritten}
use Rattle.web_http1.specs.declared.due_body.BodyWritten.TheVariants as written
use Rattle.web_http1.specs.BodyFramings.{Fits, IsAsStated, NoneIsDue, after_bytes, body_text, end_text, last_chunk, piece_text}
use Rattle.web_http1.specs.DueBodies.{FollowsSource, HasFewer, IsToCome, WritesEnd, WritesOn, WritesOne, WritesPiece}

-- ---- the text of a body

piece_then : (f : BodyFraming) (b : List ℕ) (m : List Mark) → body_text f (mark.Piece b ∷ m) ≡ piece_text f b ++ body_text (after_bytes f (length b)) m
piece_then (Length n) b m = refl
piece_then Chunked b m = refl
piece_then UntilClose b m = refl

stall_then : (f : BodyFraming) (m : List Mark) → body_text f (mark.Stall ∷ m) ≡ body_text f m
stall_then (Length n) m = refl
stall_then Chunked m = refl
stall_then UntilClose m = refl

none_then : (f : BodyFraming) → body_text f [] ≡ end_text f ++ []
none_then (Length n) = refl
none_then Chunked = sym (append-nil last_chunk)
none_then UntilClose = refl

piece_stated : (f : BodyFraming) (b : List ℕ) (m : List Mark) → IsAsStated f (mark.Piece b ∷ m) → IsAsStated (after_bytes f (length b)) m
piece_stated (Length n) b m h = (h.0, let all = h.1 in let parts = length-append b (piece_bytes m) in omega (arith, all, parts))
piece_stated Chunked b m h = h
piece_stated UntilClose b m h = h

piece_fits : (f : BodyFraming) (b : List ℕ) (m : List Mark) → IsAsStated f (mark.Piece b ∷ m) → Fits f (length b)
piece_fits (Length n) b m h = let all = h.1 in let parts = length-append b (piece_bytes m) in omega (arith, all, parts)
piece_fits Chunked b m h = tt
piece_fits UntilClose b m h = tt

stall_stated : (f : BodyFraming) (m : List Mark) → IsAsStated f (mark.Stall ∷ m) → IsAsStated f m
stall_stated (Length n) m h = h
stall_stated Chunked m h = h
stall_stated UntilClose m h = h

none_stated : (f : BodyFraming) → IsAsStated f [] → NoneIsDue f
none_stated (Length n) h = sym h.1
none_stated Chunked h = tt
none_stated UntilClose h = tt

no_fault : (f : BodyFraming) (m : List Mark) → IsAsStated f m → ends_in_fault m ≡ false
no_fault (Length n) m h = h.0
no_fault Chunked m h = h
no_fault UntilClose m h = h

-- ---- the marks that are left

took : (x : Mark) (o n : Option (List Mark)) (left : List Mark) → o ≡ Some left → Takes x o n → (rest : List Mark) × (left ≡ x ∷ rest) × (n ≡ Some rest)
took x None n left is t = absurd (cc)
took x (Some m) n left is t = (t.0, cc (is, t.1), t.2)

last_of : (x : Mark) (o n : Option (List Mark)) (left : List Mark) → o ≡ Some left → TakesLast x o n → left ≡ x ∷ []
last_of x None n left is t = absurd (cc)
last_of x (Some m) n left is t = cc (is, t.0)

none_of : (o n : Option (List Mark)) (left : List Mark) → o ≡ Some left → NoneLeft o n → left ≡ []
none_of None n left is t = absurd (cc)
none_of (Some m) n left is t = cc (is, t.0)

-- ---- one call

module _ (f : BodyFraming) (old new : Feed) where
  pub piece_one : (b before behind : List ℕ) (w : BodyWritten) (left : BodyStage) → GivesPiece b old new → WritesPiece f b before behind w left → WritesOne f before behind w left
  piece_one b before behind written.Piece left g h = (b, g.some, h.0, h.1, h.2)
  piece_one b before behind written.Pending left g h = absurd h
  piece_one b before behind written.Done left g h = absurd h
  piece_one b before behind written.Broken left g h = (h.1, h.2)
  piece_one b before behind written.NoMemory left g h = h

  pub end_one : (before behind : List ℕ) (w : BodyWritten) (left : BodyStage) → WritesEnd f before behind w left → WritesOne f before behind w left
  end_one before behind written.Piece left h = absurd h
  end_one before behind written.Pending left h = absurd h
  end_one before behind written.Done left h = h
  end_one before behind written.Broken left h = (h.1, h.2)
  end_one before behind written.NoMemory left h = h

  pub piece_fewer : (b before behind : List ℕ) (w : BodyWritten) (left : BodyStage) → GivesPiece b old new → WritesPiece f b before behind w left → HasFewer w old new
  piece_fewer b before behind written.Piece left g h = g.answers
  piece_fewer b before behind written.Pending left g h = absurd h
  piece_fewer b before behind written.Done left g h = tt
  piece_fewer b before behind written.Broken left g h = tt
  piece_fewer b before behind written.NoMemory left g h = tt

  pub end_fewer : (before behind : List ℕ) (w : BodyWritten) (left : BodyStage) → WritesEnd f before behind w left → HasFewer w old new
  end_fewer before behind written.Piece left h = absurd h
  end_fewer before behind written.Pending left h = absurd h
  end_fewer before behind written.Done left h = tt
  end_fewer before behind written.Broken left h = tt
  end_fewer before behind written.NoMemory left h = tt

  pub piece_source : (b before behind : List ℕ) (w : BodyWritten) (left : BodyStage) → GivesPiece b old new → WritesPiece f b before behind w left → FollowsSource w old new
  piece_source b before behind written.Piece left g h = (g.faults, g.lacked)
  piece_source b before behind written.Pending left g h = absurd h
  piece_source b before behind written.Done left g h = absurd h
  piece_source b before behind written.Broken left g h = g.lacked
  piece_source b before behind written.NoMemory left g h = g.faults

  pub end_source : (before behind : List ℕ) (w : BodyWritten) (left : BodyStage) → Ends old new → WritesEnd f before behind w left → FollowsSource w old new
  end_source before behind written.Piece left e h = absurd h
  end_source before behind written.Pending left e h = absurd h
  end_source before behind written.Done left e h = (e.last, e.faults, e.lacked)
  end_source before behind written.Broken left e h = e.lacked
  end_source before behind written.NoMemory left e h = e.faults

  module _ (text : List ℕ) (come : IsToCome old (stage.Due f) text) where
    pub piece_on : (b before behind : List ℕ) (w : BodyWritten) (left : BodyStage) → GivesPiece b old new → WritesPiece f b before behind w left
        → WritesOn text new left before behind w
    piece_on b before behind written.Piece left g h =
        let t = took (mark.Piece b) old.marks new.marks come.0 come.1 g.takes in
        let rest = body_text (after_bytes f (length b)) t.0 in
        record {
          given = piece_text f b;
          rest = rest;
          written = h.2;
          parts = come.3 ∙ ap (body_text f) t.1 ∙ piece_then f b t.0;
          to_come = subst (λ (x : BodyStage). IsToCome new x rest) (sym h.1)
              (t.0, t.2, piece_stated f b t.0 (subst (IsAsStated f) t.1 come.2), refl);
        }
    piece_on b before behind written.Pending left g h = absurd h
    piece_on b before behind written.Done left g h = absurd h
    piece_on b before behind written.Broken left g h =
        let t = took (mark.Piece b) old.marks new.marks come.0 come.1 g.takes in
        h.0 (piece_fits f b t.0 (subst (IsAsStated f) t.1 come.2))
    piece_on b before behind written.NoMemory left g h = tt

    pub stall_on : (before : List ℕ) → Stalls old new → WritesOn text new (stage.Due f) before before written.Pending
    stall_on before g =
        let t = took mark.Stall old.marks new.marks come.0 come.1 g.takes in
        record {
          given = [];
          rest = text;
          written = sym (append-nil before);
          parts = refl;
          to_come = (t.0, t.2, stall_stated f t.0 (subst (IsAsStated f) t.1 come.2), come.3 ∙ ap (body_text f) t.1 ∙ stall_then f t.0);
        }

    pub no_fault_on : Fails old new → ⊥
    no_fault_on g =
        let last = last_of mark.Fault old.marks new.marks come.0 come.1 g.takes in
        let whole = no_fault f come.0 come.2 in
        absurd (cc (ap ends_in_fault (sym last), whole))

    pub end_on : (before behind : List ℕ) (w : BodyWritten) (left : BodyStage) → Ends old new → WritesEnd f before behind w left → WritesOn text new left before behind w
    end_on before behind written.Piece left g h = absurd h
    end_on before behind written.Pending left g h = absurd h
    end_on before behind written.Done left g h =
        let none = none_of old.marks new.marks come.0 come.1 g.left in
        record {
          given = end_text f;
          rest = [];
          written = h.2;
          parts = come.3 ∙ ap (body_text f) none ∙ none_then f;
          to_come = subst (λ (x : BodyStage). IsToCome new x []) (sym h.1) refl;
        }
    end_on before behind written.Broken left g h =
        let none = none_of old.marks new.marks come.0 come.1 g.left in
        h.0 (none_stated f (subst (IsAsStated f) none come.2))
    end_on before behind written.NoMemory left g h = tt

    -- a source that states its marks does not lack memory
    pub lacks_on : (before : List ℕ) (w : BodyWritten) (left : BodyStage) → WritesOn text new left before before written.NoMemory
    lacks_on before w left = tt
