-- What is buffered after a turn, and the size of the last piece.
use Rattle.std.proofs.Common.{◌≡◌, ℕ, ◌+◌, List, [], ◌∷◌, ◌++◌, Option, refl, sym, ◌∙◌, ap, length, arith, append_assoc}
use Rattle.std.specs.Prelude.{None, Some}
use Rattle.web_request.specs.declared.source.Mark.{Mark}
use Rattle.web_request.specs.declared.source.Mark.TheVariants.{Piece, Stall, Fault}
use Rattle.web_request.specs.Feed.{Feed, Takes, TakesLast, NoneLeft}
use Rattle.web_body.specs.declared.payload.Payload.{Payload}
use Rattle.web_body.specs.Payload.{GivesBytes, bytes_between}
use Rattle.web_body.proofs.PayloadCountLemmas.{gave_more}
use Rattle.web_lines.specs.declared.lines_collector.LineStep.{LineStep}
use Rattle.web_lines.specs.declared.lines_collector.LineStep.TheVariants as line
use Rattle.web_lines.specs.declared.lines_collector.LinesState.{LinesState}
use Rattle.web_lines.specs.declared.lines_collector.LinesState.TheVariants.{Over, Reading, Refused}
use Rattle.web_lines.specs.LineReading.{HoldsNothing, IsReading}
use Rattle.web_lines.specs.LastPieces.{LastTaken, last_size}
use Rattle.web_lines.specs.LineCuts.{TakesFirst}
use Rattle.web_lines.specs.NextLines.{BuffersLine, LastLine}
use Rattle.web_lines.proofs.LineCutLemmas.{first_size}
use Rattle.web_lines.proofs.NextLineLemmas.{ReadsOn, between}

-- nothing is held where nothing is read
pub held_nothing : (p : LinesState) (came : List ℕ) → HoldsNothing p came → (IsReading p → ⊥) → length came ≡ 0
held_nothing (Refused error) came holds stops = ap length holds
held_nothing Reading came holds stops = absurd (stops tt)
held_nothing Over came holds stops = ap length holds

-- ---- the last piece

last_more : (n : ℕ) (taken : List Mark) (x : Mark) → last_size n (taken ++ x ∷ []) ≡ last_size (last_size n taken) (x ∷ [])
last_more n [] x = refl
last_more n (Piece b ∷ m) x = last_more (length b) m x
last_more n (Stall ∷ m) x = last_more n m x
last_more n (Fault ∷ m) x = last_more n m x

pub none_taken : (m : Option (List Mark)) (n : ℕ) → LastTaken m n m n
none_taken None n = refl
none_taken (Some m) n = ([], m, refl, refl, refl)

-- one more mark is taken
takes_more : (first now new : Option (List Mark)) (n k : ℕ) (x : Mark) → LastTaken first n now k → Takes x now new → LastTaken first n new (last_size k (x ∷ []))
takes_more None now new n k x last t = rw last at t
takes_more (Some m) now new n k x (taken, rest, whole, left, is) t =
    let u = rw left at t in
    (taken ++ x ∷ [], u.0, whole ∙ (ap (λ r. taken ++ r) u.1 ∙ sym (append_assoc taken (x ∷ []) u.0)), u.2, rw is (sym (last_more n taken x)))

pub takes_piece : (first now new : Option (List Mark)) (n k : ℕ) (b : List ℕ) → LastTaken first n now k → Takes (Piece b) now new → LastTaken first n new (length b)
takes_piece first now new n k b last t = takes_more first now new n k (Piece b) last t

pub takes_stall : (first now new : Option (List Mark)) (n k : ℕ) → LastTaken first n now k → Takes Stall now new → LastTaken first n new k
takes_stall first now new n k last t = takes_more first now new n k Stall last t

as_takes : (now new : Option (List Mark)) (x : Mark) → TakesLast x now new → Takes x now new
as_takes None new x t = t
as_takes (Some m) new x t = ([], t.0, t.1)

pub takes_fault : (first now new : Option (List Mark)) (n k : ℕ) → LastTaken first n now k → TakesLast Fault now new → LastTaken first n new k
takes_fault first now new n k last t = takes_more first now new n k Fault last (as_takes now new Fault t)

same_marks : (now new : Option (List Mark)) → NoneLeft now new → new ≡ now
same_marks None new t = t
same_marks (Some m) new t = t.1 ∙ ap Some (sym t.0)

pub takes_none : (first now new : Option (List Mark)) (n k : ℕ) → LastTaken first n now k → NoneLeft now new → LastTaken first n new k
takes_none first now new n k last t = rw (same_marks now new t) last

pub takes_untold : (first now new : Option (List Mark)) (n k : ℕ) → LastTaken first n now k → now ≡ None → new ≡ None → LastTaken first n new k
takes_untold first now new n k last e f = rw (f, ← e) last

-- ---- the bytes

module _ {S : Type 0} (feed : S → Feed) (limit : ℕ) (first : Payload S) (held0 piece0 : List ℕ) (now : Payload S) (held piece : List ℕ) (on : ReadsOn feed limit first held0 piece0 now held piece) where
  pub line_buffers : (text held_new piece_new : List ℕ) → TakesFirst limit (held ++ piece) text held_new piece_new
      → BuffersLine (line.Line text) (length (held0 ++ piece0)) (bytes_between feed first now) (held_new ++ piece_new)
  line_buffers text held_new piece_new gives =
      let n = between feed first now on.given on.gave in
      let grew = on.grew in
      let parts = first_size limit (held ++ piece) text piece_new gives.first in
      rw gives.held_is (omega (arith, n, grew, parts))

  module _ (new : Payload S) (gave : GivesBytes feed now 0 new) where
    same_given : bytes_between feed first new ≡ on.given
    same_given = let n = between feed first new (on.given + 0) (gave_more feed first on.given now 0 new on.gave gave) in omega (arith, n)

    pub stall_buffers : BuffersLine line.Pending (length (held0 ++ piece0)) (bytes_between feed first new) (held ++ piece)
    stall_buffers = let grew = on.grew in let n = same_given in omega (arith, n, grew)

    pub end_buffers : (s : LineStep) (held_new piece_new : List ℕ) → LastLine (held ++ piece) s held_new piece_new
        → BuffersLine s (length (held0 ++ piece0)) (bytes_between feed first new) (held_new ++ piece_new)
    end_buffers line.Pending held_new piece_new last = elim last [ ]
    end_buffers (line.Line text) held_new piece_new last =
        let grew = on.grew in
        let n = same_given in
        let same = ap length last.0 in
        rw (last.3, last.4) (omega (arith, n, grew, same))
    end_buffers (line.Failed error) held_new piece_new last = tt
    end_buffers line.End held_new piece_new last = rw (last.1, last.2) refl
    end_buffers line.NoMemory held_new piece_new last = tt
