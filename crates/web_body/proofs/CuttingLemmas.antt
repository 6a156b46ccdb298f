-- Reading one body in two cuttings.
use Rattle.std.proofs.Common.{◌≡◌, ◌⊎◌, inl, inr, ℕ, ◌+◌, ◌<◌, ◌≤◌, Bool, true, false, cond, List, [], ◌∷◌, length, refl, ◌∙◌, ap, arith, nat_lt}
use Rattle.std.specs.Prelude.{Some}
use Rattle.std.proofs.lemmas.Bool.{cases_lt}
use Rattle.std.proofs.lemmas.Bool.Decides.{nat_tests}
use Rattle.std.proofs.lemmas.List.{length-append}
use Rattle.web_request.specs.declared.source.Mark.{Mark}
use Rattle.web_request.specs.declared.source.Mark.TheVariants.{Fault, Piece, Stall}
use Rattle.web_request.specs.Body.{ends_in_fault, piece_bytes}
use Rattle.web_request.specs.Reading.{Faulty, Over, Reading, Whole, reading}
use Rattle.web_request.proofs.ReadingLemmas.{goes_on, reading_held, reading_small, scan, size_of}
use Rattle.web_body.specs.Cuttings.{SameBody, SameContent}

over_test : (limit k : ℕ) → limit < k → nat_lt limit k ≡ true
over_test limit k h = grind (arith, nat_tests)

joined_size : (x : Mark) (p : List Mark) → length (piece_bytes (x ∷ p)) ≡ size_of x + length (piece_bytes p)
joined_size (Piece b) p = length-append b (piece_bytes p)
joined_size Stall p = omega arith
joined_size Fault p = omega arith

passes_by : (limit k : ℕ) (x : Mark) (m : List Mark) (b : Bool) → nat_lt limit k ≡ b → (b ≡ false → (p : List Mark) × (scan limit (k + size_of x) m ≡ Some p))
    → (p : List Mark) × (scan limit k (x ∷ m) ≡ Some p)
passes_by limit k x m true is rest = ([], rw is refl)
passes_by limit k x m false is rest = let r = rest refl in (x ∷ r.0, rw (is, r.1) refl)

-- some prefix passes a limit that all bytes pass
scan_passes : (limit k : ℕ) (m : List Mark) → limit < k + length (piece_bytes m) → (p : List Mark) × (scan limit k m ≡ Some p)
scan_passes limit k [] h = ([], rw (over_test limit k (omega (arith, h))) refl)
scan_passes limit k (x ∷ m) h =
    passes_by limit k x m (nat_lt limit k) refl (λ within. let size = joined_size x m in scan_passes limit (k + size_of x) m (omega (arith, h, size)))

over_at : (limit : ℕ) (m p : List Mark) → scan limit 0 m ≡ Some p → (goes_on limit [] m).content ≡ Over (0 + length (piece_bytes p))
over_at limit m p e = rw e refl

-- a body of more bytes than the limit passes it
pub passes : (limit : ℕ) (m : List Mark) → limit < length (piece_bytes m) → (size : ℕ) × ((reading limit m).content ≡ Over size)
passes limit m h =
    let p = scan_passes limit 0 m (omega (arith, h)) in
    let whole_is : reading limit m ≡ goes_on limit [] m = reading_held limit [] m (omega arith) in
    (0 + length (piece_bytes p.0), ap (λ (r : Reading). r.content) whole_is ∙ over_at limit m p.0 p.1)

pub fits : (limit : ℕ) (m : List Mark) → length (piece_bytes m) ≤ limit → (reading limit m).content ≡ cond (ends_in_fault m) Faulty (Whole (piece_bytes m))
fits limit m h = ap (λ (r : Reading). r.content) (reading_small limit m h)

by_ending : (b c : Bool) (xs ys : List ℕ) → b ≡ c → xs ≡ ys → SameContent (cond b Faulty (Whole xs)) (cond c Faulty (Whole ys))
by_ending true true xs ys e same = tt
by_ending true false xs ys e same = absurd (cc e)
by_ending false true xs ys e same = absurd (cc e)
by_ending false false xs ys e same = same

module _ (limit : ℕ) (m n : List Mark) (same : SameBody m n) where
  by_size : (limit < length (piece_bytes m)) ⊎ (length (piece_bytes m) ≤ limit) → SameContent (reading limit m).content (reading limit n).content
  by_size (inl h) =
      let size = ap length same.bytes in
      let first = passes limit m h in
      let second = passes limit n (omega (arith, h, size)) in
      rw (first.1, second.1) tt
  by_size (inr h) =
      let size = ap length same.bytes in
      rw (fits limit m h, fits limit n (omega (arith, h, size))) (by_ending _ _ _ _ same.ending same.bytes)

  pub same_content : SameContent (reading limit m).content (reading limit n).content
  same_content = by_size (cases_lt limit (length (piece_bytes m)))
