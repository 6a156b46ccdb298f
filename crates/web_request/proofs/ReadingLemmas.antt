-- Reading goes mark by mark.
use Rattle.std.proofs.Common.{◌≡◌, ℕ, suc, ◌+◌, ◌<◌, ◌≤◌, Bool, true, false, cond, List, [], ◌∷◌, ◌++◌, map, length, refl, sym, ◌∙◌, ap, arith, nat_lt, append_assoc, append-nil}
use Rattle.std.specs.Prelude.{Option, None, Some}
use Rattle.std.specs.Option.{option_map}
use Rattle.std.specs.List.{find}
use Rattle.std.proofs.lemmas.List.{length-append}
use Rattle.std.proofs.Math.Nat.{zero-add, add-zero, add_assoc}
use Rattle.std.proofs.lemmas.Bool.Decides.{nat_tests}
use Rattle.web_request.specs.declared.source.Mark.{Mark}
use Rattle.web_request.specs.declared.source.Mark.TheVariants.{Piece, Stall, Fault}
use Rattle.web_request.specs.Body.{piece_bytes, stalls, whole, ends_in_fault, prefixes}
use Rattle.web_request.specs.Reading.{first_over, Over, Faulty, Whole, Reading, reading_at, reading}

find_map : {A B : Type 0} (P : B → Bool) (f : A → B) (l : List A) → find P (map f l) ≡ option_map f (find (λ x. P (f x)) l)
find_map P f [] = refl
find_map P f (x ∷ l) = elim (P (f x)) as (λ b. cond b (Some (f x)) (find P (map f l)) ≡ option_map f (cond b (Some x) (find (λ x. P (f x)) l))) [ true ↦ refl | false ↦ find_map P f l ]

find_same : {A : Type 0} (P Q : A → Bool) → ((x : A) → P x ≡ Q x) → (l : List A) → find P l ≡ find Q l
find_same P Q e [] = refl
find_same P Q e (x ∷ l) = rw (e x, find_same P Q e l) refl

-- the bytes of one mark
abbrev pub size_of : Mark → ℕ
size_of (Piece b) = length b
size_of Stall = 0
size_of Fault = 0

-- the same, counted from k bytes on
abbrev pub scan : ℕ → ℕ → List Mark → Option (List Mark)
scan limit k [] = cond (nat_lt limit k) (Some []) None
scan limit k (x ∷ m) = cond (nat_lt limit k) (Some []) (option_map (λ p. x ∷ p) (scan limit (k + size_of x) m))

joined_size : (x : Mark) (p : List Mark) → length (piece_bytes (x ∷ p)) ≡ size_of x + length (piece_bytes p)
joined_size (Piece b) p = length-append b (piece_bytes p)
joined_size Stall p = sym (zero-add (length (piece_bytes p)))
joined_size Fault p = sym (zero-add (length (piece_bytes p)))

scan_is : (limit k : ℕ) (m : List Mark) → find (λ p. nat_lt limit (k + length (piece_bytes p))) (prefixes m) ≡ scan limit k m
scan_is limit k [] = rw add-zero refl
scan_is limit k (x ∷ m) =
    rw (
      add-zero,
      find_map (λ p. nat_lt limit (k + length (piece_bytes p))) (λ p. x ∷ p) (prefixes m),
      find_same (λ p. nat_lt limit (k + length (piece_bytes (x ∷ p)))) (λ p. nat_lt limit ((k + size_of x) + length (piece_bytes p)))
          (λ p. ap (nat_lt limit) (ap (λ n. k + n) (joined_size x p) ∙ sym (add_assoc k (size_of x) (length (piece_bytes p))))) (prefixes m),
      scan_is limit (k + size_of x) m,
    ) refl

abbrev pub goes_on_at : Option (List Mark) → List ℕ → List Mark → Reading
goes_on_at (Some p) held m = record { content = Over (length held + length (piece_bytes p)); delay = stalls p }
goes_on_at None held m = record { content = cond (ends_in_fault m) Faulty (Whole (held ++ piece_bytes m)); delay = stalls m }

-- what reading m gives after the bytes held
abbrev pub goes_on : ℕ → List ℕ → List Mark → Reading
goes_on limit held m = goes_on_at (scan limit (length held) m) held m

fits_test : (limit k : ℕ) → k ≤ limit → nat_lt limit k ≡ false
fits_test limit k h = grind (arith, nat_tests)

over_test : (limit k : ℕ) → limit < k → nat_lt limit k ≡ true
over_test limit k h = grind (arith, nat_tests)

first_over_is : (limit : ℕ) (m : List Mark) → first_over limit m ≡ scan limit 0 m
first_over_is limit m = find_same (λ p. nat_lt limit (length (piece_bytes p))) (λ p. nat_lt limit (0 + length (piece_bytes p))) (λ p. ap (nat_lt limit) (sym (zero-add (length (piece_bytes p))))) (prefixes m) ∙ scan_is limit 0 m

reading_none : (limit : ℕ) (o : Option (List Mark)) (m : List Mark) → reading_at o m ≡ goes_on_at o [] m
reading_none limit None m = refl
reading_none limit (Some p) m = rw zero-add refl

reading_some : (o : Option (List Mark)) (x : ℕ) (held : List ℕ) (m : List Mark)
    → reading_at (option_map (λ p. Piece (x ∷ held) ∷ p) o) (Piece (x ∷ held) ∷ m) ≡ goes_on_at o (x ∷ held) m
reading_some None x held m = refl
reading_some (Some p) x held m = rw (length-append (x ∷ held) (piece_bytes p)) refl

pub reading_held : (limit : ℕ) (held : List ℕ) (m : List Mark) → length held ≤ limit → reading limit (whole held ++ m) ≡ goes_on limit held m
unfolding reading
reading_held limit [] m h = rw (first_over_is limit m) (reading_none limit (scan limit 0 m) m)
reading_held limit (x ∷ held) m h =
    rw (first_over_is limit (Piece (x ∷ held) ∷ m), fits_test limit 0 (omega arith), zero-add (length (x ∷ held)))
    (reading_some (scan limit (length (x ∷ held)) m) x held m)

fits_piece_at : (o : Option (List Mark)) (held b : List ℕ) (m : List Mark)
    → goes_on_at (option_map (λ p. Piece b ∷ p) o) held (Piece b ∷ m) ≡ goes_on_at o (held ++ b) m
fits_piece_at None held b m = simp append_assoc
fits_piece_at (Some p) held b m = simp (length-append, add_assoc)

pub goes_on-piece : (limit : ℕ) (held b : List ℕ) (m : List Mark) → length held ≤ limit
    → goes_on limit held (Piece b ∷ m) ≡ goes_on limit (held ++ b) m
goes_on-piece limit held b m h =
    rw (fits_test limit (length held) h, length-append held b) (fits_piece_at (scan limit (length held + length b) m) held b m)

scan_over : (limit k : ℕ) (m : List Mark) → limit < k → scan limit k m ≡ Some []
scan_over limit k [] h = rw (over_test limit k h) refl
scan_over limit k (x ∷ m) h = rw (over_test limit k h) refl

pub goes_on-over : (limit : ℕ) (held b : List ℕ) (m : List Mark) → length held ≤ limit → limit < length held + length b
    → goes_on limit held (Piece b ∷ m) ≡ record { content = Over (length held + length b); delay = 0 }
goes_on-over limit held b m h over =
    rw (fits_test limit (length held) h, scan_over limit (length held + length b) m over) (simp append-nil)

stall_at : (o : Option (List Mark)) (held : List ℕ) (m : List Mark)
    → goes_on_at (option_map (λ p. Stall ∷ p) o) held (Stall ∷ m)
    ≡ record { content = (goes_on_at o held m).content; delay = suc ((goes_on_at o held m).delay) }
stall_at None held m = refl
stall_at (Some p) held m = refl

pub goes_on-stall : (limit : ℕ) (held : List ℕ) (m : List Mark) → length held ≤ limit
    → goes_on limit held (Stall ∷ m) ≡ record { content = (goes_on limit held m).content; delay = suc ((goes_on limit held m).delay) }
goes_on-stall limit held m h =
    rw (fits_test limit (length held) h, add-zero) (stall_at (scan limit (length held) m) held m)

pub goes_on-fault : (limit : ℕ) (held : List ℕ) → length held ≤ limit
    → goes_on limit held (Fault ∷ []) ≡ record { content = Faulty; delay = 0 }
goes_on-fault limit held h = rw (fits_test limit (length held) h, add-zero, fits_test limit (length held) h) refl

pub goes_on-end : (limit : ℕ) (held : List ℕ) → length held ≤ limit
    → goes_on limit held [] ≡ record { content = Whole held; delay = 0 }
goes_on-end limit held h = rw (fits_test limit (length held) h) (simp append-nil)

scan_small : (limit k : ℕ) (m : List Mark) → k + length (piece_bytes m) ≤ limit → scan limit k m ≡ None
scan_small limit k [] h = rw (fits_test limit k (omega (arith, h))) refl
scan_small limit k (x ∷ m) h =
    let size = joined_size x m in
    rw (fits_test limit k (omega (arith, h)), scan_small limit (k + size_of x) m (omega (arith, h, size))) refl

-- a limit that no prefix passes decides nothing
pub reading_small : (limit : ℕ) (m : List Mark) → length (piece_bytes m) ≤ limit → reading limit m ≡ reading_at None m
reading_small limit m h = rw (reading_held limit [] m (omega arith), scan_small limit 0 m (omega (arith, h))) refl
