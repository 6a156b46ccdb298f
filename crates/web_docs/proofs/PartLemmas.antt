-- The bytes at the positions of an interval.
use Rattle.std.proofs.Common.{◌≡◌, ◌<◌, ◌≤◌, ℕ, ◌+◌, ◌-◌, suc, zero, List, [], ◌∷◌, Some, length, take, drop, refl, sym, ap, ◌∙◌, inl, inr, arith, length-drop}
use Rattle.std.proofs.lemmas.List.{length-take-le}
use Rattle.std.specs.Prelude.{slice_get}
use Rattle.web_entities.specs.declared.ranges.ByteRangeSpec.{ByteRangeSpec}
use Rattle.web_entities.specs.declared.ranges.ByteRangeSpec.TheVariants as spec
use Rattle.web_negotiate.specs.SelectedPositions.{AreEnds, Selects}
use Rattle.web_docs.specs.SentPositions.{AreBytesAt}

drop_none : (a : ℕ) → drop {A = ℕ} a [] ≡ []
drop_none zero = refl
drop_none (suc a) = refl

-- the set is the positions from a up to n
pub record IsInterval (In : ℕ → Type 0) (a n : ℕ) : Type 0 where
  pub within : (p : ℕ) → In p → (a ≤ p) × (p < n)
  pub all : (p : ℕ) → a ≤ p → p < n → In p

module _ (In : ℕ → Type 0) where
  no_more : (a n : ℕ) → n ≤ a → IsInterval In a n → IsInterval (λ p. In (p + 1)) 0 0
  no_more a n le is = record {
    within = λ p h. let w = is.within (p + 1) h in absurd (omega arith);
    all = λ p h k. absurd (omega arith);
  }

  from_here : (n : ℕ) → IsInterval In 0 (suc n) → IsInterval (λ p. In (p + 1)) 0 n
  from_here n is = record {
    within = λ p h. let w = is.within (p + 1) h in (omega arith, omega arith);
    all = λ p h k. is.all (p + 1) (omega arith) (omega arith);
  }

  from_next : (a n : ℕ) → IsInterval In (suc a) (suc n) → IsInterval (λ p. In (p + 1)) a n
  from_next a n is = record {
    within = λ p h. let w = is.within (p + 1) h in (omega arith, omega arith);
    all = λ p h k. is.all (p + 1) (omega arith) (omega arith);
  }

pub bytes_at_interval : (In : ℕ → Type 0) (a n : ℕ) (document : List ℕ) → IsInterval In a n → AreBytesAt In document (drop a (take n document))
bytes_at_interval In a zero [] is = drop_none a
bytes_at_interval In a (suc n) [] is = drop_none a
bytes_at_interval In zero zero (byte ∷ more) is =
    inr (λ h. absurd (omega (arith, is.within 0 h)), bytes_at_interval (λ p. In (p + 1)) 0 0 more (no_more In 0 0 (omega arith) is))
bytes_at_interval In (suc a) zero (byte ∷ more) is =
    inr (λ h. absurd (omega (arith, is.within 0 h)), bytes_at_interval (λ p. In (p + 1)) 0 0 more (no_more In (suc a) 0 (omega arith) is))
bytes_at_interval In zero (suc n) (byte ∷ more) is =
    inl (is.all 0 (omega arith) (omega arith), take n more, refl, bytes_at_interval (λ p. In (p + 1)) 0 n more (from_here In n is))
bytes_at_interval In (suc a) (suc n) (byte ∷ more) is =
    inr (λ h. absurd (omega (arith, is.within 0 h)), bytes_at_interval (λ p. In (p + 1)) a n more (from_next In a n is))

pub one_part : (In : ℕ → Type 0) (document part other : List ℕ) → AreBytesAt In document part → AreBytesAt In document other → part ≡ other
one_part In [] part other is also = is ∙ sym also
one_part In (byte ∷ more) part other (inl is) (inl also) =
    is.2 ∙ ap (λ rest. byte ∷ rest) (one_part (λ p. In (p + 1)) more is.1 also.1 is.3 also.3) ∙ sym also.2
one_part In (byte ∷ more) part other (inl is) (inr also) = absurd (also.0 is.0)
one_part In (byte ∷ more) part other (inr is) (inl also) = absurd (is.0 also.0)
one_part In (byte ∷ more) part other (inr is) (inr also) = one_part (λ p. In (p + 1)) more part other is.1 also.1

-- ---- the positions that a byte range selects

below : (s : ByteRangeSpec) (n p : ℕ) → Selects s n p → p < n
below (spec.FromTo a b) n p h = h.0
below (spec.From a) n p h = h.0
below (spec.Last k) n p h = h.0

pub ends_within : (s : ByteRangeSpec) (n a b : ℕ) → AreEnds (Selects s n) (Some (a, b)) → (a ≤ b) × (b < n)
ends_within s n a b are = ((are.2 a are.0).1, below s n b are.1)

-- what lies between two positions that are selected is selected
between : (s : ByteRangeSpec) (n a b p : ℕ) → Selects s n a → Selects s n b → a ≤ p → p ≤ b → Selects s n p
between (spec.FromTo x y) n a b p h k low high = (omega (arith, k), omega (arith, h), omega (arith, k))
between (spec.From x) n a b p h k low high = (omega (arith, k), omega (arith, h))
between (spec.Last x) n a b p h k low high = (omega (arith, k), omega (arith, h))

pub selected_interval : (s : ByteRangeSpec) (n a b : ℕ) → AreEnds (Selects s n) (Some (a, b)) → IsInterval (Selects s n) a (b + 1)
selected_interval s n a b are = record {
  within = λ p h. let w = are.2 p h in (w.0, omega arith);
  all = λ p low high. between s n a b p are.0 are.1 low (omega arith);
}

module _ (s : ByteRangeSpec) (document : List ℕ) (a b : ℕ) (are : AreEnds (Selects s (length document)) (Some (a, b))) where
  pub selected_bytes : AreBytesAt (Selects s (length document)) document (drop a (take (b + 1) document))
  selected_bytes = bytes_at_interval (Selects s (length document)) a (b + 1) document (selected_interval s (length document) a b are)

  pub is_slice : (part : List ℕ) → AreBytesAt (Selects s (length document)) document part → part ≡ drop a (take (b + 1) document)
  is_slice part sent = one_part (Selects s (length document)) document part _ sent selected_bytes

-- ---- places in a slice

get_drop : (a q : ℕ) (xs : List ℕ) → slice_get (drop a xs) q ≡ slice_get xs (a + q)
get_drop zero q xs = ap (slice_get xs) (omega arith)
get_drop (suc a) q [] = refl
get_drop (suc a) q (x ∷ xs) =
    let same : suc (a + q) ≡ suc a + q = omega arith in
    get_drop a q xs ∙ ap (slice_get (x ∷ xs)) same

get_take : (n p : ℕ) (xs : List ℕ) → p < n → slice_get (take n xs) p ≡ slice_get xs p
get_take zero p xs low = absurd (omega arith)
get_take (suc n) p [] low = refl
get_take (suc n) zero (x ∷ xs) low = refl
get_take (suc n) (suc p) (x ∷ xs) low = get_take n p xs (omega arith)

pub slice_at : (a n p : ℕ) (document : List ℕ) → a ≤ p → p < n → slice_get (drop a (take n document)) (p - a) ≡ slice_get document p
slice_at a n p document low high =
    let there : a + (p - a) ≡ p = omega arith in
    get_drop a (p - a) (take n document) ∙ ap (slice_get (take n document)) there ∙ get_take n p document high

pub slice_length : (a n : ℕ) (document : List ℕ) → a ≤ n → n ≤ length document → a + length (drop a (take n document)) ≡ n
slice_length a n document low high =
    let taken : length (take n document) ≡ n = length-take-le n document high in
    omega (arith, length-drop a (take n document), taken)

-- ---- the law of parts

module _ (s : ByteRangeSpec) (document part : List ℕ) (a b : ℕ) (are : AreEnds (Selects s (length document)) (Some (a, b))) (sent : AreBytesAt (Selects s (length document)) document part) where
  pub part_length : a + length part ≡ b + 1
  part_length =
      let ends = ends_within s (length document) a b are in
      ap (λ bytes. a + length bytes) (is_slice s document a b are part sent) ∙ slice_length a (b + 1) document (omega arith) (omega arith)

  pub part_at : (p : ℕ) → Selects s (length document) p → slice_get part (p - a) ≡ slice_get document p
  part_at p h =
      let w = are.2 p h in
      ap (λ bytes. slice_get bytes (p - a)) (is_slice s document a b are part sent) ∙ slice_at a (b + 1) p document w.0 (omega arith)
