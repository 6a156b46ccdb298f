-- A search that goes from one first byte of a text to the next.
use Rattle.std.proofs.Common.{◌≡◌, ℕ, ◌+◌, ◌-◌, ◌<◌, ◌≤◌, true, false, List, None, Some, length, get_or, take, drop, sym, ap, subst, ◌∙◌, arith, ⊎_elim, length-drop}
use Rattle.std.specs.Prelude.{nat_eq}
use Rattle.std.specs.List.{starts_with}
use Rattle.std.proofs.lemmas.Bool.{false≢true, cases_lt, eq-eqb}
use Rattle.std.proofs.lemmas.List.{get_or-drop, take_rest}
use Rattle.std.proofs.lemmas.Slice.Eq.{bytes_eq-Decides}
use Rattle.memchr.specs.Find.{IsFirstByte, Nowhere, OccursAt, Passes, is_byte}
use Rattle.memchr.proofs.lemmas.FindLemmas.{Nowhere-more, Nowhere-wider}
use Rattle.memchr.proofs.lemmas.MatchLemmas.{OccursAt-from_part, OccursAt-part}
use Rattle.web_multipart_parts.specs.Places.{place_of}
use Rattle.web_multipart_parts.proofs.PlaceLemmas.{place_found}

module _ (text bytes : List ℕ) (some : 0 < length text) (n : ℕ) (within : n ≤ length bytes) (none : Nowhere (OccursAt bytes text) 0 n) where
  -- where the text stands, its first byte does
  begins : (k : ℕ) → n ≤ k → OccursAt bytes text k → Passes (is_byte (get_or text 0 0)) (drop n bytes) (k - n)
  begins k h o =
      let same : n + (k - n) ≡ k + 0 = omega (arith, h) in
      eq-eqb _ _ (get_or-drop n bytes (k - n) 0 ∙ (ap (λ i. get_or bytes i 0) same ∙ o.reads 0 some))

  skips : (m : ℕ) → Nowhere (Passes (is_byte (get_or text 0 0)) (drop n bytes)) 0 m → Nowhere (OccursAt bytes text) 0 (n + m)
  skips m no_byte k l h o = ⊎_elim (λ less. none k l less o) (λ le. no_byte (k - n) (omega arith) (omega (arith, h, le)) (begins k le o)) (cases_lt k n)

  -- no first byte is left
  pub none_left : IsFirstByte (is_byte (get_or text 0 0)) (take (length bytes - n) (drop n bytes)) None → None ≡ place_of text bytes
  none_left found =
      let no_byte = subst (λ (xs : List ℕ). IsFirstByte (is_byte (get_or text 0 0)) xs None) (take_rest bytes n) found in
      let whole : n + length (drop n bytes) ≡ length bytes = omega (arith, within, length-drop n bytes) in
      let nowhere = subst (λ j. Nowhere (OccursAt bytes text) 0 j) whole (skips (length (drop n bytes)) no_byte) in
      place_found text bytes some None (Nowhere-wider (length bytes + 1) (λ k o. let fits = o.fits in omega (arith, fits, some)) nowhere)

  module _ (m : ℕ) (found : IsFirstByte (is_byte (get_or text 0 0)) (take (length bytes - n) (drop n bytes)) (Some m)) where
    next : IsFirstByte (is_byte (get_or text 0 0)) (drop n bytes) (Some m)
    next = subst (λ (xs : List ℕ). IsFirstByte (is_byte (get_or text 0 0)) xs (Some m)) (take_rest bytes n) found

    pub next_within : n + m < length bytes
    next_within = let high = next.0.high in omega (arith, high, within, length-drop n bytes)

    before : Nowhere (OccursAt bytes text) 0 (n + m)
    before = skips m next.0.before

    starts_at : (r : _) → r ≡ starts_with nat_eq (take (length bytes - (n + m)) (drop (n + m) bytes)) text → r ≡ starts_with nat_eq (drop (n + m) bytes) text
    starts_at r is = subst (λ (xs : List ℕ). r ≡ starts_with nat_eq xs text) (take_rest bytes (n + m)) is

    -- it is the text's
    pub stands_here : starts_with nat_eq (take (length bytes - (n + m)) (drop (n + m) bytes)) text ≡ true → length text ≤ length (take (length bytes - (n + m)) (drop (n + m) bytes)) → Some (n + m) ≡ place_of text bytes
    stands_here is room =
        let inside = next_within in
        let fits = subst (λ (xs : List ℕ). length text ≤ length xs) (take_rest bytes (n + m)) room in
        let here = starts_at true (sym is) in
        let part = sym ((bytes_eq-Decides text (take (length text) (drop (n + m) bytes))).0 (sym here)) in
        place_found text bytes some (Some (n + m)) (
          record { low = omega arith; high = omega (arith, inside); before = before },
          OccursAt-from_part bytes text (n + m) (omega (arith, fits, inside, length-drop (n + m) bytes)) part,
        )

    -- it is another
    pub goes_past : starts_with nat_eq (take (length bytes - (n + m)) (drop (n + m) bytes)) text ≡ false → Nowhere (OccursAt bytes text) 0 (n + m + 1)
    goes_past isnt =
        let here = starts_at false (sym isnt) in
        Nowhere-more before (λ o. false≢true (here ∙ (bytes_eq-Decides text (take (length text) (drop (n + m) bytes))).1 (sym (OccursAt-part bytes text (n + m) o))))
