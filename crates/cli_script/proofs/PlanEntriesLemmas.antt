-- Numbers with one space between, byte by byte.
use Rattle.std.proofs.Common.{◌≡◌, ◌==◌, ◌≤◌, ◌<◌, ◌+◌, ◌&&◌, ℕ, Bool, true, false, not, List, [], ◌∷◌, ◌++◌, map, length, drop, get_or, cond, Option, Some, None, refl, ap, sym, ◌∙◌, append_assoc, arith, length-append}
use Rattle.std.specs.Prelude.{nat_le}
use Rattle.std.specs.Char.{is_ascii_digit}
use Rattle.std.specs.Option.{option_map, option_and_then}
use Rattle.std.specs.List.{slice_split, list_all, onto_first}
use Rattle.std.proofs.Math.Seq.{take-append_seam}
use Rattle.std.proofs.lemmas.Bool.Decides.{nat_tests}
use Rattle.std.proofs.lemmas.List.{append-nil, get_or_at, at_drop_more, drop_all}
use Rattle.std.proofs.lemmas.List.Folds.{list_all-append}
use Rattle.std.proofs.lemmas.List.Sums.{fold-append}
use Rattle.std.proofs.lemmas.List.Splits.{length-slice_split}
use Rattle.web_texts.proofs.DigitsLemmas.{too_large}
use Rattle.web_texts.specs.Digits.{append_digit, digits_up_to, digits_value}
use Rattle.cli_script.specs.Line.{is_space}
use Rattle.cli_script.specs.PlanEntries.{all_values, entries_of, max_entry, IsAdded}

-- the entries of what is left, where a number of this value is begun, or none
unfoldable pub entries_on : Bool → ℕ → List ℕ → Option (List ℕ)
entries_on begun value [] = cond begun (Some (value ∷ [])) None
entries_on begun value (b ∷ rest) =
    cond (is_ascii_digit b) (cond (nat_le (append_digit value b) max_entry) (entries_on true (append_digit value b) rest) None)
    (cond ((b == 32) && begun) (option_map (λ ns. value ∷ ns) (entries_on false 0 rest)) None)

abbrev pub with_front : List ℕ → Option (List ℕ) → Option (List ℕ)
with_front front others = option_map (λ rest. front ++ rest) others

pushed : (front : List ℕ) (n : ℕ) (others : Option (List ℕ)) → with_front front (option_map (λ ns. n ∷ ns) others) ≡ with_front (front ++ n ∷ []) others
pushed front n None = refl
pushed front n (Some rest) = ap Some (sym (append_assoc front (n ∷ []) rest))

-- ---- one byte, as the loop reads it

next_fits : (fits : Bool) (v next : ℕ) → Some next ≡ cond fits (Some v) None → (fits ≡ true) × (next ≡ v)
next_fits true v next is = (refl, cc)
next_fits false v next is = absurd (cc)

next_past : (fits : Bool) (v : ℕ) → None ≡ cond fits (Some v) None → fits ≡ false
next_past true v is = absurd (cc)
next_past false v is = refl

module _ (front : List ℕ) (begun : Bool) (value b : ℕ) (left : List ℕ) (all : Option (List ℕ)) (so_far : with_front front (entries_on begun value (b ∷ left)) ≡ all) where
  pub digit_read : (next : ℕ) → is_ascii_digit b ≡ true → Some next ≡ cond (nat_le (append_digit value b) max_entry) (Some (append_digit value b)) None
      → (with_front front (entries_on true next left) ≡ all) × (next ≤ max_entry)
  unfolding entries_on
  digit_read next digit is =
      let found = next_fits (nat_le (append_digit value b) max_entry) (append_digit value b) next is in
      let small : append_digit value b ≤ max_entry = (let fits = found.0 in grind (arith, nat_tests)) in
      rw found.1 (rw (digit, found.0) at so_far, small)

  pub digit_large : is_ascii_digit b ≡ true → None ≡ cond (nat_le (append_digit value b) max_entry) (Some (append_digit value b)) None → None ≡ all
  unfolding entries_on
  digit_large digit is =
      let past = next_past (nat_le (append_digit value b) max_entry) (append_digit value b) is in
      rw (digit, past) at so_far

  pub space_read : is_ascii_digit b ≡ false → (b == 32) ≡ true → begun ≡ true → with_front (front ++ value ∷ []) (entries_on false 0 left) ≡ all
  unfolding entries_on
  space_read digit space is = sym (pushed front value (entries_on false 0 left)) ∙ rw (digit, space, is) at so_far

  pub other_read : is_ascii_digit b ≡ false → ((b == 32) && begun) ≡ false → None ≡ all
  unfolding entries_on
  other_read digit other = rw (digit, other) at so_far

end_read : (front : List ℕ) (begun : Bool) (value : ℕ) (all : Option (List ℕ)) → with_front front (entries_on begun value []) ≡ all → cond begun (Some (front ++ value ∷ [])) None ≡ all
unfolding entries_on
end_read front true value all e = e
end_read front false value all e = e

-- ---- the entries byte by byte are the entries part by part

abbrev is_begun : List ℕ → Bool
is_begun [] = false
is_begun (x ∷ front) = true

-- the first part goes on from this one
abbrev onto_front : List ℕ → List (List ℕ) → List (List ℕ)
onto_front front [] = []
onto_front front (part ∷ parts) = (front ++ part) ∷ parts

abbrev parts_on : List ℕ → List (List ℕ) → Option (List ℕ)
parts_on front parts = all_values (map (digits_up_to max_entry) (onto_front front parts))

front_value : (front : List ℕ) → list_all is_ascii_digit front ≡ true → digits_value front ≤ max_entry
    → digits_up_to max_entry front ≡ cond (is_begun front) (Some (digits_value front)) None
front_value [] digits small = refl
front_value (x ∷ front) digits small =
    let some : (length (x ∷ front) == 0) ≡ false = grind (arith, nat_tests) in
    let fits : nat_le (digits_value (x ∷ front)) max_entry ≡ true = grind (arith, nat_tests) in
    rw (some, digits, fits) refl

begun_more : (front : List ℕ) (b : ℕ) → is_begun (front ++ b ∷ []) ≡ true
begun_more [] b = refl
begun_more (x ∷ front) b = refl

value_more : (front : List ℕ) (b : ℕ) → digits_value (front ++ b ∷ []) ≡ append_digit (digits_value front) b
value_more front b = fold-append _ 0 front (b ∷ [])

digits_more : (front : List ℕ) (b : ℕ) → list_all is_ascii_digit front ≡ true → is_ascii_digit b ≡ true → list_all is_ascii_digit (front ++ b ∷ []) ≡ true
digits_more front b digits digit = rw (list_all-append is_ascii_digit front (b ∷ []), digits, digit) refl

-- a part with a byte that is no digit, or that takes it past the greatest entry

and_false : (a : Bool) → (a && false) ≡ false
and_false true = refl
and_false false = refl

unfit : (a c : Bool) (v : ℕ) → cond ((a && false) && c) (Some v) None ≡ None
unfit true c v = refl
unfit false c v = refl

unfit_value : (front : List ℕ) (b : ℕ) (part : List ℕ) → is_ascii_digit b ≡ false → digits_up_to max_entry (front ++ b ∷ part) ≡ None
unfit_value front b part digit =
    let none : list_all is_ascii_digit (front ++ b ∷ part) ≡ false = rw (list_all-append is_ascii_digit front (b ∷ part), digit) (and_false (list_all is_ascii_digit front)) in
    rw none (unfit (not (length (front ++ b ∷ part) == 0)) _ _)

large_value : (front : List ℕ) (b : ℕ) (part : List ℕ) → max_entry < append_digit (digits_value front) b → digits_up_to max_entry (front ++ b ∷ part) ≡ None
large_value front b part large =
    let past : nat_le (append_digit (digits_value front) b) max_entry ≡ false = grind (arith, nat_tests) in
    too_large (front ++ b ∷ part) (length front) max_entry (rw length-append (omega arith))
    (rw (take-append_seam front (b ∷ part), get_or_at front b part 0 (length front) refl, past) refl)

none_on : (front : List ℕ) (b : ℕ) (parts : List (List ℕ)) → 0 < length parts → ((part : List ℕ) → digits_up_to max_entry (front ++ b ∷ part) ≡ None) → None ≡ parts_on front (onto_first b parts)
none_on front b [] some none = absurd (omega arith)
none_on front b (part ∷ parts) some none = rw (none part) refl

more_on : (front : List ℕ) (b : ℕ) (parts : List (List ℕ)) → 0 < length parts → parts_on (front ++ b ∷ []) parts ≡ parts_on front (onto_first b parts)
more_on front b [] some = absurd (omega arith)
more_on front b (part ∷ parts) some = rw (append_assoc front (b ∷ []) part) refl

nothing_before : (parts : List (List ℕ)) → parts_on [] parts ≡ all_values (map (digits_up_to max_entry) parts)
nothing_before [] = refl
nothing_before (part ∷ parts) = refl

has_parts : (text : List ℕ) → 0 < length (slice_split is_space text)
has_parts text = omega (arith, length-slice_split is_space text)

joins : (begun : Bool) (value : ℕ) (others : Option (List ℕ)) → cond (true && begun) (option_map (λ ns. value ∷ ns) others) None ≡ option_and_then (λ n. option_map (λ ns. n ∷ ns) others) (cond begun (Some value) None)
joins true value others = refl
joins false value others = refl

ends : (begun : Bool) (value : ℕ) → cond begun (Some (value ∷ [])) None ≡ option_and_then (λ n. option_map (λ ns. n ∷ ns) (Some [])) (cond begun (Some value) None)
ends true value = refl
ends false value = refl

IsPartsRead : List ℕ → List ℕ → Type 0
IsPartsRead left front = list_all is_ascii_digit front ≡ true → digits_value front ≤ max_entry
    → entries_on (is_begun front) (digits_value front) left ≡ parts_on front (slice_split is_space left)

by_size : (b : ℕ) (rest front : List ℕ) (fits : Bool) → nat_le (append_digit (digits_value front) b) max_entry ≡ fits → is_ascii_digit b ≡ true → list_all is_ascii_digit front ≡ true
    → IsPartsRead rest (front ++ b ∷ [])
    → cond fits (entries_on true (append_digit (digits_value front) b) rest) None ≡ parts_on front (onto_first b (slice_split is_space rest))
unfolding IsPartsRead
by_size b rest front true fits digit digits others =
    let small : append_digit (digits_value front) b ≤ max_entry = grind (arith, nat_tests) in
    let now = others (digits_more front b digits digit) (rw value_more small) in
    rw (begun_more front b, value_more front b) at now ∙ more_on front b (slice_split is_space rest) (has_parts rest)
by_size b rest front false fits digit digits others =
    let large : max_entry < append_digit (digits_value front) b = grind (arith, nat_tests) in
    none_on front b (slice_split is_space rest) (has_parts rest) (λ part. large_value front b part large)

by_space : (b : ℕ) (rest front : List ℕ) (space : Bool) → (b == 32) ≡ space → is_ascii_digit b ≡ false → list_all is_ascii_digit front ≡ true → digits_value front ≤ max_entry
    → entries_on false 0 rest ≡ parts_on [] (slice_split is_space rest)
    → cond (space && is_begun front) (option_map (λ ns. digits_value front ∷ ns) (entries_on false 0 rest)) None
    ≡ parts_on front (cond space ([] ∷ slice_split is_space rest) (onto_first b (slice_split is_space rest)))
by_space b rest front true is digit digits small others =
    rw (append-nil front, front_value front digits small, others, nothing_before (slice_split is_space rest)) (joins (is_begun front) (digits_value front) _)
by_space b rest front false is digit digits small others =
    none_on front b (slice_split is_space rest) (has_parts rest) (λ part. unfit_value front b part digit)

by_digit : (b : ℕ) (rest front : List ℕ) (d : Bool) → is_ascii_digit b ≡ d → list_all is_ascii_digit front ≡ true → digits_value front ≤ max_entry
    → IsPartsRead rest (front ++ b ∷ []) → entries_on false 0 rest ≡ parts_on [] (slice_split is_space rest)
    → entries_on (is_begun front) (digits_value front) (b ∷ rest) ≡ parts_on front (slice_split is_space (b ∷ rest))
unfolding entries_on
by_digit b rest front true is digits small others after =
    let no_space : (b == 32) ≡ false = grind (arith, nat_tests) in
    rw (is, no_space) (by_size b rest front (nat_le (append_digit (digits_value front) b) max_entry) refl is digits others)
by_digit b rest front false is digits small others after =
    rw is (by_space b rest front (b == 32) refl is digits small after)

parts_read : (left front : List ℕ) → IsPartsRead left front
unfolding IsPartsRead entries_on
parts_read [] front digits small = rw (append-nil front, front_value front digits small) (ends (is_begun front) (digits_value front))
parts_read (b ∷ rest) front digits small = by_digit b rest front (is_ascii_digit b) refl digits small (parts_read rest (front ++ b ∷ [])) (parts_read rest [] refl (omega arith))

entries_read : (text : List ℕ) → (length text == 0) ≡ false → entries_on false 0 text ≡ entries_of text
unfolding IsPartsRead
entries_read text some = rw some (parts_read text [] refl (omega arith) ∙ nothing_before (slice_split is_space text))

-- ---- what was read of an argument that is not empty

added_is : (old new : List ℕ) (others : Option (List ℕ)) → Some new ≡ with_front old others → IsAdded old new others true
added_is old new None is = absurd (cc)
added_is old new (Some entries) is = (refl, cc)

pub added_all : (old new text : List ℕ) → (length text == 0) ≡ false → Some new ≡ with_front old (entries_on false 0 text) → IsAdded old new (entries_of text) true
added_all old new text some is = added_is old new (entries_of text) (is ∙ ap (with_front old) (entries_read text some))

refused_is : (old new : List ℕ) (others : Option (List ℕ)) → None ≡ with_front old others → IsAdded old new others false
refused_is old new None is = refl
refused_is old new (Some entries) is = absurd (cc)

pub refused_all : (old new text : List ℕ) → (length text == 0) ≡ false → None ≡ with_front old (entries_on false 0 text) → IsAdded old new (entries_of text) false
refused_all old new text some is = refused_is old new (entries_of text) (is ∙ ap (with_front old) (entries_read text some))

-- the next byte of the text, and its end

pub at_byte : (front : List ℕ) (begun : Bool) (value : ℕ) (text : List ℕ) (i : ℕ) (all : Option (List ℕ)) → i < length text
    → with_front front (entries_on begun value (drop i text)) ≡ all → with_front front (entries_on begun value (get_or text i 0 ∷ drop (i + 1) text)) ≡ all
at_byte front begun value text i all inside so_far =
    sym (at_drop_more (λ left. with_front front (entries_on begun value left)) text i 0 inside) ∙ so_far

pub at_end : (front : List ℕ) (begun : Bool) (value : ℕ) (text : List ℕ) (i : ℕ) (all : Option (List ℕ)) → length text ≤ i
    → with_front front (entries_on begun value (drop i text)) ≡ all → cond begun (Some (front ++ value ∷ [])) None ≡ all
at_end front begun value text i all past so_far = end_read front begun value all (rw (drop_all i text past) at so_far)

pub no_space : (b : ℕ) (begun : Bool) → (b ≡ 32 → ⊥) → ((b == 32) && begun) ≡ false
no_space b begun other =
    let is : (b == 32) ≡ false = grind (arith, nat_tests) in
    rw is refl

pub not_begun : (b : ℕ) (begun : Bool) → begun ≡ false → ((b == 32) && begun) ≡ false
not_begun b begun none = rw none (and_false (b == 32))

pub space_is : (b : ℕ) → b ≡ 32 → (b == 32) ≡ true
space_is b is = rw is refl
