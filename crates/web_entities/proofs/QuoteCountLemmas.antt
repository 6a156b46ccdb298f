-- Commas after an even number of quotes, and quotes after an even number of backslashes.
use Rattle.std.proofs.Common.{◌≡◌, ℕ, ◌+◌, ◌%◌, ◌==◌, Bool, true, false, not, cond, List, [], ◌∷◌, ◌++◌, reverse, refl, sym, ap, ◌∙◌, arith, append_assoc}
use Rattle.std.proofs.lemmas.List.{append-nil, reverse-append}
use Rattle.std.proofs.lemmas.List.Sums.{sum_by-cons}
use Rattle.std.specs.List.{count_by, fold, prefix_len, suffix_len}
use Rattle.web_texts.specs.Bytes.{is_quote}
use Rattle.web_entities.specs.CutPlaces.{CutsBehind, EndsUnkept, HasEvenQuotes, is_backslash}
use Rattle.web_entities.specs.DispositionPlaces.{ends_quoted, in_quotes, next_inside}
use Rattle.web_entities.specs.TagLists.{is_even, next_quotes, outside_quotes}
use Rattle.web_entities.specs.declared.disposition_places.Inside.{Inside}
use Rattle.web_entities.specs.declared.disposition_places.Inside.TheVariants.{Plain, Escaped}
use Rattle.web_entities.specs.declared.tag_list.Quotes.{Quotes}
use Rattle.web_entities.specs.declared.tag_list.Quotes.TheVariants.{Even, Odd}
use Rattle.web_entities.proofs.CutPlaceLemmas.{cuts_behind, other_byte}
use Rattle.web_texts.proofs.TestLemmas.{same_byte}

abbrev is_even_number : ℕ → Bool
is_even_number n = n % 2 == 0

-- ---- quotes

abbrev parity : Quotes → ℕ
parity Even = 0
parity Odd = 1

abbrev after : Quotes → Bool → Quotes
after Even true = Odd
after Even false = Even
after Odd true = Even
after Odd false = Odd

next_is : (q : Quotes) (b : ℕ) → next_quotes q b ≡ after q (b == 34)
next_is Even b = by (b == 34)
  where
    by : (e : Bool) → cond e Odd Even ≡ after Even e
    by true = refl
    by false = refl
next_is Odd b = by (b == 34)
  where
    by : (e : Bool) → cond e Even Odd ≡ after Odd e
    by true = refl
    by false = refl

-- one byte more
counted : (q : Quotes) (e : Bool) (n : ℕ) → is_even_number (n + parity (after q e)) ≡ is_even_number (cond e 1 0 + n + parity q)
counted Even true n = let same : n + 1 ≡ 1 + n + 0 = omega arith in ap is_even_number same
counted Even false n = let same : n + 0 ≡ 0 + n + 0 = omega arith in ap is_even_number same
counted Odd true n = let same : (n + 0) % 2 ≡ (1 + n + 1) % 2 = omega arith in ap (λ (r : ℕ). r == 0) same
counted Odd false n = let same : n + 1 ≡ 0 + n + 1 = omega arith in ap is_even_number same

quotes_counted : (q : Quotes) (front : List ℕ) → is_even (fold next_quotes q front) ≡ is_even_number (count_by is_quote front + parity q)
quotes_counted Even [] = refl
quotes_counted Odd [] = refl
quotes_counted q (b ∷ rest) =
    ap (λ (p : Quotes). is_even (fold next_quotes p rest)) (next_is q b)
    ∙ (quotes_counted (after q (b == 34)) rest
    ∙ (counted q (b == 34) (count_by is_quote rest)
    ∙ ap (λ (n : ℕ). is_even_number (n + parity q)) (sym (sum_by-cons (λ x. cond (is_quote x) 1 0) b rest))))

pub commas_cut : CutsBehind outside_quotes HasEvenQuotes
commas_cut = cuts_behind outside_quotes HasEvenQuotes (record {
  yes = λ front h.
      let even : (count_by is_quote front + 0) % 2 ≡ 0 = same_byte _ 0 (sym (quotes_counted Even front) ∙ h) in
      omega (arith, even);
  no = λ front h even.
      other_byte ((count_by is_quote front + 0) % 2) 0 (sym (quotes_counted Even front) ∙ h) (omega (arith, even));
})

-- ---- backslashes

turned : (t : Bool) (n : ℕ) → t ≡ is_even_number n → not t ≡ is_even_number (1 + n)
turned true n h = let even : n % 2 ≡ 0 = same_byte _ 0 (sym h) in let odd : (1 + n) % 2 ≡ 1 = omega (arith, even) in rw odd refl
turned false n h = let one : (1 + n) % 2 ≡ 0 = odd_next n (λ even. other_byte (n % 2) 0 (sym h) even) in rw one refl
  where
    odd_next : (n : ℕ) → (n % 2 ≡ 0 → ⊥) → (1 + n) % 2 ≡ 0
    odd_next n odd = grind (arith, odd)

-- one byte more, where back is what was read, from its end
kept_next : (s : Inside) (back : List ℕ) (b : ℕ) → ends_quoted s ≡ is_even_number (prefix_len is_backslash back)
    → ends_quoted (next_inside s b) ≡ is_even_number (prefix_len is_backslash (b ∷ back))
kept_next Plain back b h = by (b == 92)
  where
    by : (e : Bool) → ends_quoted (cond e Escaped Plain) ≡ is_even_number (cond e (1 + prefix_len is_backslash back) 0)
    by true = turned true (prefix_len is_backslash back) h
    by false = refl
kept_next Escaped back b h = by (b == 92)
  where
    by : (e : Bool) → true ≡ is_even_number (cond e (1 + prefix_len is_backslash back) 0)
    by true = turned false (prefix_len is_backslash back) h
    by false = refl

kept_over : (s : Inside) (back front : List ℕ) → ends_quoted s ≡ is_even_number (prefix_len is_backslash back)
    → ends_quoted (fold next_inside s front) ≡ is_even_number (prefix_len is_backslash (reverse front ++ back))
kept_over s back [] h = h
kept_over s back (b ∷ rest) h =
    let same : reverse rest ++ b ∷ back ≡ reverse (b ∷ rest) ++ back = sym (ap (λ (r : List ℕ). r ++ back) (reverse-append (b ∷ []) rest) ∙ append_assoc (reverse rest) (b ∷ []) back) in
    kept_over (next_inside s b) (b ∷ back) rest (kept_next s back b h) ∙ ap (λ (r : List ℕ). is_even_number (prefix_len is_backslash r)) same

kept : (front : List ℕ) → ends_quoted (fold next_inside Plain front) ≡ is_even_number (suffix_len is_backslash front)
kept front = kept_over Plain [] front refl ∙ ap (λ (r : List ℕ). is_even_number (prefix_len is_backslash r)) (append-nil (reverse front))

pub quotes_end : CutsBehind in_quotes EndsUnkept
quotes_end = cuts_behind in_quotes EndsUnkept (record {
  yes = λ front h. same_byte _ 0 (sym (kept front) ∙ h);
  no = λ front h even. other_byte _ 0 (sym (kept front) ∙ h) even;
})
