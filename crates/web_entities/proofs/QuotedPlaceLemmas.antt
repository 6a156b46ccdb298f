-- Semicolons outside of quoted text.
use Rattle.std.proofs.Common.{◌≡◌, ℕ, ◌==◌, ◌&&◌, Bool, true, false, not, cond, List, [], ◌∷◌, ◌++◌, length, refl, sym, ap, ◌∙◌, arith}
use Rattle.std.proofs.lemmas.Bool.{false≢true}
use Rattle.std.specs.List.{concat, fold, list_all}
use Rattle.web_texts.specs.ParameterPlaces.{is_outside, place_behind, semicolons}
use Rattle.web_texts.specs.PieceItems.{is_empty}
use Rattle.web_texts.specs.QuotedText.{is_closed}
use Rattle.web_texts.specs.declared.grammar.parameters.Quoting.{Quoting}
use Rattle.web_texts.specs.declared.grammar.parameters.Quoting.TheVariants.{Outside, Quoted, Escaped}
use Rattle.web_entities.specs.CutPlaces.{CutsBehind, IsOutsideQuotes, is_part}
use Rattle.web_entities.proofs.CutPlaceLemmas.{cuts_behind}
use Rattle.web_texts.proofs.TestLemmas.{same_byte}

-- ---- what closes

not_quote : (b : ℕ) → (b == 92) ≡ true → (b == 34) ≡ false
not_quote b is = let same : b ≡ 92 = same_byte b 92 is in rw same refl

pub and_both : (a b : Bool) → (a && b) ≡ true → (a ≡ true) × (b ≡ true)
and_both true b e = (refl, e)
and_both false b e = absurd (false≢true e)

not_true : (a : Bool) → not a ≡ true → a ≡ false
not_true true e = absurd (false≢true e)
not_true false e = refl

nothing_left : (text : List ℕ) → is_empty text ≡ true → text ≡ []
nothing_left [] e = refl
nothing_left (b ∷ more) e = let none : length (b ∷ more) ≡ 0 = same_byte _ 0 e in absurd (omega (arith, none))

-- one byte more in front of closed text: a quote closes at once; a backslash keeps the next byte
pub closed_at : (b : ℕ) → (b == 34) ≡ true → is_closed (b ∷ []) ≡ true
closed_at b is = is

pub closed_kept : (b c : ℕ) (inner : List ℕ) → (b == 92) ≡ true → is_closed inner ≡ true → is_closed (b ∷ c ∷ inner) ≡ true
closed_kept b c inner is closed = rw is closed

pub closed_more : (b : ℕ) (inner : List ℕ) → (b == 34) ≡ false → (b == 92) ≡ false → is_closed inner ≡ true → is_closed (b ∷ inner) ≡ true
closed_more b [] no_quote no_back closed = absurd (false≢true closed)
closed_more b (c ∷ inner) no_quote no_back closed = rw (no_back, no_quote) closed

-- what a closed text begins with: its quote alone, a kept byte, or another byte
module _ {S : Type 0} (next : S → ℕ → S) (inside kept out : S)
    (ends : (b : ℕ) → (b == 34) ≡ true → next inside b ≡ out)
    (keeps : (b : ℕ) → (b == 92) ≡ true → next inside b ≡ kept)
    (stays : (b : ℕ) → (b == 34) ≡ false → (b == 92) ≡ false → next inside b ≡ inside)
    (kept_stays : (b : ℕ) → next kept b ≡ inside) where
  pub through : (inner more : List ℕ) → is_closed inner ≡ true → fold next inside (inner ++ more) ≡ fold next out more
  through [] more closed = absurd (false≢true closed)
  through (b ∷ []) more closed = ap (λ (s : S). fold next s more) (ends b closed)
  through (b ∷ c ∷ inner) more closed = by (b == 92) refl closed (through inner more) (through (c ∷ inner) more)
    where
      by : (e : Bool) → (b == 92) ≡ e → cond e (is_closed inner) (not (b == 34) && is_closed (c ∷ inner)) ≡ true
          → (is_closed inner ≡ true → fold next inside (inner ++ more) ≡ fold next out more)
          → (is_closed (c ∷ inner) ≡ true → fold next inside (c ∷ (inner ++ more)) ≡ fold next out more)
          → fold next inside (b ∷ c ∷ (inner ++ more)) ≡ fold next out more
      by true is h first second =
          ap (λ (s : S). fold next s (c ∷ (inner ++ more))) (keeps b is)
          ∙ (ap (λ (s : S). fold next s (inner ++ more)) (kept_stays c) ∙ first h)
      by false is h first second =
          let both = and_both (not (b == 34)) (is_closed (c ∷ inner)) h in
          ap (λ (s : S). fold next s (c ∷ (inner ++ more))) (stays b (not_true (b == 34) both.0) is) ∙ second both.1

-- ---- media types

outside_ends : (b : ℕ) → (b == 34) ≡ true → place_behind Quoted b ≡ Outside
outside_ends b is = rw is refl

outside_keeps : (b : ℕ) → (b == 92) ≡ true → place_behind Quoted b ≡ Escaped
outside_keeps b is = rw (not_quote b is, is) refl

outside_stays : (b : ℕ) → (b == 34) ≡ false → (b == 92) ≡ false → place_behind Quoted b ≡ Quoted
outside_stays b no_quote no_back = rw (no_quote, no_back) refl

closed_through : (inner more : List ℕ) → is_closed inner ≡ true → fold place_behind Quoted (inner ++ more) ≡ fold place_behind Outside more
closed_through = through place_behind Quoted Escaped Outside outside_ends outside_keeps outside_stays (λ b. refl)

-- the rest of quoted text, and then what stands outside
abbrev ClosesInto : List ℕ → Type 0
ClosesInto text = (inner more : List ℕ) × (text ≡ inner ++ more) × (is_closed inner ≡ true) × IsOutsideQuotes more

abbrev Reads : Quoting → List ℕ → Type 0
Reads Outside text = IsOutsideQuotes text
Reads Quoted text = ClosesInto text
Reads Escaped text = (b : ℕ) × (rest : List ℕ) × (text ≡ b ∷ rest) × ClosesInto rest

plain_more : (b : ℕ) (rest : List ℕ) → (b == 34) ≡ false → IsOutsideQuotes rest → IsOutsideQuotes (b ∷ rest)
plain_more b rest other (parts, is, all) = ((b ∷ []) ∷ parts, ap (λ (t : List ℕ). b ∷ t) is, rw other all)

quoted_more : (b : ℕ) (rest : List ℕ) → (b == 34) ≡ true → ClosesInto rest → IsOutsideQuotes (b ∷ rest)
quoted_more b rest quote (inner, more, is, closed, (parts, is_parts, all)) =
    ((b ∷ inner) ∷ parts, ap (λ (t : List ℕ). b ∷ t) (is ∙ ap (λ (t : List ℕ). inner ++ t) is_parts), rw (quote, closed) all)

kept_more : (b : ℕ) (rest : List ℕ) → (b == 92) ≡ true → Reads Escaped rest → ClosesInto (b ∷ rest)
kept_more b rest back (c, after, at, (inner, more, is, closed, out)) =
    (b ∷ c ∷ inner, more, ap (λ (t : List ℕ). b ∷ t) (at ∙ ap (λ (t : List ℕ). c ∷ t) is), closed_kept b c inner back closed, out)

inside_more : (b : ℕ) (rest : List ℕ) → (b == 34) ≡ false → (b == 92) ≡ false → ClosesInto rest → ClosesInto (b ∷ rest)
inside_more b rest no_quote no_back (inner, more, is, closed, out) =
    (b ∷ inner, more, ap (λ (t : List ℕ). b ∷ t) is, closed_more b inner no_quote no_back closed, out)

inside_or_kept : (b : ℕ) (rest : List ℕ) → (b == 34) ≡ false → ((p : Quoting) → fold place_behind p rest ≡ Outside → Reads p rest)
    → fold place_behind (cond (b == 92) Escaped Quoted) rest ≡ Outside → ClosesInto (b ∷ rest)
inside_or_kept b rest no_quote reads = by (b == 92) refl
  where
    by : (e : Bool) → (b == 92) ≡ e → fold place_behind (cond e Escaped Quoted) rest ≡ Outside → ClosesInto (b ∷ rest)
    by true is h = kept_more b rest is (reads Escaped h)
    by false is h = inside_more b rest no_quote is (reads Quoted h)

reads_from : (p : Quoting) (text : List ℕ) → fold place_behind p text ≡ Outside → Reads p text
reads_from Outside [] h = ([], refl, refl)
reads_from Quoted [] h = absurd (cc)
reads_from Escaped [] h = absurd (cc)
reads_from Outside (b ∷ rest) h = by (b == 34) refl (λ p. reads_from p rest) h
  where
    by : (e : Bool) → (b == 34) ≡ e → ((p : Quoting) → fold place_behind p rest ≡ Outside → Reads p rest)
        → fold place_behind (cond e Quoted Outside) rest ≡ Outside → IsOutsideQuotes (b ∷ rest)
    by true is reads h = quoted_more b rest is (reads Quoted h)
    by false is reads h = plain_more b rest is (reads Outside h)
reads_from Quoted (b ∷ rest) h = by (b == 34) refl (λ p. reads_from p rest) h
  where
    by : (e : Bool) → (b == 34) ≡ e → ((p : Quoting) → fold place_behind p rest ≡ Outside → Reads p rest)
        → fold place_behind (cond e Outside (cond (b == 92) Escaped Quoted)) rest ≡ Outside → ClosesInto (b ∷ rest)
    by true is reads h = (b ∷ [], rest, refl, closed_at b is, reads Outside h)
    by false is reads h = inside_or_kept b rest is reads h
reads_from Escaped (b ∷ rest) h = (b, rest, refl, reads_from Quoted rest h)

ends_outside : (parts : List (List ℕ)) → list_all is_part parts ≡ true → fold place_behind Outside (concat parts) ≡ Outside
ends_outside [] all = refl
ends_outside ([] ∷ parts) all = absurd (false≢true all)
ends_outside ((b ∷ more) ∷ parts) all =
    let both = and_both (is_part (b ∷ more)) (list_all is_part parts) all in
    by (b == 34) refl both.0 (ends_outside parts both.1)
  where
    by : (e : Bool) → (b == 34) ≡ e → cond e (is_closed more) (is_empty more) ≡ true → fold place_behind Outside (concat parts) ≡ Outside
        → fold place_behind (cond e Quoted Outside) (more ++ concat parts) ≡ Outside
    by true is closed rest = closed_through more (concat parts) closed ∙ rest
    by false is empty rest = ap (λ (t : List ℕ). fold place_behind Outside (t ++ concat parts)) (nothing_left more empty) ∙ rest

outside_is : (p : Quoting) → is_outside p ≡ true → p ≡ Outside
outside_is Outside e = refl
outside_is Quoted e = absurd (false≢true e)
outside_is Escaped e = absurd (false≢true e)

pub semicolons_cut : CutsBehind semicolons IsOutsideQuotes
semicolons_cut = cuts_behind semicolons IsOutsideQuotes (record {
  yes = λ front h. reads_from Outside front (outside_is (fold place_behind Outside front) h);
  no = λ front h (parts, is, all).
      let out : fold place_behind Outside front ≡ Outside = ap (λ (t : List ℕ). fold place_behind Outside t) is ∙ ends_outside parts all in
      false≢true (sym h ∙ ap is_outside out);
})
