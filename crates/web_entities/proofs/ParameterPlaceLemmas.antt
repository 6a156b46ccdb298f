-- Semicolons after a whole parameter of a disposition.
use Rattle.std.proofs.Common.{◌≡◌, ◌⊎◌, ℕ, suc, ◌+◌, ◌==◌, Bool, true, false, not, cond, List, [], ◌∷◌, ◌++◌, reverse, refl, sym, ap, ◌∙◌, inl, inr, arith, append_assoc}
use Rattle.std.proofs.lemmas.Bool.{false≢true}
use Rattle.std.proofs.lemmas.List.{append-nil, reverse-append}
use Rattle.std.specs.Prelude.{slice_index}
use Rattle.std.specs.List.{after_first, before_first, fold, list_any, prefix_len}
use Rattle.web_texts.specs.Bytes.{is_equals}
use Rattle.web_texts.specs.Blanks.{is_blank, without_front}
use Rattle.web_texts.specs.QuotedText.{is_closed}
use Rattle.web_entities.specs.CutPlaces.{CutsBehind, HasClosingQuote, IsNoOpenQuote, IsWholeParameter}
use Rattle.web_entities.specs.DispositionPlaces.{ends_parameter, in_parameters, next_place}
use Rattle.web_entities.specs.declared.disposition_places.ParameterState.{ParameterState}
use Rattle.web_entities.specs.declared.disposition_places.ParameterState.TheVariants as place
use Rattle.web_entities.proofs.CutPlaceLemmas.{cuts_behind, other_byte}
use Rattle.web_entities.proofs.QuotedPlaceLemmas.{closed_at, closed_kept, closed_more, through}
use Rattle.web_texts.proofs.TestLemmas.{same_byte}

-- it cuts in this mode exactly where this holds
record Cuts (p : ParameterState) (holds : Type 0) : Type 0 where
  yes : ends_parameter p ≡ true → holds
  no : ends_parameter p ≡ false → holds → ⊥

-- ---- in the value

stays : (text : List ℕ) → fold next_place place.Value text ≡ place.Value
stays [] = refl
stays (b ∷ rest) = stays rest

always : (p : ParameterState) (holds : Type 0) → p ≡ place.Value → holds → Cuts p holds
always p holds is h = rw is (record { yes = λ e. h; no = λ e k. false≢true (sym e) })

not_quote : (b : ℕ) → (b == 92) ≡ true → (b == 34) ≡ false
not_quote b is = let same : b ≡ 92 = same_byte b 92 is in rw same refl

closed_through : (inner more : List ℕ) → is_closed inner ≡ true → fold next_place place.Quoted (inner ++ more) ≡ fold next_place place.Value more
closed_through =
    through next_place place.Quoted place.Escaped place.Value
    (λ b is. rw is refl) (λ b is. rw (not_quote b is, is) refl) (λ b no_quote no_back. rw (no_quote, no_back) refl) (λ b. refl)

abbrev Closes : ParameterState → List ℕ → Type 0
Closes place.Quoted text = HasClosingQuote text
Closes place.Escaped text = (b : ℕ) × (rest : List ℕ) × (text ≡ b ∷ rest) × HasClosingQuote rest
Closes place.Name text = Unit {0}
Closes place.Starred text = Unit {0}
Closes place.Lead text = Unit {0}
Closes place.Value text = Unit {0}

kept_more : (b : ℕ) (rest : List ℕ) → (b == 92) ≡ true → Closes place.Escaped rest → HasClosingQuote (b ∷ rest)
kept_more b rest back (c, after, at, (inner, more, is, closed)) =
    (b ∷ c ∷ inner, more, ap (λ (t : List ℕ). b ∷ t) (at ∙ ap (λ (t : List ℕ). c ∷ t) is), closed_kept b c inner back closed)

inside_more : (b : ℕ) (rest : List ℕ) → (b == 34) ≡ false → (b == 92) ≡ false → HasClosingQuote rest → HasClosingQuote (b ∷ rest)
inside_more b rest no_quote no_back (inner, more, is, closed) =
    (b ∷ inner, more, ap (λ (t : List ℕ). b ∷ t) is, closed_more b inner no_quote no_back closed)

closes : (p : ParameterState) (text : List ℕ) → ends_parameter (fold next_place p text) ≡ true → Closes p text
closes place.Name text h = tt
closes place.Starred text h = tt
closes place.Lead text h = tt
closes place.Value text h = tt
closes place.Quoted [] h = absurd (false≢true h)
closes place.Escaped [] h = absurd (false≢true h)
closes place.Escaped (b ∷ rest) h = (b, rest, refl, closes place.Quoted rest h)
closes place.Quoted (b ∷ rest) h = by (b == 34) refl (b == 92) refl (closes place.Escaped rest) (closes place.Quoted rest) h
  where
    by : (e : Bool) → (b == 34) ≡ e → (k : Bool) → (b == 92) ≡ k
        → (ends_parameter (fold next_place place.Escaped rest) ≡ true → Closes place.Escaped rest)
        → (ends_parameter (fold next_place place.Quoted rest) ≡ true → HasClosingQuote rest)
        → ends_parameter (fold next_place (cond e place.Value (cond k place.Escaped place.Quoted)) rest) ≡ true → HasClosingQuote (b ∷ rest)
    by true is k back kept more h = (b ∷ [], rest, refl, closed_at b is)
    by false is true back kept more h = kept_more b rest back (kept h)
    by false is false back kept more h = inside_more b rest is back (more h)

closing : (text : List ℕ) → HasClosingQuote text → fold next_place place.Quoted text ≡ place.Value
closing text (inner, more, is, closed) =
    ap (λ (t : List ℕ). fold next_place place.Quoted t) is ∙ (closed_through inner more closed ∙ stays more)

-- blanks in front of a value
blank_first : (b : ℕ) (text : List ℕ) → is_blank b ≡ true → without_front (b ∷ text) ≡ without_front text
blank_first b text is = let e : 1 + prefix_len is_blank text ≡ suc (prefix_len is_blank text) = omega arith in rw (is, e) refl

plain_first : (b : ℕ) (text : List ℕ) → is_blank b ≡ false → without_front (b ∷ text) ≡ b ∷ text
plain_first b text is = rw is refl

no_blank : (b : ℕ) → (b == 34) ≡ true → is_blank b ≡ false
no_blank b is = let same : b ≡ 34 = same_byte b 34 is in rw same refl

lead : (text : List ℕ) → Cuts (fold next_place place.Lead text) (IsNoOpenQuote (without_front text))
lead [] = record { yes = λ e quote. absurd (other_byte 0 34 refl quote); no = λ e h. false≢true (sym e) }
lead (b ∷ rest) = by (b == 34) refl (is_blank b) refl (lead rest)
  where
    by : (e : Bool) → (b == 34) ≡ e → (k : Bool) → is_blank b ≡ k → Cuts (fold next_place place.Lead rest) (IsNoOpenQuote (without_front rest))
        → Cuts (fold next_place (cond e place.Quoted (cond k place.Lead place.Value)) rest) (IsNoOpenQuote (without_front (b ∷ rest)))
    by true is k blank more = rw (plain_first b rest (no_blank b is)) (record {
      yes = λ e quote. closes place.Quoted rest e;
      no = λ e h. false≢true (sym e ∙ ap ends_parameter (closing rest (h (same_byte b 34 is))));
    })
    by false is true blank more = rw (blank_first b rest blank) more
    by false is false blank more = rw (plain_first b rest blank) (always (fold next_place place.Value rest) (IsNoOpenQuote (b ∷ rest)) (stays rest) (λ quote. absurd (other_byte b 34 is quote)))

-- ---- in the name, of which back was read, from its end

abbrev starred : List ℕ → Bool
starred back = slice_index (without_front back) 0 == 42

abbrev in_name : Bool → ParameterState
in_name true = place.Starred
in_name false = place.Name

-- the name is back and what stands before the equals sign
abbrev Whole : List ℕ → List ℕ → Type 0
Whole back front =
    (list_any is_equals front ≡ true)
    × ((starred (reverse (before_first is_equals front) ++ back) ≡ true) ⊎ IsNoOpenQuote (without_front (after_first is_equals front)))

star : (b : ℕ) (back : List ℕ) → (b == 42) ≡ true → starred (b ∷ back) ≡ true
star b back is = let same : b ≡ 42 = same_byte b 42 is in rw same refl

no_star : (b : ℕ) (back : List ℕ) → (b == 42) ≡ false → is_blank b ≡ false → starred (b ∷ back) ≡ false
no_star b back is blank = rw (plain_first b back blank) is

blank_star : (b : ℕ) (back : List ℕ) → is_blank b ≡ true → starred (b ∷ back) ≡ starred back
blank_star b back blank = rw (blank_first b back blank) refl

next_in_name : (b : ℕ) (back : List ℕ) → (b == 61) ≡ false → next_place (in_name (starred back)) b ≡ in_name (starred (b ∷ back))
next_in_name b back other = by (starred back) refl (b == 42) refl (is_blank b) refl
  where
    by : (s : Bool) → starred back ≡ s → (e : Bool) → (b == 42) ≡ e → (k : Bool) → is_blank b ≡ k → next_place (in_name s) b ≡ in_name (starred (b ∷ back))
    by true was true is k blank = rw (star b back is, is) refl
    by true was false is true blank = rw (blank_star b back blank, was, is, blank) refl
    by true was false is false blank = rw (no_star b back is blank, is, blank, other) refl
    by false was true is k blank = rw (star b back is, is) refl
    by false was false is true blank = rw (blank_star b back blank, was, is, other) refl
    by false was false is false blank = rw (no_star b back is blank, is, other) refl

-- at the equals sign
at_equals : (back rest : List ℕ) (s : Bool) → starred back ≡ s
    → Cuts (fold next_place (cond s place.Value place.Lead) rest) ((starred back ≡ true) ⊎ IsNoOpenQuote (without_front rest))
at_equals back rest true is = always (fold next_place place.Value rest) _ (stays rest) (inl is)
at_equals back rest false is =
    let it = lead rest in
    record {
      yes = λ e. inr (it.yes e);
      no = λ e. no_either (it.no e);
    }
  where
    no_either : (IsNoOpenQuote (without_front rest) → ⊥) → (starred back ≡ true) ⊎ IsNoOpenQuote (without_front rest) → ⊥
    no_either none (inl star) = false≢true (sym is ∙ star)
    no_either none (inr closed) = none closed

equals_next : (b : ℕ) (s : Bool) → (b == 61) ≡ true → next_place (in_name s) b ≡ cond s place.Value place.Lead
equals_next b true is = let same : b ≡ 61 = same_byte b 61 is in rw same refl
equals_next b false is = let same : b ≡ 61 = same_byte b 61 is in rw same refl

first_equals : (b : ℕ) (rest : List ℕ) → (b == 61) ≡ true
    → (list_any is_equals (b ∷ rest) ≡ true) × (before_first is_equals (b ∷ rest) ≡ []) × (after_first is_equals (b ∷ rest) ≡ rest)
first_equals b rest is = rw is (refl, refl, refl)

later_equals : (b : ℕ) (rest : List ℕ) → (b == 61) ≡ false
    → (list_any is_equals (b ∷ rest) ≡ list_any is_equals rest) × (before_first is_equals (b ∷ rest) ≡ b ∷ before_first is_equals rest)
    × (after_first is_equals (b ∷ rest) ≡ after_first is_equals rest)
later_equals b rest is =
    let n = prefix_len (λ x. not (is_equals x)) rest in
    let e : 1 + n ≡ suc n = omega arith in
    let k : suc n + 1 ≡ suc (n + 1) = omega arith in
    rw (is, e, k) (refl, refl, refl)

turn : (p q : ParameterState) (holds same : Type 0) → p ≡ q → (same → holds) → (holds → same) → Cuts q same → Cuts p holds
turn p q holds same is to from it = rw is (record { yes = λ e. to (it.yes e); no = λ e h. it.no e (from h) })

name_says : (back front : List ℕ) → Cuts (fold next_place (in_name (starred back)) front) (Whole back front)
name_says back [] = by (starred back)
  where
    by : (s : Bool) → Cuts (in_name s) (Whole back [])
    by true = record { yes = λ e. absurd (false≢true e); no = λ e h. false≢true h.0 }
    by false = record { yes = λ e. absurd (false≢true e); no = λ e h. false≢true h.0 }
name_says back (b ∷ rest) = by (b == 61) refl (name_says (b ∷ back) rest)
  where
    by : (e : Bool) → (b == 61) ≡ e → Cuts (fold next_place (in_name (starred (b ∷ back))) rest) (Whole (b ∷ back) rest)
        → Cuts (fold next_place (next_place (in_name (starred back)) b) rest) (Whole back (b ∷ rest))
    by true is more =
        let at = first_equals b rest is in
        turn (fold next_place (next_place (in_name (starred back)) b) rest) (fold next_place (cond (starred back) place.Value place.Lead) rest)
        (Whole back (b ∷ rest)) ((starred back ≡ true) ⊎ IsNoOpenQuote (without_front rest))
        (ap (λ (p : ParameterState). fold next_place p rest) (equals_next b (starred back) is))
        (λ h. (at.0, rw (at.1, at.2) h)) (λ h. rw (at.1, at.2) at h.1) (at_equals back rest (starred back) refl)
    by false is more =
        let later = later_equals b rest is in
        let name : reverse (b ∷ before_first is_equals rest) ++ back ≡ reverse (before_first is_equals rest) ++ b ∷ back =
        ap (λ (r : List ℕ). r ++ back) (reverse-append (b ∷ []) (before_first is_equals rest)) ∙ append_assoc (reverse (before_first is_equals rest)) (b ∷ []) back in
        turn (fold next_place (next_place (in_name (starred back)) b) rest) (fold next_place (in_name (starred (b ∷ back))) rest)
        (Whole back (b ∷ rest)) (Whole (b ∷ back) rest)
        (ap (λ (p : ParameterState). fold next_place p rest) (next_in_name b back is))
        (λ h. rw (later.0, later.1, later.2, name) h) (λ h. rw (later.0, later.1, later.2, name) at h) more

no_back : (front : List ℕ) → reverse (before_first is_equals front) ++ [] ≡ reverse (before_first is_equals front)
no_back front = append-nil (reverse (before_first is_equals front))

whole_is : (front : List ℕ) → Whole [] front → IsWholeParameter front
whole_is front h = record { named = h.0; closed = rw (no_back front) at h.1 }

is_whole : (front : List ℕ) → IsWholeParameter front → Whole [] front
is_whole front h = (h.named, rw (no_back front) h.closed)

pub parameters_cut : CutsBehind in_parameters IsWholeParameter
parameters_cut = cuts_behind in_parameters IsWholeParameter (record {
  yes = λ front e. let it = name_says [] front in whole_is front (it.yes e);
  no = λ front e h. let it = name_says [] front in it.no e (is_whole front h);
})
