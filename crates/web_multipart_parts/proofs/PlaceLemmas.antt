-- The first place of a text, as the searches find it, and when more bytes come.
use Rattle.std.proofs.Common.{◌≡◌, ℕ, zero, suc, ◌+◌, ◌-◌, ◌<◌, ◌≤◌, Bool, true, false, cond, List, [], ◌∷◌, ◌++◌, Option, None, Some, length, get_or, take, drop, refl, sym, ap, ◌∙◌, subst, arith, ⊎_elim, length-drop, length-append}
use Rattle.std.specs.Option.{option_map}
use Rattle.std.specs.Prelude.{IfSome}
use Rattle.std.proofs.lemmas.Bool.{false≢true, cases_lt}
use Rattle.std.proofs.lemmas.List.{get_or-drop, get_or_append_left, append_assoc, take_rest}
use Rattle.memchr.specs.Find.{FindsNeedle, IsFirst, Nowhere, OccursAt, occurs_at}
use Rattle.memchr.proofs.lemmas.MatchLemmas.{OccursAt-true, occurs_at-true}
use Rattle.web_multipart_parts.specs.Places.{IsSearched, place_of}

-- ---- one place further

behind : (text bytes : List ℕ) (b k : ℕ) → OccursAt (b ∷ bytes) text (suc k) → OccursAt bytes text k
behind text bytes b k o =
    let fits = o.fits in
    record {
      fits = omega (arith, fits);
      reads = λ j h. let same : suc (k + j) ≡ suc k + j = omega arith in ap (λ n. get_or (b ∷ bytes) n 0) same ∙ o.reads j h;
    }

ahead : (text bytes : List ℕ) (b k : ℕ) → OccursAt bytes text k → OccursAt (b ∷ bytes) text (suc k)
ahead text bytes b k o =
    let fits = o.fits in
    record {
      fits = omega (arith, fits);
      reads = λ j h. let same : suc k + j ≡ suc (k + j) = omega arith in ap (λ n. get_or (b ∷ bytes) n 0) same ∙ o.reads j h;
    }

not_here : (text bytes : List ℕ) → occurs_at bytes text 0 ≡ false → OccursAt bytes text 0 → ⊥
not_here text bytes isnt o = false≢true (sym isnt ∙ occurs_at-true bytes text 0 o)

-- ---- the definition is the first place

first_here : (text bytes : List ℕ) (b : ℕ) → occurs_at (b ∷ bytes) text 0 ≡ true → IsFirst (OccursAt (b ∷ bytes) text) 0 (length (b ∷ bytes) + 1) (Some 0)
first_here text bytes b stands = (
  record { low = omega arith; high = omega arith; before = λ k l h. absurd (omega (arith, h)) },
  OccursAt-true (b ∷ bytes) text 0 stands,
)

none_behind : (text bytes : List ℕ) (b : ℕ) → occurs_at (b ∷ bytes) text 0 ≡ false → (k n : ℕ) → k ≤ n → Nowhere (OccursAt bytes text) 0 n → OccursAt (b ∷ bytes) text k → ⊥
none_behind text bytes b isnt zero n h none o = not_here text (b ∷ bytes) isnt o
none_behind text bytes b isnt (suc k) n h none o = none k (omega arith) (omega (arith, h)) (behind text bytes b k o)

first_behind : (text bytes : List ℕ) (b : ℕ) → occurs_at (b ∷ bytes) text 0 ≡ false → (r : Option ℕ) → IsFirst (OccursAt bytes text) 0 (length bytes + 1) r
    → IsFirst (OccursAt (b ∷ bytes) text) 0 (length (b ∷ bytes) + 1) (option_map (λ n. suc n) r)
first_behind text bytes b isnt None none = λ k l h o. none_behind text bytes b isnt k (length bytes + 1) (omega (arith, h)) none o
first_behind text bytes b isnt (Some p) first =
    let high = first.0.high in (
      record {
        low = omega arith;
        high = omega (arith, high);
        before = λ k l h o. none_behind text bytes b isnt k p (omega (arith, h)) first.0.before o;
      },
      ahead text bytes b p first.1,
    )

first_by : (text bytes : List ℕ) (b : ℕ) (t : Bool) → occurs_at (b ∷ bytes) text 0 ≡ t → (r : Option ℕ) → IsFirst (OccursAt bytes text) 0 (length bytes + 1) r
    → IsFirst (OccursAt (b ∷ bytes) text) 0 (length (b ∷ bytes) + 1) (cond t (Some 0) (option_map (λ n. suc n) r))
first_by text bytes b true is r first = first_here text bytes b is
first_by text bytes b false is r first = first_behind text bytes b is r first

pub place_first : (text bytes : List ℕ) → 0 < length text → IsFirst (OccursAt bytes text) 0 (length bytes + 1) (place_of text bytes)
unfolding place_of
place_first text [] some = λ k l h o. let fits = o.fits in absurd (omega (arith, fits, some))
place_first text (b ∷ bytes) some = first_by text bytes b (occurs_at (b ∷ bytes) text 0) refl (place_of text bytes) (place_first text bytes some)

-- ---- there is one first place

first_unique : (P : ℕ → Type 0) (j : ℕ) (r s : Option ℕ) → IsFirst P 0 j r → IsFirst P 0 j s → r ≡ s
first_unique P j None None f g = refl
first_unique P j None (Some k) f g = absurd (f k (omega arith) g.0.high g.1)
first_unique P j (Some k) None f g = absurd (g k (omega arith) f.0.high f.1)
first_unique P j (Some k) (Some m) f g =
    let low : m ≤ k = ⊎_elim (λ l. absurd (g.0.before k (omega arith) l f.1)) (λ l. l) (cases_lt k m) in
    let high : k ≤ m = ⊎_elim (λ l. absurd (f.0.before m (omega arith) l g.1)) (λ l. l) (cases_lt m k) in
    let same : k ≡ m = omega (arith, low, high) in
    ap (λ n. Some n) same

pub place_found : (text bytes : List ℕ) → 0 < length text → (r : Option ℕ) → FindsNeedle bytes text 0 r → r ≡ place_of text bytes
place_found text bytes some r f = first_unique (OccursAt bytes text) (length bytes + 1) r (place_of text bytes) f (place_first text bytes some)

-- ---- a search from a later place on

further : (text bytes : List ℕ) (n k : ℕ) → n ≤ length bytes → OccursAt (drop n bytes) text k → OccursAt bytes text (n + k)
further text bytes n k h o =
    let fits = o.fits in
    record {
      fits = omega (arith, fits, length-drop n bytes);
      reads = λ j l. let same : (n + k) + j ≡ n + (k + j) = omega arith in ap (λ i. get_or bytes i 0) same ∙ (sym (get_or-drop n bytes (k + j) 0) ∙ o.reads j l);
    }

nearer : (text bytes : List ℕ) (n k : ℕ) → n ≤ k → OccursAt bytes text k → OccursAt (drop n bytes) text (k - n)
nearer text bytes n k h o =
    let fits = o.fits in
    record {
      fits = omega (arith, fits, h, length-drop n bytes);
      reads = λ j l. let same : n + ((k - n) + j) ≡ k + j = omega arith in get_or-drop n bytes ((k - n) + j) 0 ∙ (ap (λ i. get_or bytes i 0) same ∙ o.reads j l);
    }

module _ (text bytes : List ℕ) (n : ℕ) (within : n ≤ length bytes) (none : Nowhere (OccursAt bytes text) 0 n) where
  -- nowhere before a place of the rest
  none_before : (m : ℕ) → Nowhere (OccursAt (drop n bytes) text) 0 m → (k : ℕ) → k < n + m → OccursAt bytes text k → ⊥
  none_before m rest k h o = ⊎_elim (λ l. none k (omega arith) l o) (λ l. rest (k - n) (omega arith) (omega (arith, h, l)) (nearer text bytes n k l o)) (cases_lt k n)

  first_further : (r : Option ℕ) → FindsNeedle (drop n bytes) text 0 r → IsFirst (OccursAt bytes text) 0 (length bytes + 1) (option_map (λ k. n + k) r)
  first_further None f = λ k l h o. none_before (length (drop n bytes) + 1) f k (omega (arith, h, within, length-drop n bytes)) o
  first_further (Some p) f =
      let high = f.0.high in (
        record {
          low = omega arith;
          high = omega (arith, high, within, length-drop n bytes);
          before = λ k l h o. none_before p f.0.before k h o;
        },
        further text bytes n p within f.1,
      )

  pub place_behind : 0 < length text → (r : Option ℕ) → FindsNeedle (take (length bytes - n) (drop n bytes)) text 0 r → option_map (λ k. n + k) r ≡ place_of text bytes
  place_behind some r f =
      let rest = subst (λ (xs : List ℕ). FindsNeedle xs text 0 r) (take_rest bytes n) f in
      first_unique (OccursAt bytes text) (length bytes + 1) (option_map (λ k. n + k) r) (place_of text bytes) (first_further r rest) (place_first text bytes some)

-- ---- when more bytes come

pub stands_still : (text bytes more : List ℕ) (k : ℕ) → OccursAt bytes text k → OccursAt (bytes ++ more) text k
stands_still text bytes more k o =
    let fits = o.fits in
    record {
      fits = omega (arith, fits, length-append bytes more);
      reads = λ j h. get_or_append_left bytes more 0 (k + j) (omega (arith, fits, h)) ∙ o.reads j h;
    }

pub stood_before : (text bytes more : List ℕ) (k : ℕ) → k + length text ≤ length bytes → OccursAt (bytes ++ more) text k → OccursAt bytes text k
stood_before text bytes more k whole o = record {
  fits = whole;
  reads = λ j h. sym (get_or_append_left bytes more 0 (k + j) (omega (arith, whole, h))) ∙ o.reads j h;
}

module _ (text bytes more : List ℕ) (some : 0 < length text) where
  at_place : (p : ℕ) → place_of text bytes ≡ Some p → IsFirst (OccursAt bytes text) 0 (length bytes + 1) (Some p)
  at_place p is = subst (λ (r : Option ℕ). IsFirst (OccursAt bytes text) 0 (length bytes + 1) r) is (place_first text bytes some)

  pub place_fits : (p : ℕ) → place_of text bytes ≡ Some p → p + length text ≤ length bytes
  place_fits p is = (at_place p is).1.fits

  pub place_stays : (p : ℕ) → place_of text bytes ≡ Some p → place_of text (bytes ++ more) ≡ Some p
  place_stays p is =
      let at = at_place p is in
      let fits = at.1.fits in
      sym (first_unique (OccursAt (bytes ++ more) text) (length (bytes ++ more) + 1) (Some p) (place_of text (bytes ++ more)) (
        record {
          low = omega arith;
          high = omega (arith, fits, length-append bytes more);
          before = λ k l h o. at.0.before k l h (stood_before text bytes more k (omega (arith, h, fits)) o);
        },
        stands_still text bytes more p at.1,
      ) (place_first text (bytes ++ more) some))

  nowhere : place_of text bytes ≡ None → Nowhere (OccursAt bytes text) 0 (length bytes + 1)
  nowhere is = subst (λ (r : Option ℕ). IsFirst (OccursAt bytes text) 0 (length bytes + 1) r) is (place_first text bytes some)

  -- at a place that was not whole
  pub not_whole : place_of text bytes ≡ None → (k : ℕ) → OccursAt (bytes ++ more) text k → length bytes < k + length text
  not_whole is k o = ⊎_elim (λ l. l) (λ l. absurd (nowhere is k (omega arith) (omega (arith, l)) (stood_before text bytes more k l o))) (cases_lt (length bytes) (k + length text))

  pub place_later : (p : ℕ) → place_of text bytes ≡ None → place_of text (bytes ++ more) ≡ Some p → length bytes < p + length text
  place_later p is found =
      let first = subst (λ (r : Option ℕ). IsFirst (OccursAt (bytes ++ more) text) 0 (length (bytes ++ more) + 1) r) found (place_first text (bytes ++ more) some) in
      not_whole is p first.1

pub searched_start : (text bytes : List ℕ) → IsSearched text bytes 0
searched_start text bytes = record { within = omega arith; none = λ more k l h. absurd (omega (arith, h)) }

pub searched_more : (text bytes more : List ℕ) (n : ℕ) → IsSearched text bytes n → IsSearched text (bytes ++ more) n
searched_more text bytes more n s =
    let within = s.within in
    record {
      within = omega (arith, within, length-append bytes more);
      none = λ rest k l h o. s.none (more ++ rest) k l h (subst (λ (xs : List ℕ). OccursAt xs text k) (append_assoc bytes more rest) o);
    }

pub searched_all : (text bytes : List ℕ) (n : ℕ) → 0 < length text → place_of text bytes ≡ None → n ≤ length bytes → n + length text ≤ length bytes + 1 → IsSearched text bytes n
searched_all text bytes n some is within whole = record {
  within = within;
  none = λ more k l h o. let far = not_whole text bytes more some is k o in absurd (omega (arith, far, h, whole));
}

pub none_searched : (text bytes : List ℕ) (n : ℕ) → IsSearched text bytes n → Nowhere (OccursAt bytes text) 0 n
none_searched text bytes n s k l h o = s.none [] k l h (stands_still text bytes [] k o)

pub found_fits : (text bytes : List ℕ) → 0 < length text → (r : Option ℕ) → r ≡ place_of text bytes → IfSome r (λ n. n + length text ≤ length bytes)
found_fits text bytes some None is = tt
found_fits text bytes some (Some p) is = place_fits text bytes [] some p (sym is)
