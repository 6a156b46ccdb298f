-- Counts of the members of a list, kind by kind, as they are taken one by one.
use Rattle.std.proofs.Common.{◌≡◌, ◌≢◌, ◌<◌, ◌≤◌, ◌+◌, ◌^◌, ◌==◌, ℕ, Bool, true, false, List, [], ◌∷◌, ◌++◌, cond, length, get_or, map, set, take, replicate, zero, suc, refl, ap, sym, ◌∙◌, arith, append_assoc, length-append}
use Rattle.std.specs.Prelude.{flat_map, slice_index, slice_set}
use Rattle.std.proofs.lemmas.Grind.{flat_map-append}
use Rattle.std.proofs.lemmas.List.{append-nil}
use Rattle.std.proofs.lemmas.List.Folds.{flat_map-map}
use Rattle.std.specs.List.{filter, range_with_len}
use Rattle.std.proofs.lemmas.Bool.Decides.{nat_tests}
use Rattle.std.proofs.lemmas.Grind.{get_or-set_at}
use Rattle.std.proofs.lemmas.List.{ext_get_or, get_or-set_other, length-replicate, length-set, length-map, length-take, map-append, take_more}
use Rattle.std.proofs.lemmas.List.Elements.{filter-append}
use Rattle.std.proofs.lemmas.List.FromFn.{get_or-map-range_with_len, length-map-range_with_len, map-range_with_len_more}

abbrev pub count : {X : Type 0} → (X → Bool) → List X → ℕ
count test xs = length (filter test xs)

one : {X : Type 0} (test : X → Bool) (x : X) → length (filter test (x ∷ [])) ≡ cond (test x) 1 0
one test x =
    elim (test x) as (λ b. length (cond b (x ∷ []) []) ≡ cond b 1 0) [ true ↦ refl | false ↦ refl ]

pub count_more : {X : Type 0} (test : X → Bool) (xs : List X) (x : X)
    → count test (xs ++ x ∷ []) ≡ count test xs + cond (test x) 1 0
count_more test xs x =
    ap (λ l. length l) (filter-append test xs (x ∷ []))
    ∙ length-append (filter test xs) (filter test (x ∷ [])) ∙ ap (λ n. count test xs + n) (one test x)

pub count_taken : {X : Type 0} (test : X → Bool) (xs : List X) → count test xs ≤ length xs
count_taken test [] = grind arith
count_taken test (x ∷ xs) =
    let others = count_taken test xs in
    elim (test x) as (λ b. length (cond b (x ∷ filter test xs) (filter test xs)) ≤ length (x ∷ xs)) [
      | true ↦ omega (arith, others)
      | false ↦ omega (arith, others)
    ]

same_at : (n p z : ℕ) → get_or (replicate n z) p z ≡ z
same_at zero p z = refl
same_at (suc n) zero z = refl
same_at (suc n) (suc p) z = same_at n p z

-- one more of the members, seen through a function
taken_more : {X Y : Type 0} (g : X → Y) (xs : List X) (i : ℕ) (x : X) → i < length xs → x ≡ get_or xs i x
    → map g (take (i + 1) xs) ≡ map g (take i xs) ++ g x ∷ []
taken_more g xs i x inside is =
    ap (λ l. map g l) (take_more xs i x inside ∙ ap (λ y. take i xs ++ y ∷ []) (sym is))
    ∙ map-append g (take i xs) (x ∷ [])

pub step : {X Y : Type 0} (test : Y → Bool) (g : X → Y) (xs : List X) (i n m : ℕ) (x : X) (b : Bool)
    → i < length xs → x ≡ get_or xs i x → n ≡ count test (map g (take i xs)) → test (g x) ≡ b
    → m ≡ n + cond b 1 0 → m ≡ count test (map g (take (i + 1) xs))
step test g xs i n m x b inside is now tested next =
    next ∙ ap (λ k. k + cond b 1 0) now
    ∙ ap (λ c. count test (map g (take i xs)) + cond c 1 0) (sym tested)
    ∙ sym (count_more test (map g (take i xs)) (g x))
    ∙ ap (λ l. count test l) (sym (taken_more g xs i x inside is))

pub count_few : {X Y : Type 0} (test : Y → Bool) (g : X → Y) (xs : List X) (i : ℕ)
    → count test (map g (take i xs)) ≤ i
count_few test g xs i =
    let few = count_taken test (map g (take i xs)) in
    let size = length-map (take i xs) g in
    let taken : length (take i xs) ≤ i = grind (arith, length-take) in
    omega (arith, few, size, taken)

counted_at : (counts : List ℕ) (k p n c : ℕ) (b : Bool) → (100 + k == 100 + p) ≡ b
    → k < length counts → n ≡ get_or counts k 0 + 1 → get_or counts p 0 ≡ c
    → get_or (set counts k n) p 0 ≡ c + cond b 1 0
counted_at counts k p n c true same inside is now =
    let at : p ≡ k = grind (arith, nat_tests) in
    get_or-set_at counts k p n 0 at inside ∙ is
    ∙ ap (λ m. m + 1) (ap (λ j. get_or counts j 0) (sym at) ∙ now)
counted_at counts k p n c false other inside is now =
    let apart : p ≢ k = grind (arith, nat_tests) in
    let none : c ≡ c + 0 = omega arith in
    get_or-set_other counts k p n 0 apart ∙ now ∙ none

module _ {X : Type 0} (has : ℕ → X → Bool) (kinds : ℕ) where
  -- for each kind from 100 on, how many of the members have it
  pub record AreCounts (xs : List X) (counts : List ℕ) : Type 0 where
    pub size : length counts ≡ kinds
    pub each : (p : ℕ) → p < kinds → get_or counts p 0 ≡ count (has (100 + p)) xs

  pub counts_start : (counts : List ℕ) → counts ≡ replicate kinds 0 → AreCounts [] counts
  counts_start counts is = record {
    size = ap (λ l. length l) is ∙ length-replicate kinds 0;
    each = λ p small. ap (λ l. get_or l p 0) is ∙ same_at kinds p 0;
  }

  -- a member that has no kind
  pub counts_kept : (xs : List X) (x : X) (counts : List ℕ) → AreCounts xs counts
      → ((s : ℕ) → has s x ≡ false) → AreCounts (xs ++ x ∷ []) counts
  counts_kept xs x counts are none = record {
    size = are.size;
    each = λ p small.
        let zero = ap {B = ℕ} (λ b. cond b 1 0) (none (100 + p)) in
        let more = count_more (has (100 + p)) xs x in
        let now = are.each p small in
        omega (arith, zero, more, now);
  }

  -- a member of this kind
  pub counts_more : (xs : List X) (x : X) (counts : List ℕ) (k n : ℕ) → AreCounts xs counts
      → ((s : ℕ) → has s x ≡ (100 + k == s)) → k < kinds → n ≡ get_or counts k 0 + 1
      → AreCounts (xs ++ x ∷ []) (set counts k n)
  counts_more xs x counts k n are kind inside is = record {
    size = length-set counts k n ∙ are.size;
    each = λ p small.
        let within : k < length counts = (let size = are.size in omega (arith, size, inside)) in
        counted_at counts k p n (count (has (100 + p)) xs) (100 + k == 100 + p) refl within is
        (are.each p small)
        ∙ ap (λ b. count (has (100 + p)) xs + cond b 1 0) (sym (kind (100 + p)))
        ∙ sym (count_more (has (100 + p)) xs x);
  }

  -- the next of some things, seen as members
  pub counts_step : {Y : Type 0} (g : Y → X) (ys : List Y) (i : ℕ) (y : Y) (counts new : List ℕ) (k : ℕ)
      → i < length ys → y ≡ get_or ys i y → AreCounts (map g (take i ys)) counts
      → ((s : ℕ) → has s (g y) ≡ (100 + k == s)) → k < kinds
      → new ≡ slice_set counts k (slice_index counts k + 1)
      → AreCounts (map g (take (i + 1) ys)) new
  counts_step g ys i y counts new k inside at are kind within is =
      rw (is, taken_more g ys i y inside at)
      (counts_more (map g (take i ys)) (g y) counts k (get_or counts k 0 + 1) are kind within refl)

  pub counts_same : {Y : Type 0} (g : Y → X) (ys : List Y) (i : ℕ) (y : Y) (counts new : List ℕ)
      → i < length ys → y ≡ get_or ys i y → AreCounts (map g (take i ys)) counts
      → ((s : ℕ) → has s (g y) ≡ false) → new ≡ counts → AreCounts (map g (take (i + 1) ys)) new
  counts_same g ys i y counts new inside at are none is =
      rw (is, taken_more g ys i y inside at) (counts_kept (map g (take i ys)) (g y) counts are none)

  -- no count is too large
  pub counts_room : {Y : Type 0} (g : Y → X) (ys : List Y) (i k : ℕ) (counts : List ℕ)
      → AreCounts (map g (take i ys)) counts → k < kinds → i < length ys → length ys < 2 ^ 64
      → slice_index counts k < 18446744073709551615
  counts_room g ys i k counts are within inside room =
      let now : slice_index counts k ≡ count (has (100 + k)) (map g (take i ys)) = are.each k within in
      let few = count_few (has (100 + k)) g ys i in
      omega (arith, now, few, inside, room)

  pub counts_all : (xs : List X) (counts : List ℕ) → AreCounts xs counts
      → counts ≡ map (λ s. count (has s) xs) (range_with_len 100 kinds)
  counts_all xs counts are =
      ext_get_or 0 counts (map (λ s. count (has s) xs) (range_with_len 100 kinds))
      (are.size ∙ sym (length-map-range_with_len (λ s. count (has s) xs) 100 kinds))
      (λ i small.
      let inside : i < kinds = (let size = are.size in omega (arith, size, small)) in
      are.each i inside
      ∙ sym (get_or-map-range_with_len (λ s. count (has s) xs) 100 kinds i (100 + i) 0 inside refl))

-- the text of one more kind
kinds_more : (f : ℕ → List ℕ) (n : ℕ)
    → flat_map f (range_with_len 100 (n + 1)) ≡ flat_map f (range_with_len 100 n) ++ f (100 + n)
kinds_more f n =
    let now = flat_map-map (λ (text : List ℕ). text) f (range_with_len 100 n) in
    sym (flat_map-map (λ (text : List ℕ). text) f (range_with_len 100 (n + 1)))
    ∙ ap (λ texts. flat_map (λ (text : List ℕ). text) texts) (map-range_with_len_more f 100 n (100 + n) refl)
    ∙ flat_map-append (λ (text : List ℕ). text) (map f (range_with_len 100 n)) (f (100 + n) ∷ [])
    ∙ rw (now, append-nil (f (100 + n))) refl

pub kind_written : (f : ℕ → List ℕ) (n : ℕ) (old now next : List ℕ)
    → now ≡ old ++ flat_map f (range_with_len 100 n) → next ≡ now ++ f (100 + n)
    → next ≡ old ++ flat_map f (range_with_len 100 (n + 1))
kind_written f n old now next so_far is =
    is ∙ ap (λ text. text ++ f (100 + n)) so_far
    ∙ append_assoc old (flat_map f (range_with_len 100 n)) (f (100 + n))
    ∙ ap (λ text. old ++ text) (sym (kinds_more f n))

pub five_parts : (a b c d e start first second third fourth fifth : List ℕ)
    → start ≡ [] → first ≡ start ++ a → second ≡ first ++ b → third ≡ second ++ c
    → fourth ≡ third ++ d → fifth ≡ fourth ++ e → fifth ≡ (((a ++ b) ++ c) ++ d) ++ e
five_parts a b c d e start first second third fourth fifth none one two three four five =
    rw (five, four, three, two, one, none) refl
