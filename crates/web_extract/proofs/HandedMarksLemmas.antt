-- Marks that are handed on from place to place.
use Rattle.std.proofs.Common.{◌≡◌, ℕ, max, List, refl, sym, ap, subst, arith}
use Rattle.std.specs.Prelude.{Result, Ok, Err}
use Rattle.web_request.specs.declared.source.Mark.{Mark}
use Rattle.web_reply.specs.Replies.{Fault}
use Rattle.web_extract.specs.ArgumentLists.{Gives, Joins1, Joins2, nested3, nested4}
use Rattle.web_extract.specs.CollectedResults.{One, map_value}
use Rattle.web_extract.specs.ListMeanings.{Meaning, Means1, Means2, Means3, Means4}
use Rattle.web_extract.specs.ListResults.{DelayedResult, Exactly, list1, list2, list3, list4, with_value, Decides1, Decides2, Decides3, Decides4}
use Rattle.web_extract.proofs.ListResultsLemmas.{Only, comes, joins_only}
use Rattle.web_extract.proofs.ExtractsLemmas.{joins2_within}
use Rattle.web_extract.proofs.GroupedListsLemmas.{three, right}
use Rattle.web_extract.proofs.PerPlaceLemmas.{ungroup}

only_at : {T : Type 0} (means : Meaning T) (m rest : List Mark) (v : DelayedResult T) → Exactly means m rest v → Only (means m rest) v
only_at means m rest v h n x = (λ a. let q = (h rest n x).0 a in (q.1, q.2), λ e. (h rest n x).1 (refl, e.0, e.1))

module _ {A B : Type 0} (first : Meaning A) (second : Meaning B) (m m1 m2 : List Mark) (a : DelayedResult A) (b : DelayedResult B)
    (h1 : Exactly first m m1 a) (h2 : Exactly second m1 m2 b) where
  first_left : (left1 left : List Mark) (n : ℕ) (x : Result (A × B) Fault) → Joins2 (first m left1) (second left1 left) n x → left1 ≡ m1
  first_left left1 left n x j = ((h1 left1 j.n1 j.x1).0 j.first_gives).0

  second_left : (left : List Mark) (n : ℕ) (x : Result (A × B) Fault) → Joins2 (first m m1) (second m1 left) n x → left ≡ m2
  second_left left n x j = ((h2 left j.n2 j.x2).0 j.second_gives).0

  both_only : Only (Joins2 (first m m1) (second m1 m2)) (list2 a b)
  both_only = joins_only (first m m1) (second m1 m2) a b (only_at first m m1 a h1) (only_at second m1 m2 b h2)

  means2_to : (left : List Mark) (n : ℕ) (x : Result (A × B) Fault) → Means2 first second m left n x → (left ≡ m2) × (n ≡ (list2 a b).delay) × (x ≡ (list2 a b).result)
  means2_to left n x d =
      let e1 = first_left d.0 left n x d.1 in
      let j1 = subst (λ (l : List Mark). Joins2 (first m l) (second l left) n x) e1 d.1 in
      let e2 = second_left left n x j1 in
      let j2 = subst (λ (l : List Mark). Joins2 (first m m1) (second m1 l) n x) e2 j1 in
      let q = (both_only n x).0 j2 in
      (e2, q.0, q.1)

  means2_from : (left : List Mark) (n : ℕ) (x : Result (A × B) Fault) → (left ≡ m2) × (n ≡ (list2 a b).delay) × (x ≡ (list2 a b).result) → Means2 first second m left n x
  means2_from left n x e =
      (m1, subst (λ (l : List Mark). Joins2 (first m m1) (second m1 l) n x) (sym e.0) ((both_only n x).1 (e.1, e.2)))

pub decides2 : {A B : Type 0} (first : Meaning A) (second : Meaning B) → Decides2 first second
decides2 first second m m1 m2 a b h1 h2 left n x =
    (means2_to first second m m1 m2 a b h1 h2 left n x, means2_from first second m m1 m2 a b h1 h2 left n x)

-- a meaning that is another one with its values grouped otherwise
module _ {T U : Type 0} (flat : Meaning T) (nested : Meaning U) (f : T → U) (back : U → T) (inv : (t : T) → back (f t) ≡ t)
    (m rest : List Mark) (v : DelayedResult T) (h : Exactly nested m rest (with_value f v))
    (to : (left : List Mark) (n : ℕ) (x : Result T Fault) → flat m left n x → nested m left n (map_value f x))
    (there : flat m rest v.delay v.result) where
  flat_to : (left : List Mark) (n : ℕ) (x : Result T Fault) → flat m left n x → (left ≡ rest) × (n ≡ v.delay) × (x ≡ v.result)
  flat_to left n x d = let q = (h left n (map_value f x)).0 (to left n x d) in (q.0, q.1, ungroup f back inv x v.result q.2)

  flat_from : (left : List Mark) (n : ℕ) (x : Result T Fault) → (left ≡ rest) × (n ≡ v.delay) × (x ≡ v.result) → flat m left n x
  flat_from left n x e =
      subst (λ (l : List Mark). flat m l n x) (sym e.0)
      (subst (λ (k : ℕ). flat m rest k x) (sym e.1) (subst (λ (y : Result T Fault). flat m rest v.delay y) (sym e.2) there))

  flat_exactly : Exactly flat m rest v
  flat_exactly left n x = (flat_to left n x, flat_from left n x)

abbrev at : {T : Type 0} → ℕ → Result T Fault → DelayedResult T
at n x = record { delay = n; result = x }

one_is : {A : Type 0} (n : ℕ) (x : Result A Fault) → record { delay = n; result = x } ≡ with_value (λ v. v.0) (list1 (record { delay = n; result = x }))
one_is {A} n (Ok v) = let e : n ≡ max n 0 = omega arith in ap (λ (k : ℕ). at k (Ok v)) e
one_is n (Err e) = let d : n ≡ max n 0 = omega arith in ap (λ (k : ℕ). at k (Err e)) d

joins1_to : {A : Type 0} (g : Gives A) (n : ℕ) (x : Result (One A) Fault) → Joins1 g n x → g n (map_value (λ v. v.0) x)
joins1_to g n (Ok v) h = h
joins1_to g n (Err x) h = h

joins1_from : {A : Type 0} (g : Gives A) (n : ℕ) (x : Result (One A) Fault) → g n (map_value (λ v. v.0) x) → Joins1 g n x
joins1_from g n (Ok v) h = h
joins1_from g n (Err x) h = h

pub decides1 : {A : Type 0} (first : Meaning A) → Decides1 first
decides1 {A} first m m1 a h1 =
    let h = subst (λ (w : DelayedResult A). Exactly first m m1 w) (one_is a.delay a.result) h1 in
    flat_exactly (Means1 first) first (λ v. v.0) (λ v. record { 0 = v }) (λ v. refl) m m1 (list1 a) h
    (λ left n x d. joins1_to (first m left) n x d)
    (joins1_from (first m m1) (list1 a).delay (list1 a).result ((h m1 (list1 a).delay (map_value (λ v. v.0) (list1 a).result)).1 (refl, refl, refl)))

pub decides3 : {A B C : Type 0} (first : Meaning A) (second : Meaning B) (third : Meaning C) → Decides3 first second third
decides3 {A} {B} {C} first second third m m1 m2 m3 a b c h1 h2 h3 =
    let rest = Means2 second third in
    let g1 = first m m1 in
    let g2 = second m1 m2 in
    let g3 = third m2 m3 in
    let all = joins_only g1 (Joins2 g2 g3) a (list2 b c) (only_at first m m1 a h1) (joins_only g2 g3 b c (only_at second m1 m2 b h2) (only_at third m2 m3 c h3)) in
    flat_exactly (Means3 first second third) (Means2 first rest) (λ v. (v.0, (v.1, v.2))) (λ v. (v.0, v.1.0, v.1.1)) (λ v. refl) m m3 (list3 a b c)
    (subst (λ (w : DelayedResult (A × (B × C))). Exactly (Means2 first rest) m m3 w) (three a b c)
    (decides2 first rest m m1 m3 a (list2 b c) h1 (decides2 second third m1 m2 m3 b c h2 h3)))
    (λ left n x d. (
      d.0,
      joins2_within (first m d.0) (first m d.0) (Joins2 (second d.0 d.1) (third d.1 left)) (rest d.0 left) (λ k y h. h) (λ k y h. (d.1, h)) n (nested3 x) d.2,
    ))
    (m1, m2, subst (λ (w : DelayedResult (A × (B × C))). Joins2 g1 (Joins2 g2 g3) w.delay w.result) (three a b c) (comes (Joins2 g1 (Joins2 g2 g3)) (list2 a (list2 b c)) all))

pub decides4 : {A B C D : Type 0} (first : Meaning A) (second : Meaning B) (third : Meaning C) (fourth : Meaning D) → Decides4 first second third fourth
decides4 {A} {B} {C} {D} first second third fourth m m1 m2 m3 m4 a b c d h1 h2 h3 h4 =
    let last = Means2 third fourth in
    let rest = Means2 second last in
    let g1 = first m m1 in
    let g2 = second m1 m2 in
    let g3 = third m2 m3 in
    let g4 = fourth m3 m4 in
    let all = joins_only g1 (Joins2 g2 (Joins2 g3 g4)) a (list2 b (list2 c d)) (only_at first m m1 a h1)
    (joins_only g2 (Joins2 g3 g4) b (list2 c d) (only_at second m1 m2 b h2) (joins_only g3 g4 c d (only_at third m2 m3 c h3) (only_at fourth m3 m4 d h4))) in
    flat_exactly (Means4 first second third fourth) (Means2 first rest) (λ v. (v.0, (v.1, (v.2, v.3)))) (λ v. (v.0, v.1.0, v.1.1.0, v.1.1.1)) (λ v. refl) m m4 (list4 a b c d)
    (subst (λ (w : DelayedResult (A × (B × (C × D)))). Exactly (Means2 first rest) m m4 w) (right a b c d)
    (decides2 first rest m m1 m4 a (list2 b (list2 c d)) h1
    (decides2 second last m1 m2 m4 b (list2 c d) h2 (decides2 third fourth m2 m3 m4 c d h3 h4))))
    (λ left n x e. (
      e.0,
      joins2_within (first m e.0) (first m e.0) (Joins2 (second e.0 e.1) (Joins2 (third e.1 e.2) (fourth e.2 left))) (rest e.0 left) (λ k y h. h)
          (λ k y h. (
            e.1,
            joins2_within (second e.0 e.1) (second e.0 e.1) (Joins2 (third e.1 e.2) (fourth e.2 left)) (last e.1 left) (λ i z j. j) (λ i z j. (e.2, j)) k y h,
          ))
          n (nested4 x) e.3,
    )) (
      m1,
      m2,
      m3,
      subst (λ (w : DelayedResult (A × (B × (C × D)))). Joins2 g1 (Joins2 g2 (Joins2 g3 g4)) w.delay w.result) (right a b c d)
          (comes (Joins2 g1 (Joins2 g2 (Joins2 g3 g4))) (list2 a (list2 b (list2 c d))) all),
    )
