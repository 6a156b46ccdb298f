-- Lists of lists.
use Rattle.std.proofs.Common.{◌≡◌, ℕ, List, refl, sym, subst}
use Rattle.std.specs.Prelude.{Result, Ok, Err}
use Rattle.web_request.specs.declared.source.Mark.{Mark}
use Rattle.web_reply.specs.Replies.{Fault}
use Rattle.web_extract.specs.ListMeanings.{Meaning, Member, Means2}
use Rattle.web_extract.specs.ListResults.{DelayedResult, Exactly, list2, AsList4}
use Rattle.web_extract.proofs.HandedMarksLemmas.{decides2}
use Rattle.web_extract.proofs.GroupedListsLemmas.{pairs, right, left, inner, outer}

-- a list as a member of another: its error turns into itself
abbrev pub Own : {T : Type 0} → Meaning T → Meaning T
Own means = Member (λ e x. x ≡ e) means

module _ {T : Type 0} (means : Meaning T) (m rest : List Mark) (v : DelayedResult T) (h : Exactly means m rest v) where
  own_to : (left : List Mark) (n : ℕ) (x : Result T Fault) → Own means m left n x → (left ≡ rest) × (n ≡ v.delay) × (x ≡ v.result)
  own_to left n (Ok u) a = (h left n (Ok u)).0 a
  own_to left n (Err x) a = (h left n (Err x)).0 (subst (λ (y : Fault). means m left n (Err y)) (sym a.2) a.1)

  own_from : (left : List Mark) (n : ℕ) (x : Result T Fault) → (left ≡ rest) × (n ≡ v.delay) × (x ≡ v.result) → Own means m left n x
  own_from left n (Ok u) e = (h left n (Ok u)).1 e
  own_from left n (Err x) e = (x, (h left n (Err x)).1 e, refl)

  own : Exactly (Own means) m rest v
  own left n x = (own_to left n x, own_from left n x)

own2 : {A B : Type 0} (first : Meaning A) (second : Meaning B) (m m1 m2 : List Mark) (a : DelayedResult A) (b : DelayedResult B)
    → Exactly first m m1 a → Exactly second m1 m2 b → Exactly (Own (Means2 first second)) m m2 (list2 a b)
own2 first second m m1 m2 a b h1 h2 = own (Means2 first second) m m2 (list2 a b) (decides2 first second m m1 m2 a b h1 h2)

module _ {A B C D : Type 0} (first : Meaning A) (second : Meaning B) (third : Meaning C) (fourth : Meaning D) where
  pub as_pairs : AsList4 first second third fourth (λ v. ((v.0, v.1), (v.2, v.3))) (Means2 (Own (Means2 first second)) (Own (Means2 third fourth)))
  as_pairs m m1 m2 m3 m4 a b c d h1 h2 h3 h4 =
      let front = Own (Means2 first second) in
      let back = Own (Means2 third fourth) in
      subst (λ (v : DelayedResult ((A × B) × (C × D))). Exactly (Means2 front back) m m4 v) (pairs a b c d)
      (decides2 front back m m2 m4 (list2 a b) (list2 c d) (own2 first second m m1 m2 a b h1 h2) (own2 third fourth m2 m3 m4 c d h3 h4))

  pub as_right : AsList4 first second third fourth (λ v. (v.0, (v.1, (v.2, v.3)))) (Means2 first (Own (Means2 second (Own (Means2 third fourth)))))
  as_right m m1 m2 m3 m4 a b c d h1 h2 h3 h4 =
      let back = Own (Means2 third fourth) in
      let rest = Own (Means2 second back) in
      subst (λ (v : DelayedResult (A × (B × (C × D)))). Exactly (Means2 first rest) m m4 v) (right a b c d)
      (decides2 first rest m m1 m4 a (list2 b (list2 c d)) h1 (own2 second back m1 m2 m4 b (list2 c d) h2 (own2 third fourth m2 m3 m4 c d h3 h4)))

  pub as_left : AsList4 first second third fourth (λ v. (((v.0, v.1), v.2), v.3)) (Means2 (Own (Means2 (Own (Means2 first second)) third)) fourth)
  as_left m m1 m2 m3 m4 a b c d h1 h2 h3 h4 =
      let front = Own (Means2 first second) in
      let most = Own (Means2 front third) in
      subst (λ (v : DelayedResult (((A × B) × C) × D)). Exactly (Means2 most fourth) m m4 v) (left a b c d)
      (decides2 most fourth m m3 m4 (list2 (list2 a b) c) d (own2 front third m m2 m3 (list2 a b) c (own2 first second m m1 m2 a b h1 h2) h3) h4)

  pub as_inner : AsList4 first second third fourth (λ v. (v.0, ((v.1, v.2), v.3))) (Means2 first (Own (Means2 (Own (Means2 second third)) fourth)))
  as_inner m m1 m2 m3 m4 a b c d h1 h2 h3 h4 =
      let middle = Own (Means2 second third) in
      let rest = Own (Means2 middle fourth) in
      subst (λ (v : DelayedResult (A × ((B × C) × D))). Exactly (Means2 first rest) m m4 v) (inner a b c d)
      (decides2 first rest m m1 m4 a (list2 (list2 b c) d) h1 (own2 middle fourth m1 m3 m4 (list2 b c) d (own2 second third m1 m2 m3 b c h2 h3) h4))

  pub as_outer : AsList4 first second third fourth (λ v. ((v.0, (v.1, v.2)), v.3)) (Means2 (Own (Means2 first (Own (Means2 second third)))) fourth)
  as_outer m m1 m2 m3 m4 a b c d h1 h2 h3 h4 =
      let middle = Own (Means2 second third) in
      let most = Own (Means2 first middle) in
      subst (λ (v : DelayedResult ((A × (B × C)) × D)). Exactly (Means2 most fourth) m m4 v) (outer a b c d)
      (decides2 most fourth m m3 m4 (list2 a (list2 b c)) d (own2 first middle m m1 m3 a (list2 b c) h1 (own2 second third m1 m2 m3 b c h2 h3)) h4)
