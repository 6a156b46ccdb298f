-- Lists of lists and one list come to the same.
use Rattle.std.proofs.Common.{◌≡◌, ℕ, refl, arith}
use Rattle.std.specs.Prelude.{Result}
use Rattle.web_reply.specs.Replies.{Fault}
use Rattle.web_extract.specs.ListResults.{DelayedResult, list2, list3, list4, with_value}
use Rattle.web_extract.proofs.CollectedResultsLemmas.{collected_three, collected_pairs, collected_right, collected_left, collected_inner, collected_outer}

abbrev at : {T : Type 0} → ℕ → Result T Fault → DelayedResult T
at n x = record { delay = n; result = x }

same_at : {T : Type 0} (n m : ℕ) (x y : Result T Fault) → n ≡ m → x ≡ y → at n x ≡ at m y
same_at n m x y en ex = rw (en, ex) refl

same : {T : Type 0} (v w : DelayedResult T) → v.delay ≡ w.delay → v.result ≡ w.result → v ≡ w
same v w en ex = same_at v.delay w.delay v.result w.result en ex

module _ {A B C D : Type 0} (a : DelayedResult A) (b : DelayedResult B) (c : DelayedResult C) (d : DelayedResult D) where
  pub pairs : list2 (list2 a b) (list2 c d) ≡ with_value (λ v. ((v.0, v.1), (v.2, v.3))) (list4 a b c d)
  pairs =
      same (list2 (list2 a b) (list2 c d)) (with_value (λ v. ((v.0, v.1), (v.2, v.3))) (list4 a b c d)) (omega arith)
      (collected_pairs a.result b.result c.result d.result)

  pub right : list2 a (list2 b (list2 c d)) ≡ with_value (λ v. (v.0, (v.1, (v.2, v.3)))) (list4 a b c d)
  right =
      same (list2 a (list2 b (list2 c d))) (with_value (λ v. (v.0, (v.1, (v.2, v.3)))) (list4 a b c d)) (omega arith)
      (collected_right a.result b.result c.result d.result)

  pub left : list2 (list2 (list2 a b) c) d ≡ with_value (λ v. (((v.0, v.1), v.2), v.3)) (list4 a b c d)
  left =
      same (list2 (list2 (list2 a b) c) d) (with_value (λ v. (((v.0, v.1), v.2), v.3)) (list4 a b c d)) (omega arith)
      (collected_left a.result b.result c.result d.result)

  pub inner : list2 a (list2 (list2 b c) d) ≡ with_value (λ v. (v.0, ((v.1, v.2), v.3))) (list4 a b c d)
  inner =
      same (list2 a (list2 (list2 b c) d)) (with_value (λ v. (v.0, ((v.1, v.2), v.3))) (list4 a b c d)) (omega arith)
      (collected_inner a.result b.result c.result d.result)

  pub outer : list2 (list2 a (list2 b c)) d ≡ with_value (λ v. ((v.0, (v.1, v.2)), v.3)) (list4 a b c d)
  outer =
      same (list2 (list2 a (list2 b c)) d) (with_value (λ v. ((v.0, (v.1, v.2)), v.3)) (list4 a b c d)) (omega arith)
      (collected_outer a.result b.result c.result d.result)

pub three : {A B C : Type 0} (a : DelayedResult A) (b : DelayedResult B) (c : DelayedResult C) → list2 a (list2 b c) ≡ with_value (λ v. (v.0, (v.1, v.2))) (list3 a b c)
three a b c =
    same (list2 a (list2 b c)) (with_value (λ v. (v.0, (v.1, v.2))) (list3 a b c)) (omega arith)
    (collected_three a.result b.result c.result)
