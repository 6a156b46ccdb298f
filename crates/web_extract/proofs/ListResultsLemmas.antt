-- A list of arguments each of which allows exactly one result.
use Rattle.std.proofs.Common.{◌≡◌, ℕ, ◌↔◌, refl, sym, ◌∙◌, arith}
use Rattle.std.specs.Prelude.{Result}
use Rattle.web_reply.specs.Replies.{Fault}
use Rattle.web_extract.specs.ArgumentLists.{Gives, Joins2}
use Rattle.web_extract.specs.CollectedResults.{collected2}
use Rattle.web_extract.specs.ListResults.{DelayedResult, list2}

-- it allows this result at this delay and no other
abbrev pub Only : {T : Type 0} → Gives T → DelayedResult T → Type 0
Only {T} g v = (n : ℕ) (x : Result T Fault) → g n x ↔ (n ≡ v.delay) × (x ≡ v.result)

pub comes : {T : Type 0} (g : Gives T) (v : DelayedResult T) → Only g v → g v.delay v.result
comes g v h = (h v.delay v.result).1 (refl, refl)

module _ {A B : Type 0} (g1 : Gives A) (g2 : Gives B) (a : DelayedResult A) (b : DelayedResult B) (h1 : Only g1 a) (h2 : Only g2 b) where
  only_comes : (n : ℕ) (x : Result (A × B) Fault) → Joins2 g1 g2 n x → (n ≡ (list2 a b).delay) × (x ≡ (list2 a b).result)
  only_comes n x h =
      let k1 = (h1 h.n1 h.x1).0 h.first_gives in
      let k2 = (h2 h.n2 h.x2).0 h.second_gives in
      let d = h.delay in
      let e1 = k1.0 in
      let e2 = k2.0 in
      (omega (arith, d, e1, e2), h.result ∙ rw (k1.1, k2.1) refl)

  all_come : (n : ℕ) (x : Result (A × B) Fault) → (n ≡ (list2 a b).delay) × (x ≡ (list2 a b).result) → Joins2 g1 g2 n x
  all_come n x (d, is) = record {
    n1 = a.delay;
    x1 = a.result;
    first_gives = (h1 a.delay a.result).1 (refl, refl);
    n2 = b.delay;
    x2 = b.result;
    second_gives = (h2 b.delay b.result).1 (refl, refl);
    delay = omega (arith, d);
    result = is;
  }

  pub joins_only : Only (Joins2 g1 g2) (list2 a b)
  joins_only n x = (only_comes n x, all_come n x)
