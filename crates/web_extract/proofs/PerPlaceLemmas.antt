-- Nested places and places side by side.
use Rattle.std.proofs.Common.{◌≡◌, ℕ, max, refl, sym, ap, ◌∙◌, arith}
use Rattle.std.specs.Prelude.{Result, Ok, Err}
use Rattle.web_reply.specs.Replies.{Fault}
use Rattle.web_extract.specs.ArgumentLists.{Gives, Joins2, Joins3, Joins4, nested3, nested4}
use Rattle.web_extract.specs.CollectedResults.{collected2, collected3, collected4, map_value}
use Rattle.web_extract.specs.PerPlace.{Collects3, Collects4, PerPlace3, PerPlace4}
use Rattle.web_extract.proofs.CollectedResultsLemmas.{collected_three, collected_right}

pub ungroup : {T U : Type 0} (f : T → U) (back : U → T) → ((t : T) → back (f t) ≡ t) → (x y : Result T Fault) → map_value f x ≡ map_value f y → x ≡ y
ungroup {T} {U} f back inv (Ok v) (Ok w) e = let d : f v ≡ f w = cc e in ap (λ (t : T). Ok t) (sym (inv v) ∙ ap back d ∙ inv w)
ungroup f back inv (Ok v) (Err y) e = absurd (cc e)
ungroup f back inv (Err x) (Ok w) e = absurd (cc e)
ungroup f back inv (Err x) (Err y) e = let d : x ≡ y = cc e in rw d refl

module _ {A B C : Type 0} (g1 : Gives A) (g2 : Gives B) (g3 : Gives C) where
  three_to : (n : ℕ) (x : Result (A × B × C) Fault) → Joins3 g1 g2 g3 n x → Collects3 g1 g2 g3 n x
  three_to n x j =
      let k = j.second_gives in
      let d = j.delay in
      let e = k.delay in
      record {
        n1 = j.n1;
        x1 = j.x1;
        first_gives = j.first_gives;
        n2 = k.n1;
        x2 = k.x1;
        second_gives = k.first_gives;
        n3 = k.n2;
        x3 = k.x2;
        third_gives = k.second_gives;
        delay = omega (arith, d, e);
        result = ungroup {T = A × B × C} {U = A × (B × C)} (λ v. (v.0, (v.1, v.2))) (λ v. (v.0, v.1.0, v.1.1)) (λ v. refl) x (collected3 j.x1 k.x1 k.x2)
            (j.result ∙ ap (λ r. collected2 j.x1 r) k.result ∙ collected_three j.x1 k.x1 k.x2);
      }

  three_from : (n : ℕ) (x : Result (A × B × C) Fault) → Collects3 g1 g2 g3 n x → Joins3 g1 g2 g3 n x
  three_from n x c =
      let d = c.delay in
      let rest : Joins2 g2 g3 (max c.n2 c.n3) (collected2 c.x2 c.x3) = record {
        n1 = c.n2;
        x1 = c.x2;
        first_gives = c.second_gives;
        n2 = c.n3;
        x2 = c.x3;
        second_gives = c.third_gives;
        delay = refl;
        result = refl;
      } in
      record {
        n1 = c.n1;
        x1 = c.x1;
        first_gives = c.first_gives;
        n2 = max c.n2 c.n3;
        x2 = collected2 c.x2 c.x3;
        second_gives = rest;
        delay = omega (arith, d);
        result = ap (λ (y : Result (A × B × C) Fault). nested3 y) c.result ∙ sym (collected_three c.x1 c.x2 c.x3);
      }

  pub per_place3 : PerPlace3 g1 g2 g3
  per_place3 n x = (three_to n x, three_from n x)

module _ {A B C D : Type 0} (g1 : Gives A) (g2 : Gives B) (g3 : Gives C) (g4 : Gives D) where
  four_to : (n : ℕ) (x : Result (A × B × C × D) Fault) → Joins4 g1 g2 g3 g4 n x → Collects4 g1 g2 g3 g4 n x
  four_to n x j =
      let k = j.second_gives in
      let l = k.second_gives in
      let d = j.delay in
      let e = k.delay in
      let f = l.delay in
      record {
        n1 = j.n1;
        x1 = j.x1;
        first_gives = j.first_gives;
        n2 = k.n1;
        x2 = k.x1;
        second_gives = k.first_gives;
        n3 = l.n1;
        x3 = l.x1;
        third_gives = l.first_gives;
        n4 = l.n2;
        x4 = l.x2;
        fourth_gives = l.second_gives;
        delay = omega (arith, d, e, f);
        result = ungroup {T = A × B × C × D} {U = A × (B × (C × D))} (λ v. (v.0, (v.1, (v.2, v.3)))) (λ v. (v.0, v.1.0, v.1.1.0, v.1.1.1)) (λ v. refl) x (collected4 j.x1 k.x1 l.x1 l.x2)
            (j.result ∙ ap (λ r. collected2 j.x1 r) (k.result ∙ ap (λ r. collected2 k.x1 r) l.result) ∙ collected_right j.x1 k.x1 l.x1 l.x2);
      }

  four_from : (n : ℕ) (x : Result (A × B × C × D) Fault) → Collects4 g1 g2 g3 g4 n x → Joins4 g1 g2 g3 g4 n x
  four_from n x c =
      let d = c.delay in
      let last : Joins2 g3 g4 (max c.n3 c.n4) (collected2 c.x3 c.x4) = record {
        n1 = c.n3;
        x1 = c.x3;
        first_gives = c.third_gives;
        n2 = c.n4;
        x2 = c.x4;
        second_gives = c.fourth_gives;
        delay = refl;
        result = refl;
      } in
      let rest : Joins2 g2 (Joins2 g3 g4) (max c.n2 (max c.n3 c.n4)) (collected2 c.x2 (collected2 c.x3 c.x4)) = record {
        n1 = c.n2;
        x1 = c.x2;
        first_gives = c.second_gives;
        n2 = max c.n3 c.n4;
        x2 = collected2 c.x3 c.x4;
        second_gives = last;
        delay = refl;
        result = refl;
      } in
      record {
        n1 = c.n1;
        x1 = c.x1;
        first_gives = c.first_gives;
        n2 = max c.n2 (max c.n3 c.n4);
        x2 = collected2 c.x2 (collected2 c.x3 c.x4);
        second_gives = rest;
        delay = omega (arith, d);
        result = ap (λ (y : Result (A × B × C × D) Fault). nested4 y) c.result ∙ sym (collected_right c.x1 c.x2 c.x3 c.x4);
      }

  pub per_place4 : PerPlace4 g1 g2 g3 g4
  per_place4 n x = (four_to n x, four_from n x)
