-- Lists of three and four, place by place.
use Rattle.std.specs.Prelude.{◌≡◌, ℕ, ◌↔◌, [], ◌∷◌, Result}
use Rattle.web_reply.specs.Replies.{Fault}
use Rattle.web_extract.specs.CollectedResults.{collected3, collected4}
use Rattle.web_extract.specs.ListResults.{greatest}
use Rattle.web_extract.specs.ArgumentLists.{Gives, Joins3, Joins4}

-- what the results of all places come to, at the greatest number
pub record Collects3 {A B C : Type 0} (first : Gives A) (second : Gives B) (third : Gives C) (n : ℕ)
    (x : Result (A × B × C) Fault) : Type 0 where
  pub n1 : ℕ
  pub x1 : Result A Fault
  pub first_gives : first n1 x1
  pub n2 : ℕ
  pub x2 : Result B Fault
  pub second_gives : second n2 x2
  pub n3 : ℕ
  pub x3 : Result C Fault
  pub third_gives : third n3 x3
  pub delay : n ≡ greatest (n1 ∷ n2 ∷ n3 ∷ [])
  pub result : x ≡ collected3 x1 x2 x3

pub record Collects4 {A B C D : Type 0} (first : Gives A) (second : Gives B) (third : Gives C)
    (fourth : Gives D) (n : ℕ) (x : Result (A × B × C × D) Fault) : Type 0 where
  pub n1 : ℕ
  pub x1 : Result A Fault
  pub first_gives : first n1 x1
  pub n2 : ℕ
  pub x2 : Result B Fault
  pub second_gives : second n2 x2
  pub n3 : ℕ
  pub x3 : Result C Fault
  pub third_gives : third n3 x3
  pub n4 : ℕ
  pub x4 : Result D Fault
  pub fourth_gives : fourth n4 x4
  pub delay : n ≡ greatest (n1 ∷ n2 ∷ n3 ∷ n4 ∷ [])
  pub result : x ≡ collected4 x1 x2 x3 x4

-- a list of three or four is what its places come to
abbrev pub PerPlace3 : {A B C : Type 0} → Gives A → Gives B → Gives C → Type 0
PerPlace3 {A} {B} {C} first second third =
    (n : ℕ) (x : Result (A × B × C) Fault)
    → Joins3 first second third n x ↔ Collects3 first second third n x

abbrev pub PerPlace4 : {A B C D : Type 0} → Gives A → Gives B → Gives C → Gives D → Type 0
PerPlace4 {A} {B} {C} {D} first second third fourth =
    (n : ℕ) (x : Result (A × B × C × D) Fault)
    → Joins4 first second third fourth n x ↔ Collects4 first second third fourth n x
