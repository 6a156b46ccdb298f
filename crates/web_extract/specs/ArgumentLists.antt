-- Argument lists. Of each place there is a relation: which result may come after which number of
-- polls that return Pending.
use Rattle.std.specs.Prelude.{◌≡◌, ℕ, max, Result, Ok, Err}
use Rattle.web_reply.specs.Replies.{Fault}
use Rattle.web_extract.specs.CollectedResults.{One, collected2, map_value}

abbrev pub Gives : Type 0 → Type 1
Gives T = ℕ → Result T Fault → Type 0

-- an argument as a place: its refusal is what its error converts into
abbrev pub ConvertsRefusal :
    {T E : Type 0} → (E → Fault → Type 0) → (ℕ → Result T E → Type 0) → Gives T
ConvertsRefusal converts gives n (Ok v) = gives n (Ok v)
ConvertsRefusal {T} {E} converts gives n (Err x) = (e : E) × gives n (Err e) × converts e x

-- one place
abbrev pub Joins1 : {A : Type 0} → Gives A → Gives (One A)
Joins1 first n (Ok v) = first n (Ok v.0)
Joins1 first n (Err x) = first n (Err x)

-- two places: what their results come to, at the greater number
pub record Joins2 {A B : Type 0} (first : Gives A) (second : Gives B) (n : ℕ)
    (x : Result (A × B) Fault) : Type 0 where
  pub n1 : ℕ
  pub x1 : Result A Fault
  pub first_gives : first n1 x1
  pub n2 : ℕ
  pub x2 : Result B Fault
  pub second_gives : second n2 x2
  pub delay : n ≡ max n1 n2
  pub result : x ≡ collected2 x1 x2

-- a list of three or four values as nested pairs
abbrev pub nested3 : {A B C : Type 0} → Result (A × B × C) Fault → Result (A × (B × C)) Fault
nested3 x = map_value (λ v. (v.0, (v.1, v.2))) x

abbrev pub nested4 :
    {A B C D : Type 0} → Result (A × B × C × D) Fault → Result (A × (B × (C × D))) Fault
nested4 x = map_value (λ v. (v.0, (v.1, (v.2, v.3)))) x

-- three and four places: the first, and the others together
abbrev pub Joins3 : {A B C : Type 0} → Gives A → Gives B → Gives C → Gives (A × B × C)
Joins3 first second third n x = Joins2 first (Joins2 second third) n (nested3 x)

abbrev pub Joins4 :
    {A B C D : Type 0} → Gives A → Gives B → Gives C → Gives D → Gives (A × B × C × D)
Joins4 first second third fourth n x =
    Joins2 first (Joins2 second (Joins2 third fourth)) n (nested4 x)

-- it cannot be that both refuse at the next poll
abbrev pub NotBothRefuse : {A B : Type 0} → Gives A → Gives B → Type 0
NotBothRefuse first second = (e f : Fault) → first 0 (Err e) → second 0 (Err f) → ⊥
