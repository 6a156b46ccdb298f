-- The marks that the places of an argument list get: the first place that takes them has them all.
use Rattle.std.specs.Prelude.{◌≡◌, ◌⊎◌, ℕ, List, [], ◌∷◌, Result, ⊤}
use Rattle.web_request.specs.declared.source.Mark.{Mark}
use Rattle.web_reply.specs.Replies.{Fault}
use Rattle.web_extract.specs.ArgumentLists.{Joins2, Joins3, Joins4}
use Rattle.web_extract.specs.ListMeanings.{Meaning, Means2, Means3, Means4}

-- the marks that a place leaves are those that it got, or none
abbrev pub AllOrNone : List Mark → List Mark → Type 0
AllOrNone m left = (left ≡ m) ⊎ (left ≡ [])

-- an argument leaves all marks or none
abbrev pub LeavesAllOrNone : {T E : Type 0}
    → (List Mark → List Mark → ℕ → Result T E → Type 0) → Type 0
LeavesAllOrNone {T} {E} means =
    (m left : List Mark) (n : ℕ) (x : Result T E) → means m left n x → AllOrNone m left

abbrev pub AreEmpty : List (List Mark) → Type 0
AreEmpty [] = ⊤
AreEmpty (left ∷ more) = (left ≡ []) × AreEmpty more

-- what the places leave, in their order: all marks up to the first that takes them, and from that
-- one on none
abbrev pub FirstTakes : List Mark → List (List Mark) → Type 0
FirstTakes m [] = ⊤
FirstTakes m (left ∷ more) = ((left ≡ m) × FirstTakes m more) ⊎ AreEmpty (left ∷ more)

-- each place gets the marks that the one before leaves, which are all or none
abbrev pub FirstTakes2 : {A B : Type 0} → Meaning A → Meaning B → Type 0
FirstTakes2 {A} {B} first second =
    (m rest : List Mark) (n : ℕ) (x : Result (A × B) Fault) → Means2 first second m rest n x
    → (left1 : List Mark) × Joins2 (first m left1) (second left1 rest) n x
    × FirstTakes m (left1 ∷ rest ∷ [])

abbrev pub FirstTakes3 : {A B C : Type 0} → Meaning A → Meaning B → Meaning C → Type 0
FirstTakes3 {A} {B} {C} first second third =
    (m rest : List Mark) (n : ℕ) (x : Result (A × B × C) Fault)
    → Means3 first second third m rest n x
    → (left1 left2 : List Mark)
    × Joins3 (first m left1) (second left1 left2) (third left2 rest) n x
    × FirstTakes m (left1 ∷ left2 ∷ rest ∷ [])

abbrev pub FirstTakes4 :
    {A B C D : Type 0} → Meaning A → Meaning B → Meaning C → Meaning D → Type 0
FirstTakes4 {A} {B} {C} {D} first second third fourth =
    (m rest : List Mark) (n : ℕ) (x : Result (A × B × C × D) Fault)
    → Means4 first second third fourth m rest n x
    → (left1 left2 left3 : List Mark)
    × Joins4 (first m left1) (second left1 left2) (third left2 left3) (fourth left3 rest) n x
    × FirstTakes m (left1 ∷ left2 ∷ left3 ∷ rest ∷ [])
