-- What an argument list means: each place gets the marks that the one before leaves, and then the
-- places are joined.
use Rattle.std.specs.Prelude.{ℕ, List, Result}
use Rattle.web_request.specs.declared.source.Mark.{Mark}
use Rattle.web_reply.specs.Replies.{Fault}
use Rattle.web_extract.specs.ArgumentLists.{Gives, ConvertsRefusal}
use Rattle.web_extract.specs.ArgumentLists.{Joins1, Joins2, Joins3, Joins4}
use Rattle.web_extract.specs.CollectedResults.{One}

-- what may come of these marks, with these left over
abbrev pub Meaning : Type 0 → Type 1
Meaning T = List Mark → List Mark → Gives T

-- the same, with an error of its own
abbrev pub ArgumentMeaning : Type 0 → Type 0 → Type 1
ArgumentMeaning T E = List Mark → List Mark → ℕ → Result T E → Type 0

-- an argument as a place
abbrev pub Member :
    {T E : Type 0} → (E → Fault → Type 0) → ArgumentMeaning T E → Meaning T
Member converts means m rest = ConvertsRefusal converts (means m rest)

abbrev pub Means1 : {A : Type 0} → Meaning A → Meaning (One A)
Means1 first m rest = Joins1 (first m rest)

-- each place gets the marks that the one before leaves
abbrev pub Means2 : {A B : Type 0} → Meaning A → Meaning B → Meaning (A × B)
Means2 first second m rest n x =
    (left1 : List Mark) × Joins2 (first m left1) (second left1 rest) n x

abbrev pub Means3 : {A B C : Type 0} → Meaning A → Meaning B → Meaning C → Meaning (A × B × C)
Means3 first second third m rest n x =
    (left1 left2 : List Mark) × Joins3 (first m left1) (second left1 left2) (third left2 rest) n x

abbrev pub Means4 :
    {A B C D : Type 0} → Meaning A → Meaning B → Meaning C → Meaning D → Meaning (A × B × C × D)
Means4 first second third fourth m rest n x =
    (left1 left2 left3 : List Mark) × Joins4 (first m left1) (second left1 left2)
    (third left2 left3) (fourth left3 rest) n x
