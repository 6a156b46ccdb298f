-- The first place that takes the marks has them.
use Rattle.std.proofs.Common.{◌≡◌, ℕ, List, [], ◌∷◌, inl, inr, subst}
use Rattle.std.specs.Prelude.{Option, None, Some, Result, Ok, Err, ⊤}
use Rattle.web_request.specs.declared.source.Mark.{Mark}
use Rattle.web_reply.specs.Replies.{Fault}
use Rattle.web_extract.specs.ArgumentLists.{Joins2, Joins3, Joins4}
use Rattle.web_extract.specs.BodyArguments.{rest_after}
use Rattle.web_extract.specs.FirstTaker.{AllOrNone, AreEmpty, FirstTakes, FirstTakes2, FirstTakes3, FirstTakes4, LeavesAllOrNone}
use Rattle.web_extract.specs.ListMeanings.{Meaning, Member}

pub after_refusal : (refusal : Option Fault) (m left : List Mark) → left ≡ rest_after refusal m → AllOrNone m left
after_refusal None m left is = inr is
after_refusal (Some e) m left is = inl is

pub member_leaves : {T E : Type 0} (converts : E → Fault → Type 0) (means : List Mark → List Mark → ℕ → Result T E → Type 0)
    → LeavesAllOrNone means → LeavesAllOrNone (Member converts means)
member_leaves converts means leaves m left n (Ok v) h = leaves m left n (Ok v) h
member_leaves converts means leaves m left n (Err f) h = leaves m left n (Err h.0) h.1

-- each is what the one before leaves, or none
abbrev Steps : List Mark → List (List Mark) → Type 0
Steps m [] = ⊤
Steps m (left ∷ more) = AllOrNone m left × Steps left more

none_of_none : (left : List Mark) → AllOrNone [] left → left ≡ []
none_of_none left (inl same) = same
none_of_none left (inr empty) = empty

empty_on : (more : List (List Mark)) → Steps [] more → AreEmpty more
empty_on [] h = tt
empty_on (left ∷ more) h =
    let empty = none_of_none left h.0 in
    (empty, empty_on more (subst (λ (l : List Mark). Steps l more) empty h.1))

taken : (m : List Mark) (more : List (List Mark)) → Steps m more → FirstTakes m more
taken m [] h = tt
taken m (left ∷ more) (inl same, rest) = inl (same, taken m more (subst (λ (l : List Mark). Steps l more) same rest))
taken m (left ∷ more) (inr empty, rest) = inr (empty, empty_on more (subst (λ (l : List Mark). Steps l more) empty rest))

module _ {A B : Type 0} (first : Meaning A) (second : Meaning B) (h1 : LeavesAllOrNone first) (h2 : LeavesAllOrNone second)
    (m left rest : List Mark) where
  steps2 : (n : ℕ) (x : Result (A × B) Fault) → Joins2 (first m left) (second left rest) n x → Steps m (left ∷ rest ∷ [])
  steps2 n x j = (h1 m left j.n1 j.x1 j.first_gives, (h2 left rest j.n2 j.x2 j.second_gives, tt))

pub first_takes2 : {A B : Type 0} (first : Meaning A) (second : Meaning B) → LeavesAllOrNone first → LeavesAllOrNone second → FirstTakes2 first second
first_takes2 first second h1 h2 m rest n x (left, j) = (left, j, taken m (left ∷ rest ∷ []) (steps2 first second h1 h2 m left rest n x j))

module _ {A B C : Type 0} (first : Meaning A) (second : Meaning B) (third : Meaning C)
    (h1 : LeavesAllOrNone first) (h2 : LeavesAllOrNone second) (h3 : LeavesAllOrNone third) (m l1 l2 rest : List Mark) where
  steps3 : (n : ℕ) (x : Result (A × B × C) Fault) → Joins3 (first m l1) (second l1 l2) (third l2 rest) n x → Steps m (l1 ∷ l2 ∷ rest ∷ [])
  steps3 n x j =
      let k = j.second_gives in
      (h1 m l1 j.n1 j.x1 j.first_gives, (h2 l1 l2 k.n1 k.x1 k.first_gives, (h3 l2 rest k.n2 k.x2 k.second_gives, tt)))

pub first_takes3 : {A B C : Type 0} (first : Meaning A) (second : Meaning B) (third : Meaning C)
    → LeavesAllOrNone first → LeavesAllOrNone second → LeavesAllOrNone third → FirstTakes3 first second third
first_takes3 first second third h1 h2 h3 m rest n x (l1, l2, j) = (l1, l2, j, taken m (l1 ∷ l2 ∷ rest ∷ []) (steps3 first second third h1 h2 h3 m l1 l2 rest n x j))

module _ {A B C D : Type 0} (first : Meaning A) (second : Meaning B) (third : Meaning C) (fourth : Meaning D)
    (h1 : LeavesAllOrNone first) (h2 : LeavesAllOrNone second) (h3 : LeavesAllOrNone third) (h4 : LeavesAllOrNone fourth)
    (m l1 l2 l3 rest : List Mark) where
  steps4 : (n : ℕ) (x : Result (A × B × C × D) Fault) → Joins4 (first m l1) (second l1 l2) (third l2 l3) (fourth l3 rest) n x
      → Steps m (l1 ∷ l2 ∷ l3 ∷ rest ∷ [])
  steps4 n x j =
      let k = j.second_gives in
      let l = k.second_gives in
      (h1 m l1 j.n1 j.x1 j.first_gives, (h2 l1 l2 k.n1 k.x1 k.first_gives, (h3 l2 l3 l.n1 l.x1 l.first_gives, (h4 l3 rest l.n2 l.x2 l.second_gives, tt))))

pub first_takes4 : {A B C D : Type 0} (first : Meaning A) (second : Meaning B) (third : Meaning C) (fourth : Meaning D)
    → LeavesAllOrNone first → LeavesAllOrNone second → LeavesAllOrNone third → LeavesAllOrNone fourth → FirstTakes4 first second third fourth
first_takes4 first second third fourth h1 h2 h3 h4 m rest n x (l1, l2, l3, j) =
    (l1, l2, l3, j, taken m (l1 ∷ l2 ∷ l3 ∷ rest ∷ []) (steps4 first second third fourth h1 h2 h3 h4 m l1 l2 l3 rest n x j))
