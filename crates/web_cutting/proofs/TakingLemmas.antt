-- What is left of a body: all of it or none.
use Rattle.std.proofs.Common.{◌≡◌, ℕ, Bool, true, false, List, ◌∙◌, inl, inr, subst}
use Rattle.std.specs.Prelude.{Option, None, Some, Result, Ok, Err}
use Rattle.web_request.specs.declared.source.Mark.{Mark}
use Rattle.web_reply.specs.Replies.{Fault}
use Rattle.web_extract.specs.BodyArguments.{rest_after}
use Rattle.web_extract.specs.FirstTaker.{AllOrNone, LeavesAllOrNone}
use Rattle.web_extract.specs.ListMeanings.{Meaning, Means1, Means2, Means3, Means4, Member}
use Rattle.web_extract_body.specs.HandledBodies.{rest_where}

-- ---- one argument

pub after_refusal : (refusal : Option Fault) (m left : List Mark) → left ≡ rest_after refusal m → AllOrNone m left
after_refusal None m left is = inr is
after_refusal (Some e) m left is = inl is

pub where_taken : (is_taken : Bool) (m left : List Mark) → left ≡ rest_where is_taken m → AllOrNone m left
where_taken true m left is = inr is
where_taken false m left is = inl is

pub member_leaves : {T E : Type 0} (converts : E → Fault → Type 0) (means : List Mark → List Mark → ℕ → Result T E → Type 0)
    → LeavesAllOrNone means → LeavesAllOrNone (Member converts means)
member_leaves converts means leaves m left n (Ok v) h = leaves m left n (Ok v) h
member_leaves converts means leaves m left n (Err f) h = leaves m left n (Err h.0) h.1

-- ---- a list: what the last place leaves is all that the first one got, or none

step : (m middle left : List Mark) → AllOrNone m middle → AllOrNone middle left → AllOrNone m left
step m middle left (inl same) after = subst (λ (l : List Mark). AllOrNone l left) same after
step m middle left (inr empty) (inl same) = inr (same ∙ empty)
step m middle left (inr empty) (inr none) = inr none

pub one_leaves : {A : Type 0} (first : Meaning A) → LeavesAllOrNone first → LeavesAllOrNone (Means1 first)
one_leaves first leaves m left n (Ok v) h = leaves m left n (Ok v.0) h
one_leaves first leaves m left n (Err f) h = leaves m left n (Err f) h

pub two_leave : {A B : Type 0} (first : Meaning A) (second : Meaning B)
    → LeavesAllOrNone first → LeavesAllOrNone second → LeavesAllOrNone (Means2 first second)
two_leave first second leaves1 leaves2 m rest n x (left, j) =
    step m left rest (leaves1 m left j.n1 j.x1 j.first_gives) (leaves2 left rest j.n2 j.x2 j.second_gives)

pub three_leave : {A B C : Type 0} (first : Meaning A) (second : Meaning B) (third : Meaning C)
    → LeavesAllOrNone first → LeavesAllOrNone second → LeavesAllOrNone third → LeavesAllOrNone (Means3 first second third)
three_leave first second third leaves1 leaves2 leaves3 m rest n x (left1, left2, j) =
    step m left1 rest (leaves1 m left1 j.n1 j.x1 j.first_gives)
    (two_leave second third leaves2 leaves3 left1 rest j.n2 j.x2 (left2, j.second_gives))

pub four_leave : {A B C D : Type 0} (first : Meaning A) (second : Meaning B) (third : Meaning C) (fourth : Meaning D)
    → LeavesAllOrNone first → LeavesAllOrNone second → LeavesAllOrNone third → LeavesAllOrNone fourth
    → LeavesAllOrNone (Means4 first second third fourth)
four_leave first second third fourth leaves1 leaves2 leaves3 leaves4 m rest n x (left1, left2, left3, j) =
    let k = j.second_gives in
    step m left1 rest (leaves1 m left1 j.n1 j.x1 j.first_gives)
    (step left1 left2 rest (leaves2 left1 left2 k.n1 k.x1 k.first_gives)
    (two_leave third fourth leaves3 leaves4 left2 rest k.n2 k.x2 (left3, k.second_gives)))
