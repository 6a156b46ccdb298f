-- The results of the places of an argument list, as the one result of the list.
use Rattle.std.specs.Prelude.{List, [], ◌∷◌, Option, None, Some, Result, Ok, Err, ⊤}
use Rattle.web_reply.specs.Replies.{Fault}
use Rattle.web_reply.specs.JoinedErrors.{join}

-- a list of one value
abbrev pub One : Type 0 → Type 0
One A = record { 0 : A }

-- the result with another form of its value
abbrev pub map_value : {T U : Type 0} → (T → U) → Result T Fault → Result U Fault
map_value group (Ok v) = Ok (group v)
map_value group (Err x) = Err x

-- the list of the values, where all are there
abbrev pub values1 : {A : Type 0} → Result A Fault → Result (One A) Fault
values1 x = map_value (λ v. record { 0 = v }) x

abbrev pub values2 : {A B : Type 0} → Result A Fault → Result B Fault → Result (A × B) Fault
values2 (Ok a) y = map_value (λ b. (a, b)) y
values2 (Err e) y = Err e

abbrev pub values3 :
    {A B C : Type 0} → Result A Fault → Result B Fault → Result C Fault → Result (A × B × C) Fault
values3 (Ok a) y z = map_value (λ v. (a, v.0, v.1)) (values2 y z)
values3 (Err e) y z = Err e

abbrev pub values4 :
    {A B C D : Type 0} → Result A Fault → Result B Fault → Result C Fault → Result D Fault
    → Result (A × B × C × D) Fault
values4 (Ok a) y z w = map_value (λ v. (a, v.0, v.1, v.2)) (values3 y z w)
values4 (Err e) y z w = Err e

-- the error of a place that refuses
abbrev pub refusal : {T : Type 0} → Result T Fault → Option Fault
refusal (Ok v) = None
refusal (Err e) = Some e

-- the errors of those places that refuse, in the order of places
abbrev pub refused : List (Option Fault) → List Fault
refused [] = []
refused (None ∷ os) = refused os
refused (Some e ∷ os) = e ∷ refused os

-- the values, where there is no error
abbrev pub unless_refused : {T : Type 0} → Option Fault → Result T Fault → Result T Fault
unless_refused None values = values
unless_refused (Some e) values = Err e

-- the result of a list: where no place refuses, all values; else the errors of those that do,
-- joined
abbrev pub collected1 : {A : Type 0} → Result A Fault → Result (One A) Fault
collected1 x = unless_refused (join (refused (refusal x ∷ []))) (values1 x)

abbrev pub collected2 : {A B : Type 0} → Result A Fault → Result B Fault → Result (A × B) Fault
collected2 x y = unless_refused (join (refused (refusal x ∷ refusal y ∷ []))) (values2 x y)

abbrev pub collected3 :
    {A B C : Type 0} → Result A Fault → Result B Fault → Result C Fault → Result (A × B × C) Fault
collected3 x y z =
    unless_refused (join (refused (refusal x ∷ refusal y ∷ refusal z ∷ []))) (values3 x y z)

abbrev pub collected4 :
    {A B C D : Type 0} → Result A Fault → Result B Fault → Result C Fault → Result D Fault
    → Result (A × B × C × D) Fault
collected4 x y z w =
    unless_refused (join (refused (refusal x ∷ refusal y ∷ refusal z ∷ refusal w ∷ [])))
    (values4 x y z w)

-- at most one of two places refuses
abbrev pub IsOneRefusal : {A B : Type 0} → Result A Fault → Result B Fault → Type 0
IsOneRefusal (Ok a) y = ⊤
IsOneRefusal (Err e) (Ok b) = ⊤
IsOneRefusal (Err e) (Err f) = ⊥
