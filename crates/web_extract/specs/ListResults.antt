-- One result and no other, and what a list makes of the results of its places.
use Rattle.std.specs.Prelude.{◌≡◌, ℕ, max, ◌↔◌, List, [], ◌∷◌, Result}
use Rattle.web_request.specs.declared.source.Mark.{Mark}
use Rattle.web_reply.specs.Replies.{Fault}
use Rattle.web_extract.specs.CollectedResults.{One, collected1, collected2, collected3, collected4}
use Rattle.web_extract.specs.CollectedResults.{map_value}
use Rattle.web_extract.specs.ListMeanings.{Meaning, Means1, Means2, Means3, Means4}

-- a result, and the number of polls that return Pending before it
pub record DelayedResult (T : Type 0) : Type 0 where
  pub delay : ℕ
  pub result : Result T Fault

-- of the marks m it leaves rest, and it allows this result at this delay and no other
abbrev pub Exactly : {T : Type 0} → Meaning T → List Mark → List Mark → DelayedResult T → Type 0
Exactly {T} means m rest v =
    (left : List Mark) (n : ℕ) (x : Result T Fault)
    → means m left n x ↔ (left ≡ rest) × (n ≡ v.delay) × (x ≡ v.result)

abbrev pub greatest : List ℕ → ℕ
greatest [] = 0
greatest (n ∷ ns) = max n (greatest ns)

-- a list: the greatest delay; where no place refuses, all values, else the errors of those that
-- refuse, joined
abbrev pub list1 : {A : Type 0} → DelayedResult A → DelayedResult (One A)
list1 a = record { delay = greatest (a.delay ∷ []); result = collected1 a.result }

abbrev pub list2 : {A B : Type 0} → DelayedResult A → DelayedResult B → DelayedResult (A × B)
list2 a b = record {
  delay = greatest (a.delay ∷ b.delay ∷ []);
  result = collected2 a.result b.result;
}

abbrev pub list3 :
    {A B C : Type 0} → DelayedResult A → DelayedResult B → DelayedResult C
    → DelayedResult (A × B × C)
list3 a b c = record {
  delay = greatest (a.delay ∷ b.delay ∷ c.delay ∷ []);
  result = collected3 a.result b.result c.result;
}

abbrev pub list4 :
    {A B C D : Type 0} → DelayedResult A → DelayedResult B → DelayedResult C → DelayedResult D
    → DelayedResult (A × B × C × D)
list4 a b c d = record {
  delay = greatest (a.delay ∷ b.delay ∷ c.delay ∷ d.delay ∷ []);
  result = collected4 a.result b.result c.result d.result;
}

-- where each argument leaves certain marks of those that it gets and allows one result, so does the
-- list
abbrev pub Decides1 : {A : Type 0} → Meaning A → Type 0
Decides1 {A} first =
    (m m1 : List Mark) (a : DelayedResult A) → Exactly first m m1 a
    → Exactly (Means1 first) m m1 (list1 a)

abbrev pub Decides2 : {A B : Type 0} → Meaning A → Meaning B → Type 0
Decides2 {A} {B} first second =
    (m m1 m2 : List Mark) (a : DelayedResult A) (b : DelayedResult B)
    → Exactly first m m1 a → Exactly second m1 m2 b → Exactly (Means2 first second) m m2 (list2 a b)

abbrev pub Decides3 : {A B C : Type 0} → Meaning A → Meaning B → Meaning C → Type 0
Decides3 {A} {B} {C} first second third =
    (m m1 m2 m3 : List Mark) (a : DelayedResult A) (b : DelayedResult B) (c : DelayedResult C)
    → Exactly first m m1 a → Exactly second m1 m2 b → Exactly third m2 m3 c
    → Exactly (Means3 first second third) m m3 (list3 a b c)

abbrev pub Decides4 : {A B C D : Type 0} → Meaning A → Meaning B → Meaning C → Meaning D → Type 0
Decides4 {A} {B} {C} {D} first second third fourth =
    (m m1 m2 m3 m4 : List Mark) (a : DelayedResult A) (b : DelayedResult B) (c : DelayedResult C)
    (d : DelayedResult D)
    → Exactly first m m1 a → Exactly second m1 m2 b → Exactly third m2 m3 c → Exactly fourth m3 m4 d
    → Exactly (Means4 first second third fourth) m m4 (list4 a b c d)

-- the same with another form of the value
abbrev pub with_value : {T U : Type 0} → (T → U) → DelayedResult T → DelayedResult U
with_value group v = record { delay = v.delay; result = map_value group v.result }

-- it has the delay and the error or values of the list of the four
abbrev pub AsList4 :
    {A B C D T : Type 0} → Meaning A → Meaning B → Meaning C → Meaning D → (A × B × C × D → T)
    → Meaning T → Type 0
AsList4 {A} {B} {C} {D} first second third fourth group nested =
    (m m1 m2 m3 m4 : List Mark) (a : DelayedResult A) (b : DelayedResult B) (c : DelayedResult C)
    (d : DelayedResult D)
    → Exactly first m m1 a → Exactly second m1 m2 b → Exactly third m2 m3 c → Exactly fourth m3 m4 d
    → Exactly nested m m4 (with_value group (list4 a b c d))
