-- Arguments that allow one result as callers see it: a text by its bytes, a payload by its marks, a
-- request without its record. That they allow some result is `some` of `FromRequest`.
use Rattle.std.specs.Prelude.{◌≡◌, ℕ, List, Result}
use Rattle.web_request.specs.declared.source.Mark.{Mark}
use Rattle.web_reply.specs.Replies.{Fault}
use Rattle.web_extract.specs.CollectedResults.{One, map_value}
use Rattle.web_extract.specs.ListMeanings.{Meaning, Means1, Means2, Means3, Means4}
use Rattle.web_extract.specs.ListResults.{DelayedResult, Exactly, with_value}
use Rattle.web_extract.specs.ListResults.{list1, list2, list3, list4}

-- of the marks m it leaves rest, and each result that it allows comes at this delay and is this
-- one, its value seen by the view
abbrev pub SeenAs :
    {T U : Type 0} → (T → U) → Meaning T → List Mark → List Mark → DelayedResult U → Type 0
SeenAs {T} view means m rest v =
    (left : List Mark) (n : ℕ) (x : Result T Fault) → means m left n x
    → (left ≡ rest) × (n ≡ v.delay) × (map_value view x ≡ v.result)

-- the values of a list, each seen by its view
abbrev pub view1 : {A A' : Type 0} → (A → A') → One A → One A'
view1 f v = record { 0 = f v.0 }

abbrev pub view2 : {A B A' B' : Type 0} → (A → A') → (B → B') → A × B → A' × B'
view2 f g v = (f v.0, g v.1)

abbrev pub view3 :
    {A B C A' B' C' : Type 0} → (A → A') → (B → B') → (C → C') → A × B × C → A' × B' × C'
view3 f g h v = (f v.0, g v.1, h v.2)

abbrev pub view4 :
    {A B C D A' B' C' D' : Type 0} → (A → A') → (B → B') → (C → C') → (D → D')
    → A × B × C × D → A' × B' × C' × D'
view4 f g h k v = (f v.0, g v.1, h v.2, k v.3)

-- where each argument leaves certain marks of those that it gets, and is seen as one result, so is
-- the list
abbrev pub Sees1 : {A A' : Type 0} → (A → A') → Meaning A → Type 0
Sees1 {A} {A'} f first =
    (m m1 : List Mark) (a : DelayedResult A') → SeenAs f first m m1 a
    → SeenAs (view1 f) (Means1 first) m m1 (list1 a)

abbrev pub Sees2 : {A B A' B' : Type 0} → (A → A') → (B → B') → Meaning A → Meaning B → Type 0
Sees2 {A} {B} {A'} {B'} f g first second =
    (m m1 m2 : List Mark) (a : DelayedResult A') (b : DelayedResult B')
    → SeenAs f first m m1 a → SeenAs g second m1 m2 b
    → SeenAs (view2 f g) (Means2 first second) m m2 (list2 a b)

abbrev pub Sees3 :
    {A B C A' B' C' : Type 0} → (A → A') → (B → B') → (C → C')
    → Meaning A → Meaning B → Meaning C → Type 0
Sees3 {A} {B} {C} {A'} {B'} {C'} f g h first second third =
    (m m1 m2 m3 : List Mark) (a : DelayedResult A') (b : DelayedResult B') (c : DelayedResult C')
    → SeenAs f first m m1 a → SeenAs g second m1 m2 b → SeenAs h third m2 m3 c
    → SeenAs (view3 f g h) (Means3 first second third) m m3 (list3 a b c)

abbrev pub Sees4 :
    {A B C D A' B' C' D' : Type 0} → (A → A') → (B → B') → (C → C') → (D → D')
    → Meaning A → Meaning B → Meaning C → Meaning D → Type 0
Sees4 {A} {B} {C} {D} {A'} {B'} {C'} {D'} f g h k first second third fourth =
    (m m1 m2 m3 m4 : List Mark) (a : DelayedResult A') (b : DelayedResult B')
    (c : DelayedResult C') (d : DelayedResult D')
    → SeenAs f first m m1 a → SeenAs g second m1 m2 b → SeenAs h third m2 m3 c
    → SeenAs k fourth m3 m4 d
    → SeenAs (view4 f g h k) (Means4 first second third fourth) m m4 (list4 a b c d)

-- a list in pairs, of four arguments each of which is seen as one result
abbrev pub SeesList4 :
    {A B C D A' B' C' D' T T' : Type 0} → (A → A') → (B → B') → (C → C') → (D → D')
    → Meaning A → Meaning B → Meaning C → Meaning D
    → (T → T') → (A' × B' × C' × D' → T') → Meaning T → Type 0
SeesList4 {A} {B} {C} {D} {A'} {B'} {C'} {D'} f g h k first second third fourth seen group nested =
    (m m1 m2 m3 m4 : List Mark) (a : DelayedResult A') (b : DelayedResult B')
    (c : DelayedResult C') (d : DelayedResult D')
    → SeenAs f first m m1 a → SeenAs g second m1 m2 b → SeenAs h third m2 m3 c
    → SeenAs k fourth m3 m4 d
    → SeenAs seen nested m m4 (with_value group (list4 a b c d))

-- what the first is seen as, the second is seen as too
abbrev pub SeenAlike : {A A' : Type 0} → (A → A') → Meaning A → Meaning A → Type 0
SeenAlike {A} {A'} f first second =
    (m rest : List Mark) (v : DelayedResult A') → SeenAs f first m rest v
    → SeenAs f second m rest v

-- what the first allows exactly, the second is seen as
abbrev pub ExactAlike : {A A' : Type 0} → (A → A') → Meaning A → Meaning A → Type 0
ExactAlike {A} f first second =
    (m rest : List Mark) (v : DelayedResult A) → Exactly first m rest v
    → SeenAs f second m rest (with_value f v)

-- what is allowed exactly is seen as such by every view
abbrev pub SeesExactly : {A A' : Type 0} → (A → A') → Meaning A → Type 0
SeesExactly f first = ExactAlike f first first
