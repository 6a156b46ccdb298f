-- An argument list allows some result where each place does.
use Rattle.std.specs.Prelude.{◌≡◌, ℕ, ◌||◌, max, Bool, true, false, List, Result, Ok, Err, refl}
use Rattle.web_request.specs.declared.source.Mark.{Mark}
use Rattle.web_reply.specs.Replies.{Fault}
use Rattle.web_body.specs.PollSteps.{GivesSome}
use Rattle.web_extract.specs.CollectedResults.{collected2}
use Rattle.web_extract.specs.Extracts.{AllowsSome}
use Rattle.web_extract.specs.declared.lists.place.Place.{Place}
use Rattle.web_extract.specs.declared.lists.place.Place.TheVariants.{Waiting, Done, Taken}
use Rattle.web_extract.specs.Place.{place_finished, place_comes}
use Rattle.web_extract.specs.ArgumentLists.{Gives, ConvertsRefusal, Joins1, Joins2, Joins3}
use Rattle.web_extract.specs.ArgumentLists.{Joins4, nested3, nested4}
use Rattle.web_extract.specs.ListMeanings.{Meaning, Member, Means1, Means2, Means3, Means4}

-- each error converts into something
abbrev pub Converted : {E : Type 0} → (E → Fault → Type 0) → Type 0
Converted {E} converts = (e : E) → (f : Fault) × converts e f

-- the conversion of an error into itself
pub itself : (e : Fault) → (f : Fault) × (f ≡ e)
itself e = (e, refl)

-- a result that may come
abbrev Answer : {T : Type 0} → Gives T → Type 0
Answer {T} g = (n : ℕ) × (x : Result T Fault) × g n x

turn :
    {T E : Type 0} (c : E → Fault → Type 0) → Converted c
    → (g : ℕ → Result T E → Type 0) (n : ℕ) (x : Result T E) → g n x → Answer (ConvertsRefusal c g)
turn c t g n (Ok v) h = (n, Ok v, h)
turn c t g n (Err e) h = let x = t e in (n, Err x.0, (e, h, x.1))

pub turned_some :
    {T E : Type 0} (c : E → Fault → Type 0) → Converted c → (g : ℕ → Result T E → Type 0)
    → GivesSome g → GivesSome (ConvertsRefusal c g)
turned_some c t g some none = some (λ n x h. let j = turn c t g n x h in none j.0 j.1 j.2)

pub place_some :
    {F T E : Type 0} (c : E → Fault → Type 0) → Converted c
    → (finished : F → Bool) (gives : F → ℕ → Result T E → Type 0)
    → ((f : F) → finished f ≡ false → GivesSome (gives f))
    → (p : Place F T) → place_finished finished p ≡ false → GivesSome (place_comes c gives p)
place_some c t finished gives some (Waiting f) h = turned_some c t (gives f) (some f h)
place_some c t finished gives some (Done x) h = λ none. none 0 x (refl, refl)
place_some c t finished gives some Taken h = absurd cc

join1 : {A : Type 0} (g : Gives A) (n : ℕ) (x : Result A Fault) → g n x → Answer (Joins1 g)
join1 g n (Ok a) h = (n, Ok record { 0 = a }, h)
join1 g n (Err e) h = (n, Err e, h)

module _ {A B : Type 0} (g1 : Gives A) (g2 : Gives B) where
  join2 :
      (n1 : ℕ) (x1 : Result A Fault) (n2 : ℕ) (x2 : Result B Fault) → g1 n1 x1 → g2 n2 x2
      → Answer (Joins2 g1 g2)
  join2 n1 x1 n2 x2 h1 h2 = (
    max n1 n2,
    collected2 x1 x2,
    record {
      n1 = n1;
      x1 = x1;
      first_gives = h1;
      n2 = n2;
      x2 = x2;
      second_gives = h2;
      delay = refl;
      result = refl;
    },
  )

  pub joins2_some : GivesSome g1 → GivesSome g2 → GivesSome (Joins2 g1 g2)
  joins2_some some1 some2 none =
      some1 (λ n1 x1 h1. some2 (λ n2 x2 h2. let j = join2 n1 x1 n2 x2 h1 h2 in none j.0 j.1 j.2))

pub joins1_some : {A : Type 0} (g : Gives A) → GivesSome g → GivesSome (Joins1 g)
joins1_some g some none = some (λ n x h. let j = join1 g n x h in none j.0 j.1 j.2)

or_first : (a b : Bool) → (a || b) ≡ false → a ≡ false
or_first true b h = h
or_first false b h = refl

or_second : (a b : Bool) → (a || b) ≡ false → b ≡ false
or_second true b h = absurd cc
or_second false b h = h

-- two places of which neither is finished
pub places_some :
    {F T D G U E : Type 0}
    (c1 : D → Fault → Type 0) → Converted c1
    → (finished1 : F → Bool) (gives1 : F → ℕ → Result T D → Type 0)
    → ((f : F) → finished1 f ≡ false → GivesSome (gives1 f))
    → (c2 : E → Fault → Type 0) → Converted c2
    → (finished2 : G → Bool) (gives2 : G → ℕ → Result U E → Type 0)
    → ((f : G) → finished2 f ≡ false → GivesSome (gives2 f))
    → (p : Place F T) (q : Place G U) →
    (place_finished finished1 p || place_finished finished2 q) ≡ false
    → GivesSome (Joins2 (place_comes c1 gives1 p) (place_comes c2 gives2 q))
places_some c1 t1 finished1 gives1 some1 c2 t2 finished2 gives2 some2 p q h =
    joins2_some (place_comes c1 gives1 p) (place_comes c2 gives2 q)
    (place_some c1 t1 finished1 gives1 some1 p (or_first _ _ h))
    (place_some c2 t2 finished2 gives2 some2 q (or_second _ _ h))

-- a result of nested pairs as one of a list
listed3 :
    {A B C : Type 0} (g : Gives (A × (B × C))) (n : ℕ) (x : Result (A × (B × C)) Fault) → g n x
    → (y : Result (A × B × C) Fault) × g n (nested3 y)
listed3 g n (Ok v) h = (Ok (v.0, v.1.0, v.1.1), h)
listed3 g n (Err e) h = (Err e, h)

listed4 :
    {A B C D : Type 0} (g : Gives (A × (B × (C × D)))) (n : ℕ)
    (x : Result (A × (B × (C × D))) Fault) → g n x
    → (y : Result (A × B × C × D) Fault) × g n (nested4 y)
listed4 g n (Ok v) h = (Ok (v.0, v.1.0, v.1.1.0, v.1.1.1), h)
listed4 g n (Err e) h = (Err e, h)

module _ {A B C : Type 0} (g1 : Gives A) (g2 : Gives B) (g3 : Gives C) where
  join3 :
      (n1 : ℕ) (x1 : Result A Fault) (n2 : ℕ) (x2 : Result B Fault) (n3 : ℕ) (x3 : Result C Fault)
      → g1 n1 x1 → g2 n2 x2 → g3 n3 x3 → Answer (Joins3 g1 g2 g3)
  join3 n1 x1 n2 x2 n3 x3 h1 h2 h3 =
      let j = join2 g2 g3 n2 x2 n3 x3 h2 h3 in
      let k = join2 g1 (Joins2 g2 g3) n1 x1 j.0 j.1 h1 j.2 in
      let l = listed3 (Joins2 g1 (Joins2 g2 g3)) k.0 k.1 k.2 in
      (k.0, l.0, l.1)

module _ {A B C D : Type 0} (g1 : Gives A) (g2 : Gives B) (g3 : Gives C) (g4 : Gives D) where
  join4 :
      (n1 : ℕ) (x1 : Result A Fault) (n2 : ℕ) (x2 : Result B Fault) (n3 : ℕ) (x3 : Result C Fault)
      (n4 : ℕ) (x4 : Result D Fault)
      → g1 n1 x1 → g2 n2 x2 → g3 n3 x3 → g4 n4 x4 → Answer (Joins4 g1 g2 g3 g4)
  join4 n1 x1 n2 x2 n3 x3 n4 x4 h1 h2 h3 h4 =
      let i = join2 g3 g4 n3 x3 n4 x4 h3 h4 in
      let j = join2 g2 (Joins2 g3 g4) n2 x2 i.0 i.1 h2 i.2 in
      let k = join2 g1 (Joins2 g2 (Joins2 g3 g4)) n1 x1 j.0 j.1 h1 j.2 in
      let l = listed4 (Joins2 g1 (Joins2 g2 (Joins2 g3 g4))) k.0 k.1 k.2 in
      (k.0, l.0, l.1)

pub nested3_some :
    {A B C : Type 0} (g : Gives (A × (B × C))) → GivesSome g → GivesSome (λ n x. g n (nested3 x))
nested3_some g some none = some (λ n x h. let j = listed3 g n x h in none n j.0 j.1)

pub nested4_some :
    {A B C D : Type 0} (g : Gives (A × (B × (C × D)))) → GivesSome g
    → GivesSome (λ n x. g n (nested4 x))
nested4_some g some none = some (λ n x h. let j = listed4 g n x h in none n j.0 j.1)

-- the meaning allows something for any marks
abbrev pub MeansSome : {T E : Type 0} → (List Mark → List Mark → ℕ → Result T E → Type 0) → Type 0
MeansSome means = (m : List Mark) → AllowsSome (means m)

pub member_some :
    {T E : Type 0} (c : E → Fault → Type 0) → Converted c
    → (means : List Mark → List Mark → ℕ → Result T E → Type 0) → MeansSome means
    → MeansSome (Member c means)
member_some c t means some m none =
    some m (λ rest n x h. let j = turn c t (means m rest) n x h in none rest j.0 j.1 j.2)

pub means1_some : {A : Type 0} (first : Meaning A) → MeansSome first → MeansSome (Means1 first)
means1_some first some m none =
    some m (λ rest n x h. let j = join1 (first m rest) n x h in none rest j.0 j.1 j.2)

pub means2_some :
    {A B : Type 0} (first : Meaning A) (second : Meaning B) → MeansSome first → MeansSome second
    → MeansSome (Means2 first second)
means2_some first second some1 some2 m none =
    some1 m (λ left1 n1 x1 h1. some2 left1 (λ rest n2 x2 h2.
    let j =
    join2 (first m left1) (second left1 rest) n1 x1 n2 x2 h1 h2 in
    none rest j.0 j.1 (left1, j.2)))

pub means3_some : {A B C : Type 0} (first : Meaning A) (second : Meaning B) (third : Meaning C)
    → MeansSome first → MeansSome second → MeansSome third → MeansSome (Means3 first second third)
means3_some first second third some1 some2 some3 m none =
    some1 m (λ left1 n1 x1 h1. some2 left1 (λ left2 n2 x2 h2. some3 left2 (λ rest n3 x3 h3.
    let j =
    join3 (first m left1) (second left1 left2) (third left2 rest) n1 x1 n2 x2 n3 x3 h1 h2 h3 in
    none rest j.0 j.1 (left1, left2, j.2))))

pub means4_some :
    {A B C D : Type 0} (first : Meaning A) (second : Meaning B) (third : Meaning C)
    (fourth : Meaning D)
    → MeansSome first → MeansSome second → MeansSome third → MeansSome fourth
    → MeansSome (Means4 first second third fourth)
means4_some first second third fourth some1 some2 some3 some4 m none =
    some1 m
    (λ left1 n1 x1 h1. some2 left1
    (λ left2 n2 x2 h2. some3 left2 (λ left3 n3 x3 h3. some4 left3 (λ rest n4 x4 h4.
    let j =
    join4 (first m left1) (second left1 left2) (third left2 left3)
    (fourth left3 rest) n1 x1 n2 x2 n3 x3 n4 x4 h1 h2 h3 h4 in
    none rest j.0 j.1 (left1, left2, left3, j.2)))))
