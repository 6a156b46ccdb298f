-- Futures that give only what the meaning of an argument allows.
use Rattle.std.specs.Prelude.{◌≡◌, ℕ, List, [], Option, None, Some, ⊤}
use Rattle.web_request.specs.declared.source.Mark.{Mark}

-- it gives only what is allowed for the marks of the payload, with those that are left in it
abbrev pub Extracts :
    {T : Type 0} → (List Mark → List Mark → ℕ → T → Type 0) → (ℕ → T → Type 0) → Option (List Mark)
    → Option (List Mark) → Type 0
Extracts means gives None new = ⊤
Extracts {T} means gives (Some m) new =
    (rest : List Mark) × (new ≡ Some rest) × ((n : ℕ) (x : T) → gives n x → means m rest n x)

-- the marks of the payload are left, and it gives only what is allowed for them, whatever they are
abbrev pub ExtractsUnread :
    {T : Type 0} → (List Mark → List Mark → ℕ → T → Type 0) → (ℕ → T → Type 0) → Type 0
ExtractsUnread means gives = (m : List Mark) → Extracts means gives (Some m) (Some m)

-- two futures: the second is made with the marks that the first leaves
abbrev pub ExtractsBoth :
    {T U : Type 0} → (List Mark → List Mark → ℕ → T → Type 0)
    → (List Mark → List Mark → ℕ → U → Type 0)
    → (ℕ → T → Type 0) → (ℕ → U → Type 0) → Option (List Mark) → Option (List Mark) → Type 0
ExtractsBoth means1 means2 gives1 gives2 old new =
    (mid : Option (List Mark)) × Extracts means1 gives1 old mid × Extracts means2 gives2 mid new

-- it gives only what is allowed for no marks
abbrev pub ExtractsEmpty :
    {T : Type 0} → (List Mark → List Mark → ℕ → T → Type 0) → (ℕ → T → Type 0) → Type 0
ExtractsEmpty {T} means gives =
    (rest : List Mark) × ((n : ℕ) (x : T) → gives n x → means [] rest n x)

-- it cannot be that nothing is allowed
abbrev pub AllowsSome : {T : Type 0} → (List Mark → ℕ → T → Type 0) → Type 0
AllowsSome {T} means = ((rest : List Mark) (n : ℕ) (x : T) → means rest n x → ⊥) → ⊥

-- the same of values alone
abbrev pub Possible : {A : Type 0} → (A → Type 0) → Type 0
Possible {A} allowed = ((a : A) → allowed a → ⊥) → ⊥

-- this is allowed, and nothing else
abbrev pub AllowsOnly : {A : Type 0} → (A → Type 0) → A → Type 0
AllowsOnly {A} allowed a = allowed a × ((b : A) → allowed b → b ≡ a)
