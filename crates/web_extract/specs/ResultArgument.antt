-- Arguments whose refusal is passed to the handler.
use Rattle.std.specs.Prelude.{◌≡◌, ℕ, List, Result, Ok, Err, refl}
use Rattle.web_request.specs.declared.source.Mark.{Mark}
use Rattle.web_body.specs.PollSteps.{GivesSome}
use Rattle.web_extract.specs.Extracts.{AllowsSome}
use Rattle.web_extract.specs.declared.never.Never.{Never}

pub turns_into_itself : {E : Type 0} (e : E) → (f : E) × (f ≡ e)
turns_into_itself e = (e, refl)

-- the value, or what the refusal converts into
abbrev pub AsResult :
    {T E F : Type 0} → (E → F → Type 0) → Result T E → Result (Result T F) Never → Type 0
AsResult c (Ok v) x = x ≡ Ok (Ok v)
AsResult {T} {E} {F} c (Err e) x = (f : F) × c e f × (x ≡ Ok (Err f))

-- the same delay, and Err of what a refusal converts into
abbrev pub GivesResult :
    {T E F : Type 0} → (E → F → Type 0) → (ℕ → Result T E → Type 0) → ℕ → Result (Result T F) Never
    → Type 0
GivesResult {T} {E} {F} c gives n x = (y : Result T E) × gives n y × AsResult c y x

some_result :
    {T E F : Type 0} (c : E → F → Type 0) → ((e : E) → (f : F) × c e f) → (y : Result T E)
    → (x : Result (Result T F) Never) × AsResult c y x
some_result c t (Ok v) = (Ok (Ok v), refl)
some_result c t (Err e) = let f = t e in (Ok (Err f.0), (f.0, f.1, refl))

pub result_some :
    {T E F : Type 0} (c : E → F → Type 0) → ((e : E) → (f : F) × c e f)
    → (gives : ℕ → Result T E → Type 0) → GivesSome gives → GivesSome (GivesResult c gives)
result_some c t gives some none =
    some (λ n y h. let x = some_result c t y in none n x.0 (y, h, x.1))

pub means_result_some : {T E F : Type 0} (c : E → F → Type 0) → ((e : E) → (f : F) × c e f)
    → (means : List Mark → ℕ → Result T E → Type 0) → AllowsSome means
    → AllowsSome (λ rest n x. GivesResult c (means rest) n x)
means_result_some c t means some none =
    some (λ rest n y h. let x = some_result c t y in none rest n x.0 (y, h, x.1))
