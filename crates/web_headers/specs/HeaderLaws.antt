-- What follows for headers whose values say exactly one thing.
use Rattle.std.specs.Prelude.{◌≡◌, ℕ, List, Option}
use Rattle.httpdate.specs.declared.date.HttpDate.{HttpDate}
use Rattle.httpdate.specs.Date.{IsDateText}

-- this is what is said, and nothing else
abbrev pub SaysOnly : {T : Type 0} → (Option T → Type 0) → Option T → Type 0
SaysOnly {T} says said = says said × ((other : Option T) → says other → other ≡ said)

-- All values of a name say exactly one thing, a header or none.
abbrev pub SaysOneThing : {T : Type 0} → (List (List ℕ) → Option T → Type 0) → Type 0
SaysOneThing {T} says = (values : List (List ℕ)) → (said : Option T) × SaysOnly (says values) said

-- a text shows one date at most
abbrev pub ShowsOneDate : Type 0
ShowsOneDate = (text : List ℕ) (d e : HttpDate) → IsDateText text d → IsDateText text e → d ≡ e
