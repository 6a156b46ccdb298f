-- What a sink holds after more exchanges were added.
use Rattle.std.specs.Prelude.{List, [], ◌∷◌, ◌++◌, Option, None, Some}
use Rattle.cli_script.specs.ScriptedView.{ScriptedExchangeView}

-- the sink holds what it held before, and then these exchanges
abbrev pub Adds : {S : Type 0} → (S → List ScriptedExchangeView → Type 0) → S → S
    → List ScriptedExchangeView → Type 0
Adds holds old new more =
    (held : List ScriptedExchangeView) → holds old held → holds new (held ++ more)

-- the exchange, where there is one
abbrev pub open_exchanges : Option ScriptedExchangeView → List ScriptedExchangeView
open_exchanges None = []
open_exchanges (Some exchange) = exchange ∷ []
