-- The semicolons that end a parameter of Content-Disposition, and the quote that ends quoted text.
use Rattle.std.specs.Prelude.{ℕ, ◌==◌, ◌||◌, Bool, true, false, if◌then◌else◌}
use Rattle.web_texts.specs.Blanks.{is_blank}
use Rattle.web_texts.specs.Pieces.{Rule}
use Rattle.web_entities.specs.declared.disposition_places.ParameterState.{ParameterState}
use Rattle.web_entities.specs.declared.disposition_places.ParameterState.TheVariants as place
use Rattle.web_entities.specs.declared.disposition_places.Inside.{Inside}
use Rattle.web_entities.specs.declared.disposition_places.Inside.TheVariants.{Plain, Escaped}

-- After the equals sign of a name that ends in an asterisk no quote is looked for.
abbrev pub next_place : ParameterState → ℕ → ParameterState
next_place place.Name b =
    if b == 42 then place.Starred else if b == 61 then place.Lead else place.Name
next_place place.Starred b =
    if b == 42 || is_blank b then place.Starred
    else if b == 61 then place.Value
    else place.Name
next_place place.Lead b =
    if b == 34 then place.Quoted else if is_blank b then place.Lead else place.Value
next_place place.Value b = place.Value
next_place place.Quoted b =
    if b == 34 then place.Value else if b == 92 then place.Escaped else place.Quoted
next_place place.Escaped b = place.Quoted

abbrev pub ends_parameter : ParameterState → Bool
ends_parameter place.Name = false
ends_parameter place.Starred = false
ends_parameter place.Lead = true
ends_parameter place.Value = true
ends_parameter place.Quoted = false
ends_parameter place.Escaped = false

-- A semicolon ends a parameter, but neither in its name nor between quotes.
abbrev pub in_parameters : Rule ParameterState
in_parameters =
    record { mark = 59; cuts = ends_parameter; next = next_place; start = place.Name }

abbrev pub next_inside : Inside → ℕ → Inside
next_inside Plain b = if b == 92 then Escaped else Plain
next_inside Escaped b = Plain

abbrev pub ends_quoted : Inside → Bool
ends_quoted Plain = true
ends_quoted Escaped = false

-- the quote that no backslash keeps
abbrev pub in_quotes : Rule Inside
in_quotes = record { mark = 34; cuts = ends_quoted; next = next_inside; start = Plain }
