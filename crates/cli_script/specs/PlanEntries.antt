-- The entries of a `plan` line.
use Rattle.std.specs.Prelude.{◌≡◌, ℕ, ◌==◌, Bool, true, false, List, [], ◌∷◌, ◌++◌, length, map}
use Rattle.std.specs.Prelude.{Option, None, Some, if◌then◌else◌}
use Rattle.std.specs.Option.{option_map, option_and_then}
use Rattle.std.specs.List.{slice_split}
use Rattle.web_texts.specs.Digits.{digits_up_to}
use Rattle.cli_script.specs.Line.{is_space}

-- all of the values, if each is there
abbrev pub all_values : {X : Type 0} → List (Option X) → Option (List X)
all_values [] = Some []
all_values (x ∷ more) =
    option_and_then (λ first. option_map (λ rest. first ∷ rest) (all_values more)) x

-- the greatest entry that there can be, 2^32 - 1
abbrev pub max_entry : ℕ
max_entry = 4294967295

-- nothing, or numbers with one space between
abbrev pub entries_of : List ℕ → Option (List ℕ)
entries_of text =
    if length text == 0 then Some []
    else all_values (map (digits_up_to max_entry) (slice_split is_space text))

-- The argument is valid and its entries were added, or it is invalid.
abbrev pub IsAdded : List ℕ → List ℕ → Option (List ℕ) → Bool → Type 0
IsAdded old new (Some entries) valid = (valid ≡ true) × (new ≡ old ++ entries)
IsAdded old new None valid = valid ≡ false
