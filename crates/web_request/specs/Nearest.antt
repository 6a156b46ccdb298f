-- Which layer of a request decides.
use Rattle.std.specs.Prelude.{List, [], ◌∷◌, Option, None}
use Rattle.std.specs.Option.{option_or}

-- what the last layer that holds anything holds
abbrev pub nearest : {L T : Type 0} → (L → Option T) → List L → Option T
nearest held [] = None
nearest held (layer ∷ layers) = option_or (nearest held layers) (held layer)

-- the nearest own configuration, and only where no layer has one the nearest shared one
abbrev pub nearest_config : {L C : Type 0} → (L → Option C) → (L → Option C) → List L → Option C
nearest_config own shared layers = option_or (nearest own layers) (nearest shared layers)
