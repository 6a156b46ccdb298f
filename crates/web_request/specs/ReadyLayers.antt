-- Layers that are ready: their closures may be called.
use Rattle.std.specs.Prelude.{List}
use Rattle.std.specs.List.{All}

abbrev pub AllReady : {L : Type 0} → (L → Type 0) → List L → Type 0
AllReady ready layers = All ready layers
