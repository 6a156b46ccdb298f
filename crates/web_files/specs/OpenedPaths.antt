-- The paths that are opened.
use Rattle.std.specs.Prelude.{ℕ, List, [], ◌∷◌}
use Rattle.web_paths.specs.PathsBelow.{in_folder}

abbrev pub or_slash : List ℕ → List ℕ
or_slash [] = 47 ∷ []
or_slash (b ∷ rest) = b ∷ rest

-- The folder, and each name behind a slash. The folder of all is `/`.
abbrev pub opened_path : List ℕ → List (List ℕ) → List ℕ
opened_path root names = or_slash (in_folder root names)
