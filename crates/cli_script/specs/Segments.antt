-- The first segment of a path, by which the program chooses what it does.
use Rattle.std.specs.Prelude.{ℕ, List}
use Rattle.std.specs.List.{before_first, after_first}
use Rattle.web_texts.specs.MediaTypes.{is_slash}

-- the text between the first slash and the next, or the end; a path without a slash has none
abbrev pub first_segment : List ℕ → List ℕ
first_segment path = before_first is_slash (after_first is_slash path)
