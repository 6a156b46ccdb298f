-- The text of a media type.
use Rattle.std.specs.Prelude.{ℕ, ◌==◌, ◌||◌, List, [], ◌∷◌, ◌++◌, flat_map, codes, encode_utf8}
use Rattle.std.specs.Prelude.{if◌then◌else◌}
use Rattle.std.specs.Str.{chars}
use Rattle.web_texts.specs.Tokens.{is_token}
use Rattle.web_texts.specs.MediaTypes.{MediaType, essence_of}
use Rattle.web_texts.specs.Pairs.{Pair}

-- a backslash stands before a double quote and before a backslash
abbrev pub escaped : ℕ → List ℕ
escaped c = if c == 34 || c == 92 then 92 ∷ c ∷ [] else encode_utf8 c

abbrev pub quoted_text : List ℕ → List ℕ
quoted_text text = 34 ∷ [] ++ flat_map escaped (chars text) ++ 34 ∷ []

-- A value is quoted where it is no token.
abbrev pub parameter_text : Pair → List ℕ
parameter_text p = codes "; " ++ p.name ++ codes "="
    ++ (if is_token p.value then p.value else quoted_text p.value)

abbrev pub media_type_text : MediaType → List ℕ
media_type_text m = essence_of m ++ flat_map parameter_text m.params
