-- Quoted text, after its opening quote. A backslash keeps the next byte.
use Rattle.std.specs.Prelude.{ℕ, ◌==◌, Bool, false, not, ◌&&◌, List, [], ◌∷◌, if◌then◌else◌}

-- the one quote that no backslash keeps is the last byte
abbrev pub is_closed : List ℕ → Bool
is_closed [] = false
is_closed (b ∷ []) = b == 34
is_closed (b ∷ c ∷ rest) =
    if b == 92 then is_closed rest else not (b == 34) && is_closed (c ∷ rest)

-- the text without the backslashes that keep a byte
abbrev pub unescaped : List ℕ → List ℕ
unescaped [] = []
unescaped (b ∷ []) = if b == 92 then [] else b ∷ []
unescaped (b ∷ c ∷ rest) = if b == 92 then c ∷ unescaped rest else b ∷ unescaped (c ∷ rest)
