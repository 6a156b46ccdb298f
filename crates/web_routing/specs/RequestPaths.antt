-- Paths below a path.
use Rattle.std.specs.Prelude.{ℕ, List, [], ◌∷◌, Bool, true, ◌&&◌, drop, length, nat_eq, take}
use Rattle.std.specs.Str.{bytes_eq}

-- nothing, or what begins with a slash
abbrev pub begins_below : List ℕ → Bool
begins_below [] = true
begins_below (b ∷ rest) = nat_eq b 47

-- the path begins with the one above it, and nothing or a slash follows
abbrev pub is_below : List ℕ → List ℕ → Bool
is_below path above =
    bytes_eq (take (length above) path) above && begins_below (drop (length above) path)
