-- Bytes that cut texts or enclose them.
use Rattle.std.specs.Prelude.{ℕ, ◌-◌, ◌==◌, Bool, false, List, [], ◌∷◌, drop, take, length}
use Rattle.std.specs.List.{prefix_len, suffix_len}

abbrev pub is_newline : ℕ → Bool
is_newline b = b == 10

abbrev pub is_quote : ℕ → Bool
is_quote b = b == 34

abbrev pub is_comma : ℕ → Bool
is_comma b = b == 44

abbrev pub is_dot : ℕ → Bool
is_dot b = b == 46

abbrev pub is_semicolon : ℕ → Bool
is_semicolon b = b == 59

abbrev pub is_equals : ℕ → Bool
is_equals b = b == 61

abbrev pub starts_with_byte : ℕ → List ℕ → Bool
starts_with_byte byte [] = false
starts_with_byte byte (b ∷ rest) = b == byte

-- without the double quotes in front
abbrev pub unquoted_front : List ℕ → List ℕ
unquoted_front text = drop (prefix_len is_quote text) text

-- without the double quotes at the end
abbrev pub unquoted_end : List ℕ → List ℕ
unquoted_end text = take (length text - suffix_len is_quote text) text

-- without all double quotes at both ends
abbrev pub unquoted : List ℕ → List ℕ
unquoted text = unquoted_end (unquoted_front text)
