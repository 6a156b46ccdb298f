-- The address of a node without its port (RFC 7239, section 6).
use Rattle.std.specs.Prelude.{ℕ, ◌-◌, ◌==◌, ◌&&◌, List, [], ◌∷◌, drop, take, length}
use Rattle.std.specs.Prelude.{if◌then◌else◌}
use Rattle.std.specs.List.{prefix_len, suffix_len}
use Rattle.web_texts.specs.Bytes.{starts_with_byte}
use Rattle.web_forwarded.specs.FirstItems.{before_byte}

-- the text before the first `]:`, or all of it where there is none
abbrev pub before_port : List ℕ → List ℕ
before_port [] = []
before_port (b ∷ rest) =
    if b == 93 && starts_with_byte 58 rest then [] else b ∷ before_port rest

abbrev pub without_opening : List ℕ → List ℕ
without_opening text = drop (prefix_len (λ b. b == 91) text) text

abbrev pub without_closing : List ℕ → List ℕ
without_closing text = take (length text - suffix_len (λ b. b == 93) text) text

-- An address in brackets ends before the first `]:` and loses all brackets at its ends; any other
-- ends before its first colon.
abbrev pub bare_address : List ℕ → List ℕ
bare_address text =
    if starts_with_byte 91 text then without_closing (without_opening (before_port text))
    else before_byte 58 text
