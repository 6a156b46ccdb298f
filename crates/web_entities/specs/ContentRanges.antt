-- Content-Range (RFC 9110, section 14.4).
use Rattle.std.specs.Prelude.{ℕ, List, [], ◌∷◌, ◌++◌, codes, decimal}
use Rattle.std.specs.Prelude.{Option, None, Some, if◌then◌else◌, ⊤}
use Rattle.std.specs.Option.{option_map, option_and_then}
use Rattle.std.specs.Str.{bytes_eq}
use Rattle.web_texts.specs.Cut.{split_once}
use Rattle.web_texts.specs.Digits.{number_of}
use Rattle.web_entities.specs.ByteRanges.{pair_of}
use Rattle.web_entities.specs.declared.content_range.ContentRangeSpec.{ContentRangeSpec}
use Rattle.web_entities.specs.declared.content_range.ContentRangeSpec.TheVariants as kind

-- `*`, or what is read
abbrev pub star_or : {T : Type 0} → (List ℕ → Option T) → List ℕ → Option (Option T)
star_or read text = if bytes_eq text (42 ∷ []) then Some None else option_map Some (read text)

-- two numbers split at the first dash, the second not less
abbrev pub positions_of : List ℕ → Option (ℕ × ℕ)
positions_of text = option_and_then (λ parts. pair_of parts.0 parts.1) (split_once 45 text)

-- a range and a length, split at the first slash; `*/*` too, which the RFC does not have
abbrev pub bytes_range_of : List ℕ → Option ContentRangeSpec
bytes_range_of text = option_and_then (λ parts. option_and_then (λ range.
    option_map (λ len. kind.Bytes range len) (star_or number_of parts.1))
    (star_or positions_of parts.0)) (split_once 47 text)

-- a unit, which may be empty, and the rest, split at the first space
abbrev pub content_range_of : List ℕ → Option ContentRangeSpec
content_range_of text = option_and_then (λ parts.
    if bytes_eq parts.0 (codes "bytes") then bytes_range_of parts.1
    else Some (kind.Unregistered parts.0 parts.1)) (split_once 32 text)

-- a range of bytes, in which no text is kept
abbrev pub TakesNoMemory : ContentRangeSpec → Type 0
TakesNoMemory (kind.Bytes range len) = ⊤
TakesNoMemory (kind.Unregistered unit resp) = ⊥

abbrev pub positions_text : Option (ℕ × ℕ) → List ℕ
positions_text None = codes "*"
positions_text (Some p) = decimal p.0 ++ 45 ∷ decimal p.1

abbrev pub length_text : Option ℕ → List ℕ
length_text None = codes "*"
length_text (Some n) = decimal n

abbrev pub content_range_text : ContentRangeSpec → List ℕ
content_range_text (kind.Bytes range len) =
    codes "bytes " ++ (positions_text range ++ 47 ∷ length_text len)
content_range_text (kind.Unregistered unit resp) = unit ++ 32 ∷ resp
