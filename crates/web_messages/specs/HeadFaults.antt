-- Why no head is taken, by the lines of the bytes.
use Rattle.std.specs.Prelude.{ℕ, ◌+◌, ◌-◌, ◌==◌, ◌&&◌, ◌||◌, Bool, true, false, List, []}
use Rattle.std.specs.Prelude.{◌∷◌, length, take, drop, get_or, codes, nat_le, nat_lt, Option, None}
use Rattle.std.specs.Prelude.{Some, unwrap_or, if◌then◌else◌}
use Rattle.std.specs.Char.{is_ascii_digit}
use Rattle.std.specs.Option.{option_map}
use Rattle.std.specs.Str.{bytes_eq}
use Rattle.web_messages.specs.declared.limits.HeadFault.{HeadFault}
use Rattle.web_messages.specs.declared.limits.HeadFault.TheVariants as fault
use Rattle.web_messages.specs.declared.limits.Limits.{Limits}
use Rattle.web_messages.specs.EmptyLines.{is_blank}

-- this byte before the first of the lines
abbrev pub with_first : ℕ → List (List ℕ) → List (List ℕ)
with_first b [] = []
with_first b (line ∷ lines) = (b ∷ line) ∷ lines

-- the lines that end in LF, without it
abbrev pub lines_of : List ℕ → List (List ℕ)
lines_of [] = []
lines_of (b ∷ text) = if b == 10 then [] ∷ lines_of text else with_first b (lines_of text)

-- nothing, or CR alone
abbrev pub is_empty_line : List ℕ → Bool
is_empty_line [] = true
is_empty_line (b ∷ []) = b == 13
is_empty_line (b ∷ c ∷ line) = false

-- the lines from the first on that is not empty
abbrev pub from_start : List (List ℕ) → List (List ℕ)
from_start [] = []
from_start (line ∷ lines) = if is_empty_line line then from_start lines else line ∷ lines

-- how many lines stand before the first empty one, if there is one
abbrev pub fields_of : List (List ℕ) → Option ℕ
fields_of [] = None
fields_of (line ∷ lines) =
    if is_empty_line line then Some 0 else option_map (λ n. n + 1) (fields_of lines)

abbrev pub without_cr : List ℕ → List ℕ
without_cr line =
    if get_or line (length line - 1) 0 == 13 then take (length line - 1) line else line

-- the last nine bytes of a line: a space and the version, where it is a request line
abbrev pub version_part : List ℕ → List ℕ
version_part line = drop (length (without_cr line) - 9) (without_cr line)

abbrev pub is_first_version : List ℕ → Bool
is_first_version part = bytes_eq part (codes " HTTP/1.0") || bytes_eq part (codes " HTTP/1.1")

-- any version (RFC 9112, section 2.3)
abbrev pub is_version : List ℕ → Bool
is_version part =
    (length part == 9) && bytes_eq (take 6 part) (codes " HTTP/")
    && is_ascii_digit (get_or part 6 0) && (get_or part 7 0 == 46)
    && is_ascii_digit (get_or part 8 0)

-- what is wrong by the version of a request line, or this
abbrev pub line_fault : List ℕ → HeadFault → HeadFault
line_fault line other =
    if is_first_version (version_part line) then other
    else (if is_version (version_part line) then fault.Version else fault.Malformed)

-- By a request line and the number of fields before an empty line, in bytes that are as many as a
-- head may have, or not. Without an empty line more bytes decide.
abbrev pub fault_behind : Limits → Bool → List ℕ → Option ℕ → Option HeadFault
fault_behind limits full line (Some n) =
    Some (line_fault line (if nat_lt limits.headers n then fault.Fields else fault.Malformed))
fault_behind limits full line None =
    if full then Some (line_fault line fault.Fields) else None

-- by the lines from the request line on
abbrev pub lines_fault : Limits → Bool → List (List ℕ) → Option HeadFault
lines_fault limits full [] = if full then Some fault.Target else None
lines_fault limits full (line ∷ lines) = fault_behind limits full line (fields_of lines)

abbrev pub text_fault : Limits → Bool → List ℕ → Option HeadFault
text_fault limits full text =
    if is_blank text then (if full then Some fault.Malformed else None)
    else lines_fault limits full (from_start (lines_of text))

-- why no head is taken of these bytes, once they decide it
abbrev pub find_fault : Limits → List ℕ → Option HeadFault
find_fault limits bytes =
    if limits.checks.reasons
    then text_fault limits (nat_le limits.head (length bytes)) (take limits.head bytes)
    else Some fault.Malformed

-- the same where they are all that come
abbrev pub head_fault : Limits → List ℕ → HeadFault
head_fault limits bytes = unwrap_or (find_fault limits bytes) fault.Malformed
