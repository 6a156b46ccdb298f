-- The parts of a body of `multipart/form-data` (RFC 7578, section 4; RFC 2046, section 5.1.1), and
-- after how many bytes each is known. There is no preamble, and no padding after a boundary; what
-- follows the close-delimiter is not looked at.
use Rattle.std.specs.Prelude.{ℕ, zero, suc, ◌+◌, ◌==◌, List, [], ◌∷◌, length, map, take}
use Rattle.std.specs.Prelude.{drop, max, nat_le, Option, None, Some, if◌then◌else◌}
use Rattle.web_multipart_parts.specs.Places.{place_of}
use Rattle.web_multipart_parts.specs.PartHeads.{crlf, part_head_of}
use Rattle.web_multipart_parts.specs.declared.part_head.PartHead.{PartHead}
use Rattle.web_multipart_parts.specs.declared.part.Part.{Part}
use Rattle.web_multipart_parts.specs.declared.part.PartError.{PartError}
use Rattle.web_multipart_parts.specs.declared.part.PartError.TheVariants as part_error

-- The delimiter, and the most bytes of a part's content.
pub record Form : Type 0 where
  pub delimiter : List ℕ
  pub limit : ℕ

-- CRLF, two hyphens and the boundary
abbrev pub delimiter_of : List ℕ → List ℕ
delimiter_of boundary = 13 ∷ 10 ∷ 45 ∷ 45 ∷ boundary

-- the delimiter without its CRLF, with which a body begins
abbrev pub dash_boundary : Form → List ℕ
dash_boundary form = drop 2 form.delimiter

-- a part, and the number of bytes after which it is known
pub record Found : Type 0 where
  pub known : ℕ
  pub part : Part

-- How the parts end: with the close-delimiter or an error, each known after so many bytes, or cut
-- off before either.
pub data Ending : Type 0 where
  Closes : ℕ → Ending
  Fails : ℕ → PartError → Ending
  CutOff : Ending

pub record Parts : Type 0 where
  pub found : List Found
  pub ending : Ending

-- so many more bytes stand before the bytes that these numbers count

abbrev pub later_found : ℕ → Found → Found
later_found n f = record { known = n + f.known; part = f.part }

abbrev pub later_ending : ℕ → Ending → Ending
later_ending n (Closes k) = Closes (n + k)
later_ending n (Fails k error) = Fails (n + k) error
later_ending n CutOff = CutOff

abbrev pub behind : ℕ → Parts → Parts
behind n p = record { found = map (later_found n) p.found; ending = later_ending n p.ending }

abbrev pub no_part : Ending → Parts
no_part ending = record { found = []; ending = ending }

-- a part is known after so many bytes, and then come these
abbrev pub part_then : ℕ → Part → Parts → Parts
part_then n part rest = record {
  found = record { known = n; part = part } ∷ map (later_found n) rest.found;
  ending = later_ending n rest.ending;
}

abbrev pub part_of : PartHead → List ℕ → Part
part_of head body =
    record { name = head.name; filename = head.filename; media_type = head.media_type; body = body }

-- The content of a part runs to the first delimiter, and has at most as many bytes as the limit
-- says. Below, `next` says what stands after a delimiter.
abbrev pub content_to : Form → (List ℕ → Parts) → PartHead → List ℕ → Option ℕ → Parts
content_to form next head bytes None =
    if nat_le (form.limit + length form.delimiter) (length bytes)
    then no_part (Fails (form.limit + length form.delimiter) part_error.PartOverflow)
    else no_part CutOff
content_to form next head bytes (Some n) =
    if nat_le n form.limit
    then part_then (n + length form.delimiter) (part_of head (take n bytes))
    (next (drop (n + length form.delimiter) bytes))
    else no_part (Fails (form.limit + length form.delimiter) part_error.PartOverflow)

abbrev pub at_content : Form → (List ℕ → Parts) → PartHead → List ℕ → Parts
at_content form next head bytes =
    content_to form next head bytes (place_of form.delimiter bytes)

-- an empty line, after the end of another
abbrev pub empty_line : List ℕ
empty_line = 13 ∷ 10 ∷ 13 ∷ 10 ∷ []

abbrev pub behind_head : Form → (List ℕ → Parts) → ℕ → List ℕ → Option PartHead → Parts
behind_head form next n bytes None = no_part (Fails n part_error.Head)
behind_head form next n bytes (Some head) =
    behind n (at_content form next head (drop n bytes))

-- A CRLF, and then the head of a part: lines up to the first empty one, of at most 4,096 bytes with
-- it.
abbrev pub head_to : Form → (List ℕ → Parts) → List ℕ → Option ℕ → Parts
head_to form next bytes None =
    if nat_le 4098 (length bytes) then no_part (Fails 4098 part_error.Grammar) else no_part CutOff
head_to form next bytes (Some n) =
    if nat_le n 4094
    then behind_head form next (n + 4) bytes (part_head_of (drop 2 (take (n + 4) bytes)))
    else no_part (Fails 4098 part_error.Grammar)

abbrev pub at_head : Form → (List ℕ → Parts) → List ℕ → Parts
at_head form next bytes = head_to form next bytes (place_of empty_line bytes)

-- how many bytes of the text the bytes begin with
abbrev pub common_len : List ℕ → List ℕ → ℕ
common_len [] bytes = 0
common_len (t ∷ text) [] = 0
common_len (t ∷ text) (b ∷ bytes) = if t == b then suc (common_len text bytes) else 0

abbrev pub hyphens : List ℕ
hyphens = 45 ∷ 45 ∷ []

-- so many bytes are as they should be: all there are, or the next one is wrong
abbrev pub wrong_behind : ℕ → List ℕ → Parts
wrong_behind n bytes =
    if n == length bytes then no_part CutOff else no_part (Fails (n + 1) part_error.Grammar)

-- After a boundary stand two hyphens, which make it the close-delimiter, or a CRLF, which begins a
-- part.
abbrev pub boundary_end : (List ℕ → Parts) → List ℕ → Parts
boundary_end begin bytes =
    if common_len hyphens bytes == 2 then no_part (Closes 2)
    else if common_len crlf bytes == 2 then begin bytes
    else wrong_behind (max (common_len hyphens bytes) (common_len crlf bytes)) bytes

-- after a boundary, where so many parts may still begin
unfoldable pub at_boundary : Form → ℕ → List ℕ → Parts
at_boundary form zero bytes =
    boundary_end (λ more. no_part (Fails 2 part_error.TooMany)) bytes
at_boundary form (suc n) bytes = boundary_end (at_head form (at_boundary form n)) bytes

abbrev pub at_opening : Form → ℕ → List ℕ → Parts
at_opening form left bytes =
    if common_len (dash_boundary form) bytes == length (dash_boundary form)
    then behind (length (dash_boundary form))
    (at_boundary form left (drop (length (dash_boundary form)) bytes))
    else wrong_behind (common_len (dash_boundary form) bytes) bytes

-- the parts of a whole body: at most 64, after a first dash-boundary
abbrev pub parts_of : Form → List ℕ → Parts
parts_of form bytes = at_opening form 64 bytes
