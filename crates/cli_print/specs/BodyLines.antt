-- The lines of a body.
use Rattle.std.specs.Prelude.{ℕ, ◌==◌, ◌&&◌, Bool, List, [], ◌++◌, length, codes, flat_map, nat_le}
use Rattle.std.specs.Prelude.{Option, None, Some, if◌then◌else◌}
use Rattle.std.specs.List.{list_all}
use Rattle.hex.specs.Hex.{encode_lower}
use Rattle.web_request.specs.declared.source.Mark.{Mark}
use Rattle.web_request.specs.declared.source.Mark.TheVariants.{Piece, Stall, Fault}
use Rattle.web_reply.specs.ResponseBodies.{Plain}
use Rattle.web_request_log.specs.HeaderDescriptions.{newline}
use Rattle.cli_print.specs.TextLines.{line_text, numbered_text}

-- a byte that prints as itself
abbrev pub is_visible : ℕ → Bool
is_visible b = nat_le 32 b && nat_le b 126

-- bytes as a text where each is visible, else in hexadecimal
abbrev pub bytes_text : List ℕ → List ℕ
bytes_text b =
    if length b == 0 then codes "body" ++ newline
    else if list_all is_visible b then line_text (codes "body text ") b
    else line_text (codes "body hex ") (encode_lower b)

abbrev pub mark_line : Mark → List ℕ
mark_line (Piece b) = line_text (codes "mark piece ") (encode_lower b)
mark_line Stall = codes "mark stall" ++ newline
mark_line Fault = codes "mark fault" ++ newline

-- a line for each mark that is left, where they are stated
abbrev pub mark_lines : Option (List Mark) → List ℕ
mark_lines None = []
mark_lines (Some marks) = flat_map mark_line marks

abbrev pub body_text : Plain → List ℕ
body_text Plain.Empty = bytes_text []
body_text (Plain.Bytes b) = bytes_text b
body_text (Plain.Sized n marks) = numbered_text (codes "body sized ") n ++ mark_lines marks
body_text (Plain.Stream marks) = (codes "body stream" ++ newline) ++ mark_lines marks
