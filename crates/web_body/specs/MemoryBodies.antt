-- Bodies in memory.
use Rattle.std.specs.Prelude.{Bool, false, not, List, Some, length, ◌==◌}
use Rattle.std.specs.List.{filter}
use Rattle.web_request.specs.declared.source.Mark.{Mark}
use Rattle.web_request.specs.declared.source.Mark.TheVariants.{Piece, Stall, Fault}
use Rattle.web_request.specs.Feed.{Feed}

abbrev pub is_empty_piece : Mark → Bool
is_empty_piece (Piece b) = length b == 0
is_empty_piece Stall = false
is_empty_piece Fault = false

-- the marks without the empty pieces
abbrev pub without_empty : List Mark → List Mark
without_empty m = filter (λ x. not (is_empty_piece x)) m

-- a body of these marks, of which nothing was given yet
abbrev pub marks_feed : List Mark → Feed
marks_feed m = record {
  marks = Some (without_empty m);
  faults = 0;
  stalls = 0;
  given = 0;
  answers = length (without_empty m);
  lacked = false;
}
