use Rattle.std.proofs.Common.{drop}
use Rattle.std.specs.List.{flat_map}
use Rattle.web_multipart_parts.specs.Parts.{delimiter_of}
use Rattle.web_multipart_parts.proofs.PieceLemmas.{Left}
use Rattle.web_multipart_parts.proofs.piece_parts.parts_of_pieces.Given as goal

abbrev pub invariant-loop-piece : goal.invariant-loop-piece
invariant-loop-piece l =
    Left (record { delimiter = delimiter_of l.fn.boundary; limit = l.fn.limit })
    (flat_map (λ piece. piece.items) l.pieces) (flat_map (λ piece. piece.items) (drop l.piece-index l.pieces)) l.reader l.parts.items
