use Rattle.std.proofs.Common.{◌+◌, List, ℕ, drop, subst}
use Rattle.std.specs.List.{flat_map}
use Rattle.web_multipart_parts.specs.Parts.{Form, delimiter_of}
use Rattle.web_multipart_parts.proofs.PieceLemmas.{Left, left_ends, left_more, pieces_step}
use Rattle.web_multipart_parts.proofs.piece_parts.parts_of_pieces.Goals as goal

pub returns-in-Some : goal.returns-in-Some
returns-in-Some c =
    let form : Form = record { delimiter = delimiter_of c.args.boundary.now; limit = c.args.limit } in
    let all : List ℕ = flat_map (λ piece. piece.items) c.args.pieces.now in
    let step = pieces_step (λ piece. piece.items) c.args.pieces.now c.loop-piece.piece-index c.piece-item.result c.loop-piece-test.true c.piece-item.is in
    left_ends form all c.piece-item.result.items (flat_map (λ piece. piece.items) (drop (c.loop-piece.piece-index + 1) c.args.pieces.now)) c.loop-piece.reader c.loop-piece.parts.items
    (subst (λ (xs : List ℕ). Left form all xs c.loop-piece.reader c.loop-piece.parts.items) step c.loop-piece.invariant)
    c.in-Some.end c.drain.new.parts.items
    (rw (c.in_ok-feed.ensures.ok, c.as_slice.ensures.value, c.in-Some.is) at c.in_ok-end.ensures)

pub loop-piece-preserved : goal.loop-piece-preserved
loop-piece-preserved c =
    let form : Form = record { delimiter = delimiter_of c.args.boundary.now; limit = c.args.limit } in
    let all : List ℕ = flat_map (λ piece. piece.items) c.args.pieces.now in
    let step = pieces_step (λ piece. piece.items) c.args.pieces.now c.loop-piece.piece-index c.piece-item.result c.loop-piece-test.true c.piece-item.is in
    let drained = rw (c.in_ok-feed.ensures.ok, c.as_slice.ensures.value, c.in-None.is) at c.in_ok-end.ensures in
    left_more form all c.piece-item.result.items (flat_map (λ piece. piece.items) (drop (c.loop-piece.piece-index + 1) c.args.pieces.now)) c.loop-piece.reader c.loop-piece.parts.items
    (subst (λ (xs : List ℕ). Left form all xs c.loop-piece.reader c.loop-piece.parts.items) step c.loop-piece.invariant)
    c.drain.new.reader c.drain.new.parts.items drained.0 drained.1
