use Rattle.web_body.specs.Payload.{payload_feed}
use Rattle.web_http1.proofs.DueBodyLemmas as due
use Rattle.web_http1.proofs.due_body.write_turn.Goals as goal

pub returns-in-Piece : goal.returns-in-Piece
returns-in-Piece g c =
    let old = payload_feed g.S.Source.feed c.args.payload.now in
    let new = payload_feed g.S.Source.feed c.poll_next.new.self in
    let h = rw c.as_slice.ensures at c.write_piece.ensures in
    record {
      one = due.piece_one c.args.framing old new c.in-Piece.piece c.args.out.now.items c.write_piece.new.out.items c.write_piece.result.written c.write_piece.result.stage c.in-Piece.ensures.next h;
      on = λ text come. due.piece_on c.args.framing old new text come c.in-Piece.piece c.args.out.now.items c.write_piece.new.out.items c.write_piece.result.written c.write_piece.result.stage c.in-Piece.ensures.next h;
      fewer = due.piece_fewer c.args.framing old new c.in-Piece.piece c.args.out.now.items c.write_piece.new.out.items c.write_piece.result.written c.write_piece.result.stage c.in-Piece.ensures.next h;
      source = due.piece_source c.args.framing old new c.in-Piece.piece c.args.out.now.items c.write_piece.new.out.items c.write_piece.result.written c.write_piece.result.stage c.in-Piece.ensures.next h;
    }
