use Rattle.web_multipart_stream.proofs.TurnLemmas.{loses_piece, reads_start, takes_close, takes_end, takes_fail, takes_fault, takes_no_memory, takes_part, takes_piece, takes_stall, takes_untold}
use Rattle.web_multipart_stream.proofs.stream.next_part.Goals as goal

pub turns-init : goal.turns-init
turns-init g c = reads_start g.S.Source.feed c.args.payload.now c.args.reader.now c.args.last.now c.requires.small

pub returns-in-Part : goal.returns-in-Part
returns-in-Part g c =
    takes_part g.S.Source.feed c.args.payload.now c.args.reader.now c.args.last.now c.turns.payload c.turns.reader c.turns.last c.turns.invariant c.in-Part.part c.next.new.self c.in-Part.ensures.gives

pub returns-in-Closed : goal.returns-in-Closed
returns-in-Closed g c =
    takes_close g.S.Source.feed c.args.payload.now c.args.reader.now c.args.last.now c.turns.payload c.turns.reader c.turns.last c.turns.invariant c.next.new.self
    c.in-Closed.ensures.held c.in-Closed.ensures.form c.in-Closed.ensures.fewer c.in-Closed.ensures.gives

pub returns-in-Failed : goal.returns-in-Failed
returns-in-Failed g c =
    takes_fail g.S.Source.feed c.args.payload.now c.args.reader.now c.args.last.now c.turns.payload c.turns.reader c.turns.last c.turns.invariant c.next.new.self
    c.in-Failed.ensures.held c.in-Failed.ensures.form c.in-Failed.ensures.fewer c.in-Failed.error c.in-Failed.ensures.gives c.from.result c.from.ensures

pub returns-in-NoMemory : goal.returns-in-NoMemory
returns-in-NoMemory g c =
    takes_no_memory g.S.Source.feed c.args.payload.now c.args.reader.now c.args.last.now c.turns.payload c.turns.reader c.turns.last c.turns.invariant c.next.new.self
    c.in-NoMemory.ensures.held c.in-NoMemory.ensures.form c.in-NoMemory.ensures.fewer c.in-NoMemory.ensures.memory

pub returns-in-Stall : goal.returns-in-Stall
returns-in-Stall g c =
    takes_stall g.S.Source.feed c.args.payload.now c.args.reader.now c.args.last.now c.turns.payload c.turns.reader c.turns.last c.turns.invariant
    c.next.new.self c.in-More.ensures.gives.0 c.in-More.ensures.gives.1 c.in-More.ensures.settles c.poll_next.new.self c.in-Stall.ensures.next c.in-Stall.ensures.gave

pub returns-in-Fault : goal.returns-in-Fault
returns-in-Fault g c =
    takes_fault g.S.Source.feed c.args.payload.now c.args.reader.now c.args.last.now c.turns.payload c.turns.reader c.turns.last c.turns.invariant
    c.next.new.self c.in-More.ensures.gives.0 c.in-More.ensures.gives.1 c.poll_next.new.self c.in-Fault.ensures.next c.in-Fault.ensures.gave

pub returns-in-End : goal.returns-in-End
returns-in-End g c =
    takes_end g.S.Source.feed c.args.payload.now c.args.reader.now c.args.last.now c.turns.payload c.turns.reader c.turns.last c.turns.invariant
    c.next.new.self c.in-More.ensures.gives.0 c.in-More.ensures.gives.1 c.poll_next.new.self c.in-End.ensures.next c.in-End.ensures.gave

pub returns-in-NoMemory-poll_next : goal.returns-in-NoMemory-poll_next
returns-in-NoMemory-poll_next g c =
    takes_untold g.S.Source.feed c.args.payload.now c.args.reader.now c.args.last.now c.turns.payload c.turns.reader c.turns.last c.turns.invariant
    c.next.new.self c.in-More.ensures.gives.0 c.in-More.ensures.gives.1 c.poll_next.new.self c.in-NoMemory-poll_next.ensures.next c.in-NoMemory-poll_next.ensures.gave

pub returns-in-Err : goal.returns-in-Err
returns-in-Err g c =
    loses_piece g.S.Source.feed c.args.payload.now c.args.reader.now c.args.last.now c.turns.payload c.turns.reader c.turns.last c.turns.invariant
    c.next.new.self c.in-More.ensures.gives.0 c.in-More.ensures.gives.1 c.in-Piece.piece c.poll_next.new.self c.in-Piece.ensures.next c.in-Piece.ensures.gave
    c.feed.new.self c.in-Err.ensures.err c.len.result c.len.ensures.value

pub turns-preserved-in-Ok : goal.turns-preserved-in-Ok
turns-preserved-in-Ok g c =
    takes_piece g.S.Source.feed c.args.payload.now c.args.reader.now c.args.last.now c.turns.payload c.turns.reader c.turns.last c.turns.invariant
    c.next.new.self c.in-More.ensures.gives.0 c.in-More.ensures.gives.1 c.in-Piece.piece c.poll_next.new.self c.in-Piece.ensures.next c.in-Piece.ensures.gave
    c.feed.new.self (rw c.as_slice.ensures at c.in-Ok.ensures.ok) c.len.result c.len.ensures.value

pub turns-preserved : goal.turns-preserved
turns-preserved g c =
    takes_piece g.S.Source.feed c.args.payload.now c.args.reader.now c.args.last.now c.turns.payload c.turns.reader c.turns.last c.turns.invariant
    c.next.new.self c.in-More.ensures.gives.0 c.in-More.ensures.gives.1 c.in-Piece.piece c.poll_next.new.self c.in-Piece.ensures.next c.in-Piece.ensures.gave
    c.feed.new.self (rw c.as_slice.ensures at c.in-Ok.ensures.ok) c.len.result c.len.ensures.value
