use Rattle.std.proofs.Common.{◌≤◌, ◌<◌, ◌+◌, length, arith}
use Rattle.web_body.specs.HeldBytes.{held_bytes}
use Rattle.web_body.proofs.CollectorLoopLemmas.{reads_piece, passes_reads, stalls_reads, fails_reads, ends_reads}
use Rattle.web_body.proofs.CollectorMemoryLemmas.{joins, hands_over, unstated}
use Rattle.web_body.proofs.collecting.collect.Goals as goal

pub returns-then-more-limit-clause-reads : goal.returns-then-more-limit-clause-reads
returns-then-more-limit-clause-reads g c =
    let over : c.args.limit < length (held_bytes c.loop-piece.held) + length c.in-Piece.piece = omega (arith, c.len-had.ensures.value, c.len-more.ensures.value) in
    rw (c.len-had.ensures.value, c.len-more.ensures.value) (passes_reads g.S.Source.feed c.args.limit _ _ _ _ c.loop-piece.invariant c.poll_next.new.self c.in-Piece.piece over c.in-Piece.ensures.next (held_bytes c.loop-piece.held))

pub loop-piece-preserved : goal.loop-piece-preserved
loop-piece-preserved g c =
    let fits : length (held_bytes c.loop-piece.held) + length c.in-Piece.piece ≤ c.args.limit = omega (arith, c.len-had.ensures.value, c.len-more.ensures.value, c.loop-piece.invariant.within) in
    reads_piece g.S.Source.feed c.args.limit _ _ _ _ c.loop-piece.invariant c.poll_next.new.self c.in-Piece.piece c.add.new.self
    c.in-Ok.ensures.added c.in-Ok.ensures.single fits c.in-Piece.ensures.next c.in-Piece.ensures.gave

pub returns-in-Stall-clause-reads : goal.returns-in-Stall-clause-reads
returns-in-Stall-clause-reads g c = stalls_reads g.S.Source.feed c.args.limit _ _ _ _ c.loop-piece.invariant c.poll_next.new.self c.in-Stall.ensures.next

pub returns-in-Fault-clause-reads : goal.returns-in-Fault-clause-reads
returns-in-Fault-clause-reads g c = fails_reads g.S.Source.feed c.args.limit _ _ _ _ c.loop-piece.invariant c.poll_next.new.self c.in-Fault.ensures.next (held_bytes c.loop-piece.held)

pub returns-in-Ok-take-clause-reads : goal.returns-in-Ok-take-clause-reads
returns-in-Ok-take-clause-reads g c = ends_reads g.S.Source.feed c.args.limit _ _ _ _ c.loop-piece.invariant c.poll_next.new.self c.in-End.ensures.next c.in-Ok-take.bytes c.in-Ok-take.ensures.all (held_bytes c.take.new.self)

pub returns-in-Err-clause-memory : goal.returns-in-Err-clause-memory
returns-in-Err-clause-memory g c = λ need. joins _ _ c.in-Piece.piece c.loop-piece.held c.in-Piece.ensures.next.takes c.in-Err.ensures.memory (c.loop-piece.invariant.memory need)

pub returns-in-Err-take-clause-memory : goal.returns-in-Err-take-clause-memory
returns-in-Err-take-clause-memory g c = λ need. hands_over _ _ c.loop-piece.held c.in-End.ensures.next.left c.in-Err-take.ensures.memory (c.loop-piece.invariant.memory need)

pub returns-in-NoMemory-clause-memory : goal.returns-in-NoMemory-clause-memory
returns-in-NoMemory-clause-memory g c = λ need. unstated _ c.loop-piece.held c.in-NoMemory.ensures.next.untold (c.loop-piece.invariant.memory need)
