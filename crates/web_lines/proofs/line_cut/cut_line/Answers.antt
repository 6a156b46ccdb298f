use Rattle.std.proofs.Common.{arith, ◌≡◌, ◌+◌, false, take, refl}
use Rattle.std.specs.List.{list_any}
use Rattle.web_texts.specs.Bytes.{is_newline}
use Rattle.web_lines.proofs.FirstNewlineLemmas.{newline_cuts, newline_too_far, newline_within, no_newline, not_unfinished}
use Rattle.web_lines.proofs.LineCutLemmas.{front_too_long, front_within}
use Rattle.web_lines.proofs.LineMemoryLemmas.{not_too_long}
use Rattle.web_lines.proofs.line_cut.cut_line.Goals as goal

pub returns-then-room-front-clause-cuts : goal.returns-then-room-front-clause-cuts
returns-then-room-front-clause-cuts c =
    newline_too_far c.args.limit c.args.held.now.items c.args.piece.now c.as_slice.result.now c.requires.unfinished c.as_slice.ensures c.in-Some.front c.in-Some.ensures
    (omega (arith, c.len.ensures, c.if-room-front.true))

pub returns-else-room-front-clause-cuts : goal.returns-else-room-front-clause-cuts
returns-else-room-front-clause-cuts c =
    newline_cuts c.args.limit c.args.held.now.items c.args.piece.now c.as_slice.result.now c.requires.unfinished c.as_slice.ensures c.in-Some.front c.in-Some.ensures
    (omega (arith, c.len.ensures, c.if-room-front.false)) (omega (arith, c.len-size.ensures))
    c.take_line-cut.result (take (c.in-Some.front + 1) c.as_slice-in-Some.result.now) c.take_line-cut.new.held.items c.advance.new.self
    (rw c.as_slice-in-Some.ensures refl) c.advance.ensures c.take_line-cut.ensures

pub returns-else-room-front-clause-front : goal.returns-else-room-front-clause-front
returns-else-room-front-clause-front c =
    λ all. absurd (not_unfinished c.args.limit c.args.held.now.items c.args.piece.now c.as_slice.result.now c.requires.unfinished c.as_slice.ensures c.in-Some.front c.in-Some.ensures all)

pub returns-else-room-front-clause-long : goal.returns-else-room-front-clause-long
returns-else-room-front-clause-long c =
    λ long. absurd (newline_within c.args.limit c.args.held.now.items c.args.piece.now c.as_slice.result.now c.requires.unfinished c.as_slice.ensures c.in-Some.front c.in-Some.ensures
    (omega (arith, c.len.ensures, c.if-room-front.false)) long)

pub returns-then-room-size-clause-cuts : goal.returns-then-room-size-clause-cuts
returns-then-room-size-clause-cuts c =
    let none : list_any is_newline c.args.piece.now ≡ false = rw (← c.as_slice.ensures) (no_newline c.as_slice.result.now c.in-None.ensures) in
    front_too_long c.args.limit c.args.held.now.items c.args.piece.now c.requires.unfinished none
    (omega (arith, c.len.ensures, c.len-size.ensures.value, c.if-room-size.true, c.requires.unfinished.within))

pub returns-else-room-size-clause-cuts : goal.returns-else-room-size-clause-cuts
returns-else-room-size-clause-cuts c =
    let none : list_any is_newline c.args.piece.now ≡ false = rw (← c.as_slice.ensures) (no_newline c.as_slice.result.now c.in-None.ensures) in
    record {
      held_is = refl;
      piece_is = refl;
      unfinished = front_within c.args.limit c.args.held.now.items c.args.piece.now c.requires.unfinished none
          (omega (arith, c.len.ensures, c.len-size.ensures.value, c.if-room-size.false, c.requires.unfinished.within));
    }

pub returns-else-room-size-clause-long : goal.returns-else-room-size-clause-long
returns-else-room-size-clause-long c =
    let none : list_any is_newline c.args.piece.now ≡ false = rw (← c.as_slice.ensures) (no_newline c.as_slice.result.now c.in-None.ensures) in
    let on = front_within c.args.limit c.args.held.now.items c.args.piece.now c.requires.unfinished none
    (omega (arith, c.len.ensures, c.len-size.ensures.value, c.if-room-size.false, c.requires.unfinished.within)) in
    λ long. absurd (not_too_long c.args.limit _ on long)
