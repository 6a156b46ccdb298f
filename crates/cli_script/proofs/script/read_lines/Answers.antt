use Rattle.std.proofs.Common.{arith, sym, take, drop, ◌+◌}
use Rattle.std.proofs.lemmas.List.{length-drop}
use Rattle.std.proofs.lemmas.Result.{err_from_is_err_and}
use Rattle.cli_script.proofs.ScriptLoopLemmas.{line_small, start_lines, next_line, next_number, refused_line, last_line_reads, on_ok}
use Rattle.cli_script.proofs.ScriptSizeLemmas.{each_small}
use Rattle.cli_script.proofs.script.read_lines.Goals as goal

pub read_line-requires-clause-small : goal.read_line-requires-clause-small
read_line-requires-clause-small g c =
    line_small g.S.ExchangeSink.holds c.args.bytes c.lines.rest c.args.sink.now c.lines.sink c.lines.line c.lines.reader c.lines.invariant.small c.lines.invariant.at

pub read_line-requires-2-clause-small : goal.read_line-requires-2-clause-small
read_line-requires-2-clause-small g c =
    line_small g.S.ExchangeSink.holds c.args.bytes c.lines.rest c.args.sink.now c.lines.sink c.lines.line c.lines.reader c.lines.invariant.small c.lines.invariant.at

pub returns-clause-read : goal.returns-clause-read
returns-clause-read g c =
    last_line_reads g.S.ExchangeSink.holds c.args.bytes c.lines.rest c.lines.size c.args.sink.now c.lines.sink c.read_line-2.new.sink c.lines.line
    c.lines.reader c.read_line-2.new.self c.read_line-2.result c.numbered-2.result c.lines.invariant.small (rw c.as_slice.ensures at c.in_default.ensures.last) c.lines.invariant.size
    c.read_line-2.ensures.reader c.read_line-2.ensures.added c.numbered-2.ensures c.lines.invariant.at

pub returns-clause-small : goal.returns-clause-small
returns-clause-small g c = on_ok c.numbered-2.result (each_small c.args.bytes c.lines.invariant.small)

pub returns-in_err-numbered-clause-read : goal.returns-in_err-numbered-clause-read
returns-in_err-numbered-clause-read g c =
    let p = err_from_is_err_and c.from_residual.result c.from_residual.ensures.1 in
    rw (p.1, p.2)
    (refused_line g.S.ExchangeSink.holds c.args.bytes c.lines.rest (take c.in-Some.end c.lines.rest) (drop (c.in-Some.end + 1) c.lines.rest) c.args.sink.now c.lines.sink c.lines.line
    c.lines.reader c.read_line.new.self c.read_line.result c.in_err-numbered.field-0.0 (rw c.as_slice.ensures at c.in-Some.ensures.line)
    c.read_line.ensures.reader c.in_err-numbered.ensures c.lines.invariant.at)

pub lines-preserved : goal.lines-preserved
lines-preserved g c = record {
  at = rw c.advance.ensures
      (next_line g.S.ExchangeSink.holds c.args.bytes c.lines.rest (take c.in-Some.end c.lines.rest) (drop (c.in-Some.end + 1) c.lines.rest) c.args.sink.now c.lines.sink c.read_line.new.sink c.lines.line
      c.lines.reader c.read_line.new.self c.read_line.result c.in_ok-numbered.field-0 (rw c.as_slice.ensures at c.in-Some.ensures.line)
      c.read_line.ensures.reader c.read_line.ensures.added c.in_ok-numbered.ensures c.lines.invariant.at);
  small = c.lines.invariant.small;
  size = rw (c.advance.ensures, c.lines.invariant.size) (sym (length-drop (c.in-Some.end + 1) c.lines.rest));
  fits = rw c.advance.ensures
      (next_number c.lines.rest c.in-Some.end c.lines.line c.args.bytes (rw c.as_slice.ensures at c.in-Some.ensures.within) c.lines.invariant.fits);
}

pub lines-init : goal.lines-init
lines-init g c = record {
  at = start_lines g.S.ExchangeSink.holds c.args.bytes c.args.sink.now c.args.reader.now c.requires.new;
  small = rw c.len-size.ensures.value at c.len-size.ensures.bound;
  size = c.len-size.ensures.value;
  fits = omega arith;
}
