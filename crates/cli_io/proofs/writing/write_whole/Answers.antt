use Rattle.std.proofs.Common.{rules}
use Rattle.cli_io.proofs.OutputLemmas.{went_on}
use Rattle.cli_io.proofs.writing.write_whole.Goals as goal

pub writing-preserved : goal.writing-preserved
writing-preserved g c = record {
  within = search rules;
  went = went_on c.args.text.now c.writing.sent c.in-Wrote.count (g.O.Output.state c.args.output.now) (g.O.Output.state c.writing.output) (g.O.Output.state c.write.new.self) c.writing.invariant.went c.in-Wrote.ensures.went;
  faults = search rules;
}
