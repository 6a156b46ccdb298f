use Rattle.std.proofs.Common.{◌≡◌, false}
use Rattle.web_testing.proofs.TestRepliesLemmas.{GivesLater}
use Rattle.web_testing.proofs.reply.value_of.Given as goal

abbrev pub invariant-loop-stalls : goal.invariant-loop-stalls
invariant-loop-stalls g l = record {
  open_yet : g.F.Poll.is_finished l.future ≡ false;
  later : GivesLater (g.F.Poll.gives l.fn.future) (g.F.Poll.gives l.future) l.stalls;
}
