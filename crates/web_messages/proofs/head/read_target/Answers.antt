use Rattle.std.proofs.Common.{sym, ◌∙◌}
use Rattle.web_messages.proofs.TargetLemmas.{as_it_is}
use Rattle.web_messages.proofs.head.read_target.Goals as goal

pub returns : goal.returns
returns c = as_it_is c.args.checks c.args.target c.as_slice.result.now c.as_slice.ensures (sym c.has_delimiter.ensures ∙ c.if-has_delimiter.false)
