use Rattle.std.proofs.Common.{sym}
use Rattle.std.specs.Prelude.{option_copied}
use Rattle.web_forwarded.proofs.ForwardedLemmas.{fields, named_pair, unnamed_pair}
use Rattle.web_forwarded.proofs.forwarded_pairs.Forwarded.or_pair.Goals as goal

pub returns-in-Some : goal.returns-in-Some
returns-in-Some c =
    rw (← c.self.view_is)
    (named_pair (fields (option_copied c.self.inside.client) (option_copied c.self.inside.host) (option_copied c.self.inside.scheme))
    c.args.pair.now c.in-Some.name.now c.in-Some.value.now c.trim-name.result.now _ _ _ (sym c.in-Some.ensures) c.trim-name.ensures
    c.or_named.ensures c.or_named-in-Some.ensures c.or_named-in-Some-2.ensures)

pub returns-in-None : goal.returns-in-None
returns-in-None c = unnamed_pair c.args.self c.args.pair.now (sym c.in-None.ensures)
