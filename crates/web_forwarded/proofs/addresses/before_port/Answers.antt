use Rattle.std.proofs.Common.{◌∙◌, drop, sym}
use Rattle.web_forwarded.proofs.AddressLemmas.{front_is, all_is}
use Rattle.web_forwarded.proofs.addresses.before_port.Goals as goal

pub returns-in-Some : goal.returns-in-Some
returns-in-Some c =
    let found = c.in-Some.ensures.cases in
    found.3 ∙ sym (front_is c.args.text.now found.0 (drop found.1 c.args.text.now, found.2.1.split) (λ k below e. found.2.0 k below e.0 e.1))

pub returns-in-None : goal.returns-in-None
returns-in-None c = sym (all_is c.args.text.now (λ k inside e. c.in-None.ensures.cases k inside e.0 e.1))
