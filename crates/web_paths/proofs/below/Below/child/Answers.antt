use Rattle.std.proofs.Common.{◌∙◌, ap, sym, string_bytes}
use Rattle.web_paths.specs.PathsBelow.{one_more}
use Rattle.web_paths.proofs.NameLemmas.{child-found, child-refused, child-valid}
use Rattle.web_paths.proofs.below.Below.child.Goals as goal

pub returns-then-not-allow : goal.returns-then-not-allow
returns-then-not-allow c = child-refused c.args.hidden c.args.self.now c.args.name.now (sym c.allow.ensures ∙ c.if-not-allow.true)

pub invariant_of-result : goal.invariant_of-result
invariant_of-result c =
    child-valid c.args.hidden (string_bytes c.self.inside.path) (string_bytes c.in_ok-path.path) c.args.name.now c.self.invariant (sym c.allow.ensures ∙ c.if-not-allow.false) (c.in_ok-path.ensures ∙ ap (λ t. one_more t c.args.name.now) c.as_str.ensures.value)

pub returns : goal.returns
returns c =
    child-found c.args.hidden c.args.self.now (string_bytes c.self.inside.path) (string_bytes c.in_ok-path.path) c.args.name.now (ap (λ v. v.names) c.self.view_is) c.self.invariant (sym c.allow.ensures ∙ c.if-not-allow.false) (c.in_ok-path.ensures ∙ ap (λ t. one_more t c.args.name.now) c.as_str.ensures.value)
