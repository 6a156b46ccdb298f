use Rattle.std.proofs.Common.{◌++◌, ◌∙◌, ap, subst, sym}
use Rattle.web_request.proofs.ReadyLayersLemmas.{ready_behind}
use Rattle.web_request.proofs.request.HttpRequest.fill.Goals as goal

pub invariant_of-self-2 : goal.invariant_of-self-2
invariant_of-self-2 g c =
    ready_behind g.A.Layer.AppLayer.ready c.self.inside.root c.self.inside.layers.items c.parts.inside.layers.items c.move_into.new.list.items c.in-Ok.root
    (c.move_into.ensures ∙ ap (λ xs. xs ++ c.parts.inside.layers.items) c.reserve-2.ensures.items) c.self.invariant (subst g.A.Layer.AppLayer.ready (sym c.in-Ok.ensures.cases) c.requires.ready)
    c.parts.invariant
