use Rattle.web_request.proofs.ReadyLayersLemmas.{ready_pushed}
use Rattle.web_request.proofs.request.HttpRequest.add_layer.Goals as goal

pub invariant_of-self-2 : goal.invariant_of-self-2
invariant_of-self-2 g c =
    ready_pushed g.A.Layer.AppLayer.ready c.self.inside.root c.self.inside.layers.items c.push.new.self.items c.args.layer
    c.in_ok-push.ensures.items c.self.invariant c.requires.ready
