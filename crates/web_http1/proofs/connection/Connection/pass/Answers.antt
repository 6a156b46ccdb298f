use Rattle.std.proofs.Common.{◌≤◌, drop, length, subst, sym}
use Rattle.web_http1.specs.Connections.{ConnectionView}
use Rattle.web_http1.proofs.BegunLemmas.{moved_is, place_inside, progress_there}
use Rattle.web_http1.proofs.connection.Connection.pass.Goals as goal

pub invariant_of-self : goal.invariant_of-self
invariant_of-self c = (
  place_inside c.self.inside.buffer.items c.self.inside.start c.args.bytes c.self.invariant.0
      (subst (λ (v : ConnectionView). c.args.bytes ≤ length v.left) (sym c.self.view_is) c.requires.inside),
  progress_there c.self.inside.limits c.self.inside.buffer.items c.self.inside.start c.args.bytes c.start.result c.put_in.new.place c.put_in.ensures
      (c.start.ensures c.self.inside.limits (drop c.args.bytes (drop c.self.inside.start c.self.inside.buffer.items))),
)

pub returns : goal.returns
returns c =
    rw (← c.self.view_is)
    (moved_is c.self.inside.limits c.self.inside.buffer.items c.self.inside.start c.args.bytes c.self.inside.ended c.end_after-self-inside.result c.args.closes c.end_after-self-inside.ensures)
