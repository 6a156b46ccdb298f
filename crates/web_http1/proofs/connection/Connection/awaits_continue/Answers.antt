use Rattle.std.proofs.Common.{arith, drop, length-drop}
use Rattle.web_http1.proofs.BufferLemmas.{is_unended}
use Rattle.web_http1.proofs.connection.Connection.awaits_continue.Goals as goal

pub returns : goal.returns
returns c =
    rw (← c.self.view_is)
    (λ yes. (
      is_unended c.self.inside.ended c.is_some.result c.is_some.ensures c.if-is_some.false,
      c.awaits_continue.ensures yes c.self.inside.limits (drop c.self.inside.start c.self.inside.buffer.items) c.self.invariant.1
          (omega (arith, length-drop c.self.inside.start c.self.inside.buffer.items)),
    ))
