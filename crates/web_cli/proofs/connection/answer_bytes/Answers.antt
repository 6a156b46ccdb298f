use Rattle.std.proofs.Common.{◌∷◌, [], refl}
use Rattle.web_worker.specs.HandlerServices.{handler_setting}
use Rattle.web_body.specs.MemoryBodies.{without_empty}
use Rattle.web_request.specs.declared.source.Mark.TheVariants.{Piece}
use Rattle.web_request.specs.Feed.{Feed}
use Rattle.web_cli.specs.DemoExchanges.{demo_pool}
use Rattle.web_cli.proofs.ConnectionLemmas.{all_written, answers_as, has_memory, one_piece_bytes, one_piece_ends}
use Rattle.web_cli.proofs.connection.answer_bytes.Goals as goal

pub returns : goal.returns
returns g c =
    let marks = without_empty (Piece c.args.bytes.items ∷ []) in
    let s = handler_setting g.Args.FromRequest.means g.Args.Error.Into.converts
    (g.H.Handler.answers c.args.handler.now) g.H.Output.Responder.responds (λ (f : Feed). f)
    g.Args.Future.Poll.gives g.H.Future.Poll.gives (demo_pool c.args.capacity) in
    let t = handler_setting {U = Unit {0}} {W = Unit {0}} g.Args.FromRequest.means g.Args.Error.Into.converts
    (g.H.Handler.answers c.args.handler.now) g.H.Output.Responder.responds (λ (f : Feed). f)
    (λ u n x. ⊥) (λ u n x. ⊥) (demo_pool c.args.capacity) in
    let whole = rw (c.in_ok-source.ensures, c.in_ok-worker.ensures) at c.serve_connection.ensures.whole in
    let all = rw (one_piece_bytes c.args.bytes.items) at (whole marks refl (one_piece_ends c.args.bytes.items)) in
    record {
      ready = c.serve_connection.ensures.ready;
      same_promises = c.serve_connection.ensures.same_promises;
      text = λ given end is.
          all_written s c.args.bytes.items _ c.serve_connection.new.out.items c.serve_connection.result c.new-out.ensures.items
          (has_memory c.serve_connection.result c.in-Closed.is) all given end
          (answers_as s t (λ x h. record {
            once = record { once = h.once.once; comes = h.once.comes };
            soon = h.soon;
            states = h.states;
          }) c.args.bytes.items given end is);
    }
