use Rattle.std.proofs.Common.{List, ℕ, subst}
use Rattle.std.specs.Prelude.{IfOk}
use Rattle.web_reply.specs.ResponseBodies.{box_plain}
use Rattle.web_reply.specs.Replies.{plain_reply}
use Rattle.web_http1.specs.InPlace.{IsLastWritten}
use Rattle.web_http1.proofs.InPlaceLemmas.{last_at_once}
use Rattle.web_http1.proofs.answering.write_last.Goals as goal

pub returns-in-Some-clause-ok : goal.returns-in-Some-clause-ok
returns-in-Some-clause-ok g c =
    let reply = plain_reply (box_plain g.A.Source.Source.feed) c.in_ok-response.response.now in
    last_at_once c.args.asked c.args.is_head c.args.flights.now.items c.args.out.now.items c.write_response.new.out.items c.in-Some.closes reply
    (rw c.as_slice.ensures.value at c.in_ok-response.ensures) (rw c.in-Some.is at c.in_ok-written.ensures.ok)

pub returns-in-None-clause-ok : goal.returns-in-None-clause-ok
returns-in-None-clause-ok g c =
    let none = rw c.in-None.is at c.in_ok-written.ensures.ok in
    subst (λ (t : List ℕ). IfOk c.write_read.result (IsLastWritten c.args.asked c.args.is_head c.args.flights.now.items t c.write_read.new.out.items)) none c.write_read.ensures.ok
