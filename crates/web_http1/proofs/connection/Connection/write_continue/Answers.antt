use Rattle.web_http1.proofs.connection.Connection.write_continue.Goals as goal

pub returns-then-awaits_continue-clause-ok : goal.returns-then-awaits_continue-clause-ok
returns-then-awaits_continue-clause-ok c =
    let awaits = c.awaits_continue.ensures c.if-awaits_continue.true in
    (awaits.0, awaits.1, c.in_ok-put_continue.ensures.ok)
