use Rattle.web_cookies.proofs.HeaderLemmas.{value_more, value_refused}
use Rattle.web_cookies.proofs.header_cookies.read_cookies.Goals as goal

pub loop-value-preserved : goal.loop-value-preserved
loop-value-preserved c =
    value_more c.args.encoded c.loop-value.value-iterator c.next.new.self c.in-Some.value.now c.loop-value.cookies.items c.add_cookies.new.cookies.items _
    c.in-Some.ensures.steps (rw (← c.as_bytes.ensures.value) c.in-Ok.ensures.cases.1) c.loop-value.invariant (rw (← c.as_bytes.ensures.value, ← c.in-Ok.ensures.cases.0) c.in_ok-add_cookies-in-Ok.ensures)

pub returns-in-Err : goal.returns-in-Err
returns-in-Err c =
    value_refused c.args.encoded c.loop-value.value-iterator c.next.new.self c.in-Some.value.now c.loop-value.cookies.items _
    c.in-Some.ensures.steps (λ text. c.in-Err.ensures.cases.0 (rw c.as_bytes.ensures.value text)) c.loop-value.invariant
