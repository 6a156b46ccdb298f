use Rattle.std.proofs.Common.{◌<◌, arith}
use Rattle.std.proofs.lemmas.Option.{slice_get_read}
use Rattle.web_cutting.proofs.PoolCallsLemmas.{none_there, one_back}
use Rattle.web_cutting.proofs.pool_calls.give_back_record.Goals as goal

pub returns-then-len-place : goal.returns-then-len-place
returns-then-len-place g c =
    let held = c.args.held.now in
    let whole = held.ok.0 in
    let count = c.len.ensures in
    let past = c.if-len-place.true in
    none_there c.args.pool.now held.items c.args.place (omega (arith, whole, count, past))

pub returns : goal.returns
returns g c =
    let held = c.args.held.now in
    let whole = held.ok.0 in
    let count = c.len.ensures in
    let within : c.args.place < held.len = (let past = c.if-len-place.false in omega (arith, count, past)) in
    one_back c.args.pool.now c.give_back.new.self held.items c.remove-request.new.self.items c.args.place c.remove-request.result
    (slice_get_read held.items held.len c.args.place c.remove-request.result whole within c.remove-request.ensures.value)
    c.give_back.ensures c.remove-request.ensures.items
