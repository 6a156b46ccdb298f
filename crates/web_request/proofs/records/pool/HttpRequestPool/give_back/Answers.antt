use Rattle.std.proofs.Common.{rules, subst, arith, ◌≡◌, true, length, nat_lt, ◌<◌}
use Rattle.std.specs.Prelude.{IsOk, ◌&&◌}
use Rattle.std.specs.Vec.{vec_len, vec_capacity}
use Rattle.web_request.proofs.PoolLemmas.{keeps_given, keeps_number, place_left, room_left}
use Rattle.web_request.proofs.records.pool.HttpRequestPool.give_back.Goals as goal

pub unreachable-requires : goal.unreachable-requires
unreachable-requires g c =
    let a : (c.self.inside.enabled && nat_lt (length c.self.inside.numbers.items) c.self.inside.capacity) ≡ true = search rules in
    let left = place_left c.self.invariant.0 a in
    let lt : vec_len c.self.inside.numbers < vec_capacity c.self.inside.numbers = omega (arith, c.self.inside.numbers.ok.0) in
    let no = subst IsOk c.in-Err.is (c.push.ensures.succeeds lt) in grind arith

pub unreachable-requires-in-Err-push : goal.unreachable-requires-in-Err-push
unreachable-requires-in-Err-push g c =
    let a : (c.self.inside.enabled && nat_lt (length c.self.inside.numbers.items) c.self.inside.capacity) ≡ true = search rules in
    let left = room_left c.self.invariant.0 a in
    let lt : vec_len c.self.inside.kept < vec_capacity c.self.inside.kept = omega (arith, c.self.inside.kept.ok.0) in
    let no = subst IsOk c.in-Err-push.is (c.push-2.ensures.succeeds lt) in grind arith

pub invariant_of-self-2 : goal.invariant_of-self-2
invariant_of-self-2 g c =
    let a : (c.self.inside.enabled && nat_lt (length c.self.inside.numbers.items) c.self.inside.capacity) ≡ true = search rules in
    (keeps_given c.self.invariant.0 c.clean.new.self c.serial.result c.push.new.self.items c.push-2.new.self.items _ _ a (c.clean.ensures.clean (search rules)) (search rules) (search rules) c.push-2.ensures.capacity c.push.ensures.capacity, c.self.invariant.1)

pub invariant_of-self : goal.invariant_of-self
invariant_of-self g c =
    let a : (c.self.inside.enabled && nat_lt (length c.self.inside.numbers.items) c.self.inside.capacity) ≡ true = search rules in
    (keeps_number c.self.invariant.0 c.serial.result c.push.new.self.items _ a (search rules) c.push.ensures.capacity, c.self.invariant.1)
