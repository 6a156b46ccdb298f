use Rattle.std.proofs.lemmas.Result.{err_from_is_err_and}
use Rattle.std.proofs.lemmas.Bool.{MatchBool-at_true, MatchBool-at_false}
use Rattle.std.proofs.Common.{◌≡◌, Some, None, [], ◌-◌, ◌+◌, suc, sym, arith, ◌∙◌}
use Rattle.web_multipart_parts.specs.PartHeads.{fields_in}
use Rattle.web_multipart_parts.proofs.HeadLemmas.{last_bad, last_done, read_done, read_more, read_none, read_refused}
use Rattle.web_multipart_parts.proofs.part_head.read_fields.Goals as goal

pub returns-in-None : goal.returns-in-None
returns-in-None c = read_none c.args.text.now c.loop.rest.now c.loop.fields.items (16 - c.loop.counter) c.loop.invariant c.in-None.ensures

pub returns-then-is_empty : goal.returns-then-is_empty
returns-then-is_empty c = read_done c.args.text.now c.loop.rest.now c.loop.fields.items (16 - c.loop.counter) c.loop.invariant c.in-Some.line.now c.in-Some.later.now c.in-Some.ensures (sym c.is_empty.ensures ∙ c.if-is_empty.true)

pub loop-preserved : goal.loop-preserved
loop-preserved c =
    let test = c.loop-test.true in
    let one : 16 - c.loop.counter ≡ suc (16 - (c.loop.counter + 1)) = omega (arith, test) in
    rw c.in_ok-push-in-Some.ensures.items
    (read_more c.args.text.now c.loop.rest.now c.loop.fields.items (16 - c.loop.counter) c.loop.invariant c.in-Some.line.now c.in-Some.later.now c.in-Some.ensures (sym c.is_empty.ensures ∙ c.if-is_empty.false)
    (16 - (c.loop.counter + 1)) one c.in_ok-read_field-in-Some.field-0 c.in_ok-read_field-in-Some.ensures)

pub returns-then-is_end : goal.returns-then-is_end
returns-then-is_end c =
    let test = c.loop-test.false in
    last_done c.args.text.now c.loop.rest.now c.loop.fields.items (16 - c.loop.counter) c.loop.invariant (omega (arith, test)) (MatchBool-at_true (fields_in 0 c.loop.rest.now ≡ Some []) (fields_in 0 c.loop.rest.now ≡ None) c.if-is_end.true c.is_end.ensures)

pub returns-else-is_end : goal.returns-else-is_end
returns-else-is_end c =
    let test = c.loop-test.false in
    last_bad c.args.text.now c.loop.rest.now c.loop.fields.items (16 - c.loop.counter) c.loop.invariant (omega (arith, test)) (MatchBool-at_false (fields_in 0 c.loop.rest.now ≡ Some []) (fields_in 0 c.loop.rest.now ≡ None) c.if-is_end.false c.is_end.ensures)

pub returns-in_err-read_field-in-Some : goal.returns-in_err-read_field-in-Some
returns-in_err-read_field-in-Some c =
    let test = c.loop-test.true in
    let one : 16 - c.loop.counter ≡ suc (16 - (c.loop.counter + 1)) = omega (arith, test) in
    let p = err_from_is_err_and c.from_residual.result c.from_residual.ensures.1 in
    rw (p.1, p.2)
    (read_refused c.args.text.now c.loop.rest.now c.loop.fields.items (16 - c.loop.counter) c.loop.invariant c.in-Some.line.now c.in-Some.later.now c.in-Some.ensures (sym c.is_empty.ensures ∙ c.if-is_empty.false)
    (16 - (c.loop.counter + 1)) one _ c.in_err-read_field-in-Some.ensures)
