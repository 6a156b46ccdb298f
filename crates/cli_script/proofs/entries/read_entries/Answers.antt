use Rattle.std.proofs.Common.{refl, sym, ◌∙◌, drop, get_or, ◌+◌, arith}
use Rattle.cli_script.proofs.PlanEntriesLemmas.{digit_read, digit_large, space_read, other_read, at_byte, at_end, no_space, not_begun, space_is, added_all, refused_all}
use Rattle.cli_script.proofs.entries.read_entries.Goals as goal
use Rattle.cli_script.proofs.entries.read_entries.Goals.{then-byte-ne32-via-then-byte-ne32, then-byte-ne32-via-else-byte-ne32+then-not-has_digits, then-is_ascii_digit+in-Some, else-is_ascii_digit+else-byte-ne32+else-not-has_digits+in_ok-push}

pub returns-in-None : goal.returns-in-None
returns-in-None c =
    refused_all c.args.plan.now.items _ c.args.text.now (sym c.if-is_empty.ensures)
    (digit_large c.bytes.plan.items c.bytes.has_digits c.bytes.entry (get_or c.args.text.now c.bytes.byte-index 0) (drop (c.bytes.byte-index + 1) c.args.text.now) _
    (at_byte c.bytes.plan.items c.bytes.has_digits c.bytes.entry c.args.text.now c.bytes.byte-index _ c.bytes-test.true c.bytes.invariant)
    (sym c.is_ascii_digit.ensures.value ∙ c.if-is_ascii_digit.true)
    (sym c.in-None.is ∙ c.next_digit.ensures ∙ rw c.from.ensures refl))

pub returns-then-byte-ne32 : goal.returns-then-byte-ne32
returns-then-byte-ne32 c =
    refused_all c.args.plan.now.items _ c.args.text.now (sym c.if-is_empty.ensures)
    (other_read c.bytes.plan.items c.bytes.has_digits c.bytes.entry (get_or c.args.text.now c.bytes.byte-index 0) (drop (c.bytes.byte-index + 1) c.args.text.now) _
    (at_byte c.bytes.plan.items c.bytes.has_digits c.bytes.entry c.args.text.now c.bytes.byte-index _ c.bytes-test.true c.bytes.invariant)
    (sym c.is_ascii_digit.ensures.value ∙ c.if-is_ascii_digit.false)
    (elim c.then-byte-ne32.branch [
      | then-byte-ne32-via-then-byte-ne32 w ↦ no_space _ _ w.if-byte-ne32.true
      | then-byte-ne32-via-else-byte-ne32+then-not-has_digits w ↦ not_begun _ _ w.if-not-has_digits.true
    ]))

pub bytes-preserved : goal.bytes-preserved
bytes-preserved c =
    let next = at_byte c.bytes.plan.items c.bytes.has_digits c.bytes.entry c.args.text.now c.bytes.byte-index _ c.bytes-test.true c.bytes.invariant in
    elim c.if-is_ascii_digit.branch [
      | then-is_ascii_digit+in-Some w ↦
          let read = digit_read c.bytes.plan.items c.bytes.has_digits c.bytes.entry (get_or c.args.text.now c.bytes.byte-index 0) (drop (c.bytes.byte-index + 1) c.args.text.now) _ next w.in-Some.next
          (sym c.is_ascii_digit.ensures.value ∙ w.if-is_ascii_digit.true) (sym w.in-Some.is ∙ w.next_digit.ensures ∙ rw w.from.ensures refl) in
          rw (w.plan-is, w.entry-is, w.has_digits-is) read.0
      | else-is_ascii_digit+else-byte-ne32+else-not-has_digits+in_ok-push w ↦
          rw (w.plan-is, w.entry-is, w.has_digits-is, w.in_ok-push.ensures.items)
          (space_read c.bytes.plan.items c.bytes.has_digits c.bytes.entry (get_or c.args.text.now c.bytes.byte-index 0) (drop (c.bytes.byte-index + 1) c.args.text.now) _ next
          (sym c.is_ascii_digit.ensures.value ∙ w.if-is_ascii_digit.false) (space_is _ w.if-byte-ne32.false) w.if-not-has_digits.false)
    ]

pub returns-in_ok-push-2 : goal.returns-in_ok-push-2
returns-in_ok-push-2 c =
    let end = at_end c.bytes.plan.items c.bytes.has_digits c.bytes.entry c.args.text.now c.bytes.byte-index _ (omega (arith, c.bytes-test.false)) c.bytes.invariant in
    rw (c.if-has_digits.true, c.in_ok-push-2.ensures.items) (added_all c.args.plan.now.items _ c.args.text.now (sym c.if-is_empty.ensures) (rw c.if-has_digits.true at end))

pub returns-else-has_digits : goal.returns-else-has_digits
returns-else-has_digits c =
    let end = at_end c.bytes.plan.items c.bytes.has_digits c.bytes.entry c.args.text.now c.bytes.byte-index _ (omega (arith, c.bytes-test.false)) c.bytes.invariant in
    rw c.if-has_digits.false (refused_all c.args.plan.now.items _ c.args.text.now (sym c.if-is_empty.ensures) (rw c.if-has_digits.false at end))
