use Rattle.std.proofs.Common.{sym}
use Rattle.cli_script.proofs.PeerLemmas.{all_fit, first_unfit, fourth_unfit, one_part, second_unfit, third_unfit, three_parts, two_parts}
use Rattle.cli_script.proofs.peer.octets_of.Goals as goal

pub returns-in_err-first : goal.returns-in_err-first
returns-in_err-first c = rw c.from_residual.ensures (sym (one_part c.args.text.now c.in_err-first.ensures))

pub returns-in_err-second : goal.returns-in_err-second
returns-in_err-second c = rw c.from_residual-in_err-second.ensures (sym (two_parts c.args.text.now c.in_ok-first.first.now c.in_ok-first.rest.now c.in_ok-first.ensures c.in_err-second.ensures))

pub returns-in_err-third : goal.returns-in_err-third
returns-in_err-third c =
    rw c.from_residual-in_err-third.ensures
    (sym (three_parts c.args.text.now c.in_ok-first.first.now c.in_ok-first.rest.now c.in_ok-second.second.now c.in_ok-second.rest.now c.in_ok-first.ensures c.in_ok-second.ensures c.in_err-third.ensures))

pub returns-in_err-octet_of : goal.returns-in_err-octet_of
returns-in_err-octet_of c =
    rw c.from_residual-in_err-octet_of.ensures
    (sym (first_unfit c.args.text.now c.in_ok-first.first.now c.in_ok-first.rest.now c.in_ok-second.second.now c.in_ok-second.rest.now c.in_ok-third.third.now c.in_ok-third.fourth.now
    c.in_ok-first.ensures c.in_ok-second.ensures c.in_ok-third.ensures (sym c.in_err-octet_of.ensures)))

pub returns-in_err-octet_of-2 : goal.returns-in_err-octet_of-2
returns-in_err-octet_of-2 c =
    rw c.from_residual-in_err-octet_of-2.ensures
    (sym (second_unfit c.args.text.now c.in_ok-first.first.now c.in_ok-first.rest.now c.in_ok-second.second.now c.in_ok-second.rest.now c.in_ok-third.third.now c.in_ok-third.fourth.now
    c.in_ok-first.ensures c.in_ok-second.ensures c.in_ok-third.ensures c.in_ok-octet_of.field-0 (sym c.in_ok-octet_of.ensures) (sym c.in_err-octet_of-2.ensures)))

pub returns-in_err-octet_of-3 : goal.returns-in_err-octet_of-3
returns-in_err-octet_of-3 c =
    rw c.from_residual-in_err-octet_of-3.ensures
    (sym (third_unfit c.args.text.now c.in_ok-first.first.now c.in_ok-first.rest.now c.in_ok-second.second.now c.in_ok-second.rest.now c.in_ok-third.third.now c.in_ok-third.fourth.now
    c.in_ok-first.ensures c.in_ok-second.ensures c.in_ok-third.ensures c.in_ok-octet_of.field-0 c.in_ok-octet_of-2.field-0 (sym c.in_ok-octet_of.ensures) (sym c.in_ok-octet_of-2.ensures)
    (sym c.in_err-octet_of-3.ensures)))

pub returns-in_err-octet_of-4 : goal.returns-in_err-octet_of-4
returns-in_err-octet_of-4 c =
    rw c.from_residual-in_err-octet_of-4.ensures
    (sym (fourth_unfit c.args.text.now c.in_ok-first.first.now c.in_ok-first.rest.now c.in_ok-second.second.now c.in_ok-second.rest.now c.in_ok-third.third.now c.in_ok-third.fourth.now
    c.in_ok-first.ensures c.in_ok-second.ensures c.in_ok-third.ensures c.in_ok-octet_of.field-0 c.in_ok-octet_of-2.field-0 c.in_ok-octet_of-3.field-0 (sym c.in_ok-octet_of.ensures)
    (sym c.in_ok-octet_of-2.ensures) (sym c.in_ok-octet_of-3.ensures) (sym c.in_err-octet_of-4.ensures)))

pub returns : goal.returns
returns c =
    sym (all_fit c.args.text.now c.in_ok-first.first.now c.in_ok-first.rest.now c.in_ok-second.second.now c.in_ok-second.rest.now c.in_ok-third.third.now c.in_ok-third.fourth.now
    c.in_ok-first.ensures c.in_ok-second.ensures c.in_ok-third.ensures c.in_ok-octet_of.field-0 c.in_ok-octet_of-2.field-0 c.in_ok-octet_of-3.field-0 c.in_ok-octet_of-4.field-0
    (sym c.in_ok-octet_of.ensures) (sym c.in_ok-octet_of-2.ensures) (sym c.in_ok-octet_of-3.ensures) (sym c.in_ok-octet_of-4.ensures))
