use Rattle.std.proofs.Common.{◌≡◌, ◌-◌, length, drop, refl, sym, ◌∙◌}
use Rattle.std.proofs.lemmas.Result.{err_from_is_err_and}
use Rattle.cli_script.specs.LineArguments.{after_space, before_space, is_field_name, is_field_value, is_header}
use Rattle.cli_script.specs.LineFaults.{unless}
use Rattle.cli_script.specs.declared.reason.LineFault.TheVariants.{BadHeader}
use Rattle.cli_script.proofs.AcceptanceLemmas.{both_met, passed_on, second_unmet}
use Rattle.cli_script.proofs.LineArgumentsLemmas.{after_is_end}
use Rattle.cli_script.proofs.header.read_header.Goals as goal

pub returns-in_err-value : goal.returns-in_err-value
returns-in_err-value c =
    let p = err_from_is_err_and c.from_residual-in_err-value.result c.from_residual-in_err-value.ensures.1 in
    let after = rw c.as_slice.ensures at c.cut_first.ensures.after in
    let end : drop (length c.args.text - length c.cut_first.result.1.now) c.args.text ≡ after_space c.args.text = sym (after_is_end c.args.text c.cut_first.result.1.now after) ∙ after in
    rw (p.1, p.2)
    (passed_on c.in_err-value.field-0.0 (unless (is_field_value (after_space c.args.text)) BadHeader) (unless (is_header c.args.text) BadHeader)
    (λ r. second_unmet (is_field_name (before_space c.args.text)) (is_field_value (after_space c.args.text)) BadHeader r) (rw (c.advance.ensures, c.len.ensures.value, end) at c.in_err-value.ensures))

pub returns : goal.returns
returns c =
    let before = rw c.as_slice.ensures at c.cut_first.ensures.before in
    let after = rw c.as_slice.ensures at c.cut_first.ensures.after in
    let end : drop (length c.args.text - length c.cut_first.result.1.now) c.args.text ≡ after_space c.args.text = sym (after_is_end c.args.text c.cut_first.result.1.now after) ∙ after in
    let name = rw before at c.in_ok-name.ensures in
    let value = rw (c.advance.ensures, c.len.ensures.value, end) at c.in_ok-value.ensures in
    (both_met (is_field_name (before_space c.args.text)) (is_field_value (after_space c.args.text)) BadHeader name.0 value.0, rw (name.1, value.1) refl)
