use Rattle.std.proofs.Common.{refl, sym, ◌∙◌}
use Rattle.std.specs.Str.{is_utf8}
use Rattle.std.proofs.lemmas.Result.{err_from_is_err_and}
use Rattle.cli_script.specs.LineArguments.{is_param}
use Rattle.cli_script.specs.LineFaults.{unless}
use Rattle.cli_script.specs.declared.reason.LineFault.TheVariants.{BadParam}
use Rattle.cli_script.proofs.AcceptanceLemmas.{passed_on}
use Rattle.cli_script.proofs.LineArgumentsLemmas.{unspaced_param, no_name, name_refused, value_refused, param_read}
use Rattle.cli_script.proofs.param.read_param.Goals as goal

pub returns-in_default : goal.returns-in_default
returns-in_default c = rw (unspaced_param c.args.text.now c.in_default.ensures) refl

pub returns-then-is_empty : goal.returns-then-is_empty
returns-then-is_empty c = no_name c.args.text.now c.in-Some.name.now c.in-Some.value.now c.in-Some.ensures (sym c.is_empty.ensures ∙ c.if-is_empty.true)

pub returns-in_err-name : goal.returns-in_err-name
returns-in_err-name c =
    let p = err_from_is_err_and c.from_residual.result c.from_residual.ensures.1 in
    rw (p.1, p.2)
    (passed_on c.in_err-name.field-0.0 (unless (is_utf8 c.in-Some.name.now) BadParam) (unless (is_param c.args.text.now) BadParam)
    (λ r. name_refused c.args.text.now c.in-Some.name.now c.in-Some.value.now c.in-Some.ensures r (sym c.is_empty.ensures ∙ c.if-is_empty.false)) c.in_err-name.ensures)

pub returns-in_err-value : goal.returns-in_err-value
returns-in_err-value c =
    let p = err_from_is_err_and c.from_residual-in_err-value.result c.from_residual-in_err-value.ensures.1 in
    rw (p.1, p.2)
    (passed_on c.in_err-value.field-0.0 (unless (is_utf8 c.in-Some.value.now) BadParam) (unless (is_param c.args.text.now) BadParam)
    (λ r. value_refused c.args.text.now c.in-Some.name.now c.in-Some.value.now c.in-Some.ensures r (sym c.is_empty.ensures ∙ c.if-is_empty.false) c.in_ok-name.ensures.0)
    c.in_err-value.ensures)

pub returns : goal.returns
returns c =
    let read =
    param_read c.args.text.now c.in-Some.name.now c.in-Some.value.now c.in-Some.ensures c.in_ok-name.name.now c.in_ok-value.value.now
    (sym c.is_empty.ensures ∙ c.if-is_empty.false) c.in_ok-name.ensures.0 c.in_ok-value.ensures.0 c.in_ok-name.ensures.1 c.in_ok-value.ensures.1
    in
    (read.0, c.in_ok-new.ensures ∙ read.1)
