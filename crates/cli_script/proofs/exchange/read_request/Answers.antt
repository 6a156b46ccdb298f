use Rattle.std.proofs.Common.{◌≡◌, ◌-◌, length, drop, sym, ◌∙◌}
use Rattle.std.proofs.lemmas.Result.{err_from_is_err_and}
use Rattle.cli_script.specs.LineArguments.{is_method, request_fault, target_fault}
use Rattle.cli_script.specs.LineFaults.{unless}
use Rattle.web_request.specs.Head.{uri_view}
use Rattle.cli_script.specs.Targets.{target_of}
use Rattle.cli_script.specs.declared.reason.LineFault.TheVariants.{BadExchange}
use Rattle.cli_script.proofs.AcceptanceLemmas.{passed_on}
use Rattle.cli_script.proofs.LineArgumentsLemmas.{unspaced_request, spaced_target, no_method, no_target, asked_for, cut_end}
use Rattle.cli_script.proofs.exchange.read_request.Goals as goal

pub returns-in_default : goal.returns-in_default
returns-in_default c = unspaced_request c.args.text (rw c.as_slice.ensures at c.in_default.ensures)

pub returns-then-has_space : goal.returns-then-has_space
returns-then-has_space c = spaced_target c.args.text c.in-Some.method.now c.in-Some.target.now (rw c.as_slice.ensures at c.in-Some.ensures) (sym c.has_space.ensures ∙ c.if-has_space.true)

pub returns-in_err-method : goal.returns-in_err-method
returns-in_err-method c =
    let p = err_from_is_err_and c.from_residual.result c.from_residual.ensures.1 in
    rw (p.1, p.2)
    (passed_on c.in_err-method.field-0.0 (unless (is_method c.in-Some.method.now) BadExchange) (request_fault c.args.text)
    (λ r. no_method c.args.text c.in-Some.method.now c.in-Some.target.now (rw c.as_slice.ensures at c.in-Some.ensures) r (sym c.has_space.ensures ∙ c.if-has_space.false))
    c.in_err-method.ensures)

pub returns-in_err-uri : goal.returns-in_err-uri
returns-in_err-uri c =
    let p = err_from_is_err_and c.from_residual-in_err-uri.result c.from_residual-in_err-uri.ensures.1 in
    let cut = rw c.as_slice.ensures at c.in-Some.ensures in
    let end : drop (length c.args.text - length c.in-Some.target.now) c.args.text ≡ c.in-Some.target.now = sym (cut_end c.args.text c.in-Some.method.now c.in-Some.target.now cut) in
    rw (p.1, p.2)
    (passed_on c.in_err-uri.field-0.0 (target_fault (target_of c.in-Some.target.now)) (request_fault c.args.text)
    (λ r. no_target c.args.text c.in-Some.method.now c.in-Some.target.now cut r (sym c.has_space.ensures ∙ c.if-has_space.false) c.in_ok-method.ensures.0)
    (rw (c.advance.ensures, c.len.ensures.value, end) at c.in_err-uri.ensures))

pub returns : goal.returns
returns c =
    let cut = rw c.as_slice.ensures at c.in-Some.ensures in
    let end : drop (length c.args.text - length c.in-Some.target.now) c.args.text ≡ c.in-Some.target.now = sym (cut_end c.args.text c.in-Some.method.now c.in-Some.target.now cut) in
    let target = rw (c.advance.ensures, c.len.ensures.value, end) at c.in_ok-uri.ensures in
    asked_for c.args.text c.in-Some.method.now c.in-Some.target.now cut (uri_view c.in_ok-uri.uri) c.in_ok-method.method
    (sym c.has_space.ensures ∙ c.if-has_space.false) c.in_ok-method.ensures.0 c.in_ok-method.ensures.1 target.0 target.1
