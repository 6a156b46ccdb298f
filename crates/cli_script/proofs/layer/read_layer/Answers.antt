use Rattle.std.specs.Prelude.{is_some}
use Rattle.std.proofs.lemmas.Result.{err_from_is_err_and}
use Rattle.cli_script.specs.LayerLines.{is_layer, setting_of}
use Rattle.cli_script.specs.LineFaults.{unless}
use Rattle.cli_script.specs.declared.reason.LineFault.TheVariants.{BadLayer}
use Rattle.cli_script.proofs.AcceptanceLemmas.{passed_on}
use Rattle.cli_script.proofs.LayerLinesLemmas.{all_set, last_setting, next_setting, no_last_setting, no_setting}
use Rattle.cli_script.proofs.layer.read_layer.Goals as goal

pub returns-in_err-read : goal.returns-in_err-read
returns-in_err-read c =
    let p = err_from_is_err_and c.from_residual.result c.from_residual.ensures.1 in
    rw (p.1, p.2)
    (passed_on c.in_err-read.field-0.0 (unless (is_some (setting_of c.in-Some.setting.now)) BadLayer) (unless (is_layer c.args.text.now) BadLayer)
    (λ r. no_setting c.args.text.now c.settings.rest.now c.in-Some.setting.now c.in-Some.behind.now c.settings.layer r c.in-Some.ensures c.settings.invariant)
    c.in_err-read.ensures)

pub settings-preserved : goal.settings-preserved
settings-preserved c =
    next_setting c.settings.rest.now c.in-Some.setting.now c.in-Some.behind.now c.settings.layer c.read.new.self _ c.in-Some.ensures
    c.in_ok-read.ensures.1 c.settings.invariant

pub returns-in_err-read-2 : goal.returns-in_err-read-2
returns-in_err-read-2 c =
    let p = err_from_is_err_and c.from_residual-in_err-read-2.result c.from_residual-in_err-read-2.ensures.1 in
    rw (p.1, p.2)
    (passed_on c.in_err-read-2.field-0.0 (unless (is_some (setting_of c.settings.rest.now)) BadLayer) (unless (is_layer c.args.text.now) BadLayer)
    (λ r. no_last_setting c.args.text.now c.settings.rest.now c.settings.layer r c.in_default.ensures c.settings.invariant)
    c.in_err-read-2.ensures)

pub returns : goal.returns
returns c =
    all_set c.args.text.now c.read-2.new.self
    (last_setting c.settings.rest.now c.settings.layer c.read-2.new.self _ c.in_default.ensures c.in_ok-read-2.ensures.1 c.settings.invariant)
