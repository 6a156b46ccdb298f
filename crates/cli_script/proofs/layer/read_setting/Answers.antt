use Rattle.std.proofs.Common.{sym, ◌∙◌}
use Rattle.cli_script.proofs.LayerLinesLemmas.{setting_alone, setting_read}
use Rattle.cli_script.proofs.layer.read_setting.Goals as goal

pub returns-in-Some : goal.returns-in-Some
returns-in-Some c = setting_read c.valued_setting.result c.args.text.now c.in-Some.name.now c.in-Some.value.now c.in-Some.ensures c.valued_setting.ensures

pub returns-in-None : goal.returns-in-None
returns-in-None c = c.plain_setting.ensures ∙ sym (setting_alone c.args.text.now c.in-None.ensures)
