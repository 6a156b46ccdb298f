use Rattle.std.proofs.Common.{rules, ◌≡◌, ◌++◌, ◌∙◌, ap, length}
use Rattle.cli_script.specs.Script.{is_valid_script, script_lines}
use Rattle.cli_load.specs.ScriptTexts.{exchanges_from, plan_round, script_text}
use Rattle.cli_load.proofs.RangeLemmas.{repeated}
use Rattle.cli_load.proofs.ValidScriptLemmas.{valid_load}
use Rattle.cli_load.proofs.load_script.script_text.Goals as goal

pub returns : goal.returns
unfolding script_text
returns c =
    let seed = c.args.load.seed in
    let count = c.args.load.count in
    let exchanges : c.put_exchanges.new.out.items ≡ exchanges_from seed count =
    c.in_ok-put_exchanges.ensures
    ∙ ap (λ text. text ++ exchanges_from seed count) c.in_ok-out.ensures.items in
    let size : c.len-start.result ≡ length c.put_exchanges.new.out.items = search rules in
    let both = c.in_ok-put_round.ensures ∙ ap (λ text. text ++ plan_round count) exchanges in
    let text : c.repeat_round.new.out.items ≡ script_text seed count =
    c.in_ok-repeat_round.ensures
    ∙ repeated (exchanges_from seed count) (plan_round count) c.put_round.new.out.items
    c.len-start.result both (size ∙ ap length exchanges) in
    record {
      text = text;
      valid = ap (λ bytes. is_valid_script (script_lines bytes)) text
          ∙ valid_load seed count (search rules);
    }
