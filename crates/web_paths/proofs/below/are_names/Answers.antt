use Rattle.std.proofs.Common.{◌∙◌, ap, sym, lit<}
use Rattle.std.specs.List.{list_all}
use Rattle.std.proofs.lemmas.Iterator.Consumers.{YieldsList-at, YieldsList-turn, YieldsList-end}
use Rattle.std.proofs.lemmas.Iterator.Splits.{YieldsList-from_str_split}
use Rattle.web_paths.specs.FileNames.{is_file_name}
use Rattle.web_paths.specs.PathsBelow.{segments}
use Rattle.web_paths.specs.declared.names.HiddenNames.TheVariants.{Allowed}
use Rattle.web_paths.proofs.NameLemmas.{valid-refused, valid-turn}
use Rattle.web_paths.proofs.below.are_names.Goals as goal

pub returns-then-not-is_file_name : goal.returns-then-not-is_file_name
returns-then-not-is_file_name c =
    let split = YieldsList-at c.into_iter-name-iterator.ensures.into_iter_gives (YieldsList-from_str_split 47 c.args.text.now (lit< tt) c.split-name-items.ensures.text c.split-name-items.ensures.has_more c.split-name-items.ensures.pattern) in
    let turn = YieldsList-turn split c.loop-name.yielded _ c.loop-name.yielded_by _ _ c.in-Some.name c.in-Some.is c.next.ensures.steps in
    valid-refused (segments c.args.text.now) _ c.in-Some.name.now turn (ap (is_file_name Allowed) (sym c.as_bytes.ensures.value) ∙ sym c.is_file_name.ensures ∙ c.if-not-is_file_name.true)

pub loop-name-preserved : goal.loop-name-preserved
loop-name-preserved c =
    valid-turn c.loop-name.yielded c.in-Some.name c.loop-name.invariant (ap (is_file_name Allowed) (sym c.as_bytes.ensures.value) ∙ sym c.is_file_name.ensures ∙ c.if-not-is_file_name.false)

pub returns : goal.returns
returns c =
    let split = YieldsList-at c.into_iter-name-iterator.ensures.into_iter_gives (YieldsList-from_str_split 47 c.args.text.now (lit< tt) c.split-name-items.ensures.text c.split-name-items.ensures.has_more c.split-name-items.ensures.pattern) in
    let end = YieldsList-end split c.loop-name.yielded _ c.loop-name.yielded_by _ _ c.in-None.is c.next.ensures.steps in
    sym (ap (list_all (is_file_name Allowed)) (sym end.0) ∙ c.loop-name.invariant)
