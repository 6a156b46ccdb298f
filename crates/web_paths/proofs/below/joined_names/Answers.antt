use Rattle.std.proofs.Common.{◌∙◌, ap, sym, lit<, drop}
use Rattle.std.specs.List.{list_all}
use Rattle.std.proofs.lemmas.Iterator.Adapters.{YieldsList-from_skip}
use Rattle.std.proofs.lemmas.Iterator.Consumers.{YieldsList-at, YieldsList-turn, YieldsList-end}
use Rattle.std.proofs.lemmas.Iterator.Splits.{YieldsList-from_str_split}
use Rattle.web_paths.specs.FileNames.{is_file_name}
use Rattle.web_paths.specs.PathsBelow.{joined, segments}
use Rattle.web_paths.proofs.PathLemmas.{decoded-all, names-push, names-refused, text-push}
use Rattle.web_paths.proofs.below.joined_names.Goals as goal

pub returns-then-not-branch : goal.returns-then-not-branch
returns-then-not-branch c =
    let split = YieldsList-from_str_split 47 c.args.path.now (lit< tt) c.split.ensures.text c.split.ensures.has_more c.split.ensures.pattern in
    let skipped = YieldsList-from_skip 1 (YieldsList-at c.skip-segment-items.ensures.source split) c.skip-segment-items.ensures.count in
    let behind = YieldsList-at c.into_iter-segment-iterator.ensures.into_iter_gives skipped in
    let turn = YieldsList-turn behind c.loop-segment.yielded _ c.loop-segment.yielded_by _ _ c.in-Some.segment c.in-Some.is c.next.ensures.steps in
    names-refused c.args.hidden (drop 1 (segments c.args.path.now)) _ c.in-Some.segment.now turn (sym c.in_ok-push_name.ensures.name ∙ c.if-not-branch.true)

pub loop-segment-preserved : goal.loop-segment-preserved
loop-segment-preserved c =
    let all = c.loop-segment.invariant.names in
    record {
      names = names-push c.args.hidden c.loop-segment.yielded c.in-Some.segment all (sym c.in_ok-push_name.ensures.name ∙ c.if-not-branch.false);
      text =
          let more = text-push c.args.hidden c.loop-segment.yielded c.in-Some.segment all in
          cc (more, c.in_ok-push_name.ensures.names, c.loop-segment.invariant.text);
    }

pub returns : goal.returns
returns c =
    let split = YieldsList-from_str_split 47 c.args.path.now (lit< tt) c.split.ensures.text c.split.ensures.has_more c.split.ensures.pattern in
    let skipped = YieldsList-from_skip 1 (YieldsList-at c.skip-segment-items.ensures.source split) c.skip-segment-items.ensures.count in
    let behind = YieldsList-at c.into_iter-segment-iterator.ensures.into_iter_gives skipped in
    let end = YieldsList-end behind c.loop-segment.yielded _ c.loop-segment.yielded_by _ _ c.in-None.is c.next.ensures.steps in
    let e = decoded-all c.loop-segment.yielded (drop 1 (segments c.args.path.now)) end.0 in
    (ap (list_all (is_file_name c.args.hidden)) (sym e) ∙ c.loop-segment.invariant.names, c.loop-segment.invariant.text ∙ ap joined e)
