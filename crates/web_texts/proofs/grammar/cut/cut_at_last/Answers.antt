use Rattle.std.proofs.Common.{◌≡◌, ◌<◌, take, arith, sym}
use Rattle.std.specs.List.{slice_range}
use Rattle.std.proofs.lemmas.Str.Pattern.{rfind_char}
use Rattle.std.proofs.lemmas.Grind.{common_steps}
use Rattle.web_texts.proofs.CutLemmas.{last_cut_is, last_cut_is_none}
use Rattle.web_texts.proofs.grammar.cut.cut_at_last.Goals as goal

pub returns-in-Some : goal.returns-in-Some
returns-in-Some c =
    let small : c.from.result < 128 = rw c.from.ensures c.requires in
    let found = rw c.in-Some.is at (rfind_char c.from.result c.args.text.now c.rfind.result c.rfind.ensures.cases small) in
    let front : slice_range c.args.text.now 0 c.in-Some.place ≡ take c.in-Some.place c.args.text.now = grind (arith, common_steps) in
    rw (c.range.ensures.value, front, c.range_from.ensures.value, ← c.from.ensures) (sym (last_cut_is c.from.result c.args.text.now c.in-Some.place found.0 found.1 found.2))

pub returns-in-None : goal.returns-in-None
returns-in-None c =
    let small : c.from.result < 128 = rw c.from.ensures c.requires in
    rw (← c.from.ensures) (sym (last_cut_is_none c.from.result c.args.text.now (rw c.in-None.is at (rfind_char c.from.result c.args.text.now c.rfind.result c.rfind.ensures.cases small))))
