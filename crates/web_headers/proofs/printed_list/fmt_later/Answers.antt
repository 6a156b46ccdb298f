use Rattle.std.proofs.Common.{refl}
use Rattle.std.proofs.lemmas.Grind.{put_two}
use Rattle.web_headers.proofs.PrintedListLemmas.{later_more, later_all}
use Rattle.web_headers.proofs.printed_list.fmt_later.Goals as goal

pub loop-part-preserved : goal.loop-part-preserved
loop-part-preserved g c = λ text total plain.
    let before = c.loop-part.invariant text total plain in
    let wrote = (rw (total c.part-item.result) at c.in_ok-write.ensures.writes) before.plain refl in
    put_two _ _ _ _ _ _ _ before wrote (later_more text c.args.parts.now c.loop-part.part-index c.part-item.result c.loop-part-test.true c.part-item.is)

pub returns : goal.returns
returns g c = λ text total plain ok.
    rw (← later_all text c.args.parts.now c.loop-part.part-index c.loop-part.auto.part-index-end c.loop-part-test.false) (c.loop-part.invariant text total plain)
