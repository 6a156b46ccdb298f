use Rattle.std.proofs.Common.{[], ◌∷◌, decimal}
use Rattle.std.specs.Prelude.{codes}
use Rattle.cli_load.specs.ScriptTexts.{plan_line}
use Rattle.cli_load.proofs.RangeLemmas.{three_pieces, written_more}
use Rattle.cli_load.proofs.load_script.put_round.Goals as goal

pub loop-place-preserved : goal.loop-place-preserved
loop-place-preserved c =
    let number = rw c.from.ensures at c.in_ok-put_number.ensures in
    written_more plan_line c.loop-place.place c.args.out.now.items c.loop-place.out.items
    c.put-in-loop-place.new.out.items c.loop-place.invariant
    (three_pieces c.loop-place.out.items (codes "plan ") (decimal c.loop-place.place) (10 ∷ [])
    c.put.new.out.items c.put_number.new.out.items c.put-in-loop-place.new.out.items
    c.in_ok-put.ensures number c.in_ok-put-2.ensures)
