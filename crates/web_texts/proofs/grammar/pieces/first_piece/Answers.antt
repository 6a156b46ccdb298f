use Rattle.std.proofs.Common.{◌<◌, arith, get_or}
use Rattle.std.proofs.lemmas.Str.{lead_after_ascii}
use Rattle.web_texts.proofs.grammar.pieces.first_piece.Goals as goal

pub range_from-requires : goal.range_from-requires
range_from-requires g c some =
    let at = rw c.as_bytes.ensures.value at c.in-Some.ensures in
    let small : get_or c.args.text.now c.in-Some.i 0 < 128 = omega (arith, at.marked, g.met.M.Mode.ascii) in
    (omega (arith, at.inside), λ more high. lead_after_ascii c.args.text.now c.in-Some.i c.utf8.text small more high)
