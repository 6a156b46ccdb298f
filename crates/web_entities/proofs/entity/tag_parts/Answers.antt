use Rattle.std.proofs.Common.{arith, sym}
use Rattle.std.proofs.lemmas.Str.{lead_after_ascii}
use Rattle.web_entities.proofs.EntityTagLemmas.{marked_at}
use Rattle.web_entities.proofs.entity.tag_parts.Goals as goal

pub range_from-quoted-requires : goal.range_from-quoted-requires
range_from-quoted-requires c some =
    let at = marked_at c.args.text.now (sym c.if-weak.ensures) in
    (at.0, λ more high. lead_after_ascii c.args.text.now 1 c.utf8.text (omega (arith, at.1)) more high)
