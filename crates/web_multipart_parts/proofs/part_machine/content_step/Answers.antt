use Rattle.std.proofs.Common.{sym, arith}
use Rattle.web_multipart_parts.proofs.ContentLemmas.{content_endless, content_long}
use Rattle.web_multipart_parts.proofs.part_machine.content_step.Goals as goal

pub returns-else-place-limit : goal.returns-else-place-limit
returns-else-place-limit c =
    let far = c.if-place-limit.false in
    let fits = c.in-Some.ensures.fits in (
      omega (arith, far, fits),
      λ next found more. content_long (record { delimiter = c.args.delimiter.now; limit = c.args.limit }) c.requires.some next found c.args.bytes.now c.in-Some.place (sym c.in-Some.ensures.place) far more,
    )

pub returns-then-limit-delimiter : goal.returns-then-limit-delimiter
returns-then-limit-delimiter c =
    let long = c.if-limit-delimiter.true in (
      long,
      λ next found more. content_endless (record { delimiter = c.args.delimiter.now; limit = c.args.limit }) c.requires.some next found c.args.bytes.now (sym c.in-None.ensures.place) long more,
    )
