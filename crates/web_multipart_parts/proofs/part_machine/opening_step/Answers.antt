use Rattle.std.proofs.Common.{sym, ◌∙◌, arith}
use Rattle.web_multipart_parts.proofs.CommonLemmas.{common_sym, starts, starts_not}
use Rattle.web_multipart_parts.proofs.part_machine.opening_step.Goals as goal

pub returns-then-starts_with : goal.returns-then-starts_with
returns-then-starts_with c = starts c.args.opening.now c.args.bytes.now (sym c.starts_with.ensures.value ∙ c.if-starts_with.true)

pub returns-then-starts_with-2 : goal.returns-then-starts_with-2
returns-then-starts_with-2 c = (
  common_sym c.args.opening.now c.args.bytes.now ∙ starts c.args.bytes.now c.args.opening.now (sym c.starts_with-else-starts_with.ensures.value ∙ c.if-starts_with-2.true),
  starts_not c.args.opening.now c.args.bytes.now (sym c.starts_with.ensures.value ∙ c.if-starts_with.false),
)

pub returns-else-starts_with-2 : goal.returns-else-starts_with-2
returns-else-starts_with-2 c =
    let same = common_sym c.args.opening.now c.args.bytes.now in
    let low = starts_not c.args.bytes.now c.args.opening.now (sym c.starts_with-else-starts_with.ensures.value ∙ c.if-starts_with-2.false) in (
      omega (arith, same, low),
      starts_not c.args.opening.now c.args.bytes.now (sym c.starts_with.ensures.value ∙ c.if-starts_with.false),
    )
