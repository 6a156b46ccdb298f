use Rattle.std.proofs.Common.{◌≡◌, sym, ap, ◌∙◌}
use Rattle.web_variants.specs.VariantReplies.{variant_reply}
use Rattle.demo_content.specs.StoredVariants.{demo_variants}
use Rattle.demo_content.proofs.KeptLemmas.{same_kept}
use Rattle.demo_content.proofs.variants.DemoVariants.answer.Goals as goal

pub returns : goal.returns
returns g c =
    let same : c.in-Some.variants ≡ demo_variants = same_kept (sym c.in-Some.is ∙ c.in_ok-keep_variants.ensures.stored) in
    c.in_ok-reply.ensures.reply ∙ ap (variant_reply c.args.req.now.request.head.headers) same
