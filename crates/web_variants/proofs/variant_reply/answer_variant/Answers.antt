use Rattle.std.proofs.Common.{None, Some, subst}
use Rattle.web_negotiate.specs.Rankings.{IsFirstGreatest}
use Rattle.web_variants.specs.Acceptance.{variant_rank}
use Rattle.web_variants.proofs.VariantReplyLemmas.{chosen_alone, chosen_reply, refused_alone, refused_reply}
use Rattle.web_variants.proofs.variant_reply.answer_variant.Goals as goal

pub returns-in-Some : goal.returns-in-Some
returns-in-Some g c =
    let at_place = subst (IsFirstGreatest (variant_rank c.headers.result.now) c.args.variants.now) c.in-Some.is c.in_ok-place.ensures in
    let first = subst (λ h. IsFirstGreatest (variant_rank h) c.args.variants.now (Some c.in-Some.place)) c.headers.ensures at_place in
    record {
      chosen = chosen_reply c.args.req.now.request.head.headers c.args.variants.now c.reply_at.result c.in-Some.place first c.reply_at.ensures;
      reply = chosen_alone c.args.req.now.request.head.headers c.args.variants.now c.reply_at.result c.in-Some.place first c.reply_at.ensures;
    }

pub returns-in-None : goal.returns-in-None
returns-in-None g c =
    let nowhere = subst (IsFirstGreatest (variant_rank c.headers.result.now) c.args.variants.now) c.in-None.is c.in_ok-place.ensures in
    let zeros = subst (λ h. IsFirstGreatest (variant_rank h) c.args.variants.now None) c.headers.ensures nowhere in
    record {
      chosen = refused_reply c.args.req.now.request.head.headers c.args.variants.now c.not_acceptable.result zeros c.not_acceptable.ensures;
      reply = refused_alone c.args.req.now.request.head.headers c.args.variants.now c.not_acceptable.result zeros c.not_acceptable.ensures;
    }
