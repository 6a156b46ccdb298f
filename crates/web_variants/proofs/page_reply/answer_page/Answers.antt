use Rattle.std.proofs.Common.{List, None, Some, subst}
use Rattle.std.specs.Prelude.{IfOk, slice_index_or, ◌≡◌}
use Rattle.web_negotiate.specs.Rankings.{IsFirstGreatest}
use Rattle.web_variants.specs.Acceptance.{variant_rank}
use Rattle.web_variants.specs.VariantReplies.{reply_of}
use Rattle.web_variants.specs.declared.stored_variants.Variant.{Variant}
use Rattle.web_variants.proofs.PageReplyLemmas.{page_chosen, page_chosen_alone, page_refused, page_refused_alone}
use Rattle.web_variants.proofs.page_reply.answer_page.Goals as goal

pub returns-in-Some : goal.returns-in-Some
returns-in-Some g c =
    let place = c.in-Some.place in
    let at_place = subst (IsFirstGreatest (variant_rank c.headers.result.now) c.variants-stored.result.now) c.in-Some.is c.in_ok-place.ensures in
    let for_request = subst (λ h. IsFirstGreatest (variant_rank h) c.variants-stored.result.now (Some place)) c.headers.ensures at_place in
    let first = subst (λ (s : List Variant). IsFirstGreatest (variant_rank c.args.req.now.request.head.headers) s (Some place)) c.variants-stored.ensures for_request in
    let replies = subst (λ (s : List Variant). IfOk c.reply_at.result (λ reply. (v : Variant) → v ≡ slice_index_or s place v → reply ≡ reply_of (Some v))) c.variants-stored.ensures c.reply_at.ensures in
    record {
      chosen = page_chosen c.args.page.now c.reply_at.result c.args.req.now.request.head.headers place first replies;
      reply = page_chosen_alone c.args.page.now c.reply_at.result c.args.req.now.request.head.headers place first replies;
    }

pub returns-in-None : goal.returns-in-None
returns-in-None g c =
    let nowhere = subst (IsFirstGreatest (variant_rank c.headers.result.now) c.variants-stored.result.now) c.in-None.is c.in_ok-place.ensures in
    let for_request = subst (λ h. IsFirstGreatest (variant_rank h) c.variants-stored.result.now None) c.headers.ensures nowhere in
    let zeros = subst (λ (s : List Variant). IsFirstGreatest (variant_rank c.args.req.now.request.head.headers) s None) c.variants-stored.ensures for_request in
    record {
      chosen = page_refused c.args.page.now c.fallback_reply.result c.args.req.now.request.head.headers zeros c.fallback_reply.ensures;
      reply = page_refused_alone c.args.page.now c.fallback_reply.result c.args.req.now.request.head.headers zeros c.fallback_reply.ensures;
    }
