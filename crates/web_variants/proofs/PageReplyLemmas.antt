-- The reply to a request for a page.
use Rattle.std.proofs.Common.{◌≡◌, ◌<◌, ℕ, List, length, get_or, Option, None, Some, IfOk, refl, sym, ap, ◌∙◌}
use Rattle.std.specs.Prelude.{Result, Ok, Err, slice_get}
use Rattle.std.specs.Option.{option_and_then, option_or}
use Rattle.std.proofs.lemmas.Option.{slice_get_read}
use Rattle.web_reply.specs.Replies.{Reply}
use Rattle.web_reply.specs.declared.body.WholeBody.{WholeBody}
use Rattle.web_negotiate.specs.Rankings.{IsFirst}
use Rattle.web_variants.specs.Acceptance.{Headers, variant_rank}
use Rattle.web_variants.specs.FirstGreatest.{first_greatest}
use Rattle.web_variants.specs.PageReplies.{IsPageReply, StoredPage, fallback_of, page_reply}
use Rattle.web_variants.specs.VariantReplies.{reply_of}
use Rattle.web_variants.specs.declared.stored_variants.Variant.{Variant}
use Rattle.web_variants.proofs.FirstGreatestLemmas.{greatest_at, none_greatest}
use Rattle.web_variants.proofs.VariantReplyLemmas.{element_at, if_ok}

module _ {E : Type 0} (page : StoredPage) (result : Result (Reply WholeBody) E) where
  abbrev RepliesAt : ℕ → Reply WholeBody → Type 0
  RepliesAt place reply = (v : Variant) → v ≡ get_or page.variants place v → reply ≡ reply_of (Some v)

  abbrev FallsBack : Reply WholeBody → Type 0
  FallsBack reply = reply ≡ reply_of (fallback_of page)

  -- the reply at the place of the fallback
  pub fallen_back : (place : ℕ) → place < length page.variants → Some place ≡ page.fallback
      → IfOk result (λ reply. (v : Variant) → v ≡ get_or page.variants place v → reply ≡ reply_of (Some v)) → IfOk result (λ reply. reply ≡ reply_of (fallback_of page))
  fallen_back place inside is replies =
      let found = element_at page.variants place inside in
      let there : fallback_of page ≡ Some found.0 =
      ap (option_and_then (slice_get page.variants)) (sym is) ∙ slice_get_read page.variants (length page.variants) place found.0 refl inside found.1 in
      if_ok result (RepliesAt place) FallsBack (λ reply at_place. at_place found.0 found.1 ∙ ap reply_of (sym there)) replies

  -- 406, without one
  pub not_fallen_back : None ≡ page.fallback → IfOk result (λ reply. reply ≡ reply_of None) → IfOk result (λ reply. reply ≡ reply_of (fallback_of page))
  not_fallen_back is refuses =
      if_ok result (λ reply. reply ≡ reply_of None) FallsBack
      (λ reply none. none ∙ ap (λ f. reply_of (option_and_then (slice_get page.variants) f)) is) refuses

  module _ (headers : Headers) where
    abbrev Alone : Reply WholeBody → Type 0
    Alone reply = reply ≡ page_reply headers page

    abbrev or_fallback : Option Variant → Reply WholeBody
    or_fallback chosen = reply_of (option_or chosen (fallback_of page))

    module _ (place : ℕ) (first : IsFirst (variant_rank headers) page.variants place) where
      pub page_chosen : IfOk result (λ reply. (v : Variant) → v ≡ get_or page.variants place v → reply ≡ reply_of (Some v)) → IfOk result (IsPageReply headers page)
      page_chosen replies =
          let found = element_at page.variants place first.inside in
          if_ok result (RepliesAt place) (IsPageReply headers page) (λ reply is. record {
            chosen = Some found.0;
            is_greatest = (place, first, sym found.1);
            is = is found.0 found.1;
          }) replies

      pub page_chosen_alone : IfOk result (λ reply. (v : Variant) → v ≡ get_or page.variants place v → reply ≡ reply_of (Some v)) → IfOk result (λ reply. reply ≡ page_reply headers page)
      page_chosen_alone replies =
          let found = element_at page.variants place first.inside in
          let greatest : first_greatest (variant_rank headers) page.variants ≡ Some found.0 =
          greatest_at (variant_rank headers) page.variants place found.0 first ∙ ap Some (sym found.1) in
          if_ok result (RepliesAt place) Alone (λ reply is. is found.0 found.1 ∙ ap or_fallback (sym greatest)) replies

    module _ (zeros : (k : ℕ) (d : Variant) → k < length page.variants → variant_rank headers (get_or page.variants k d) ≡ 0) where
      pub page_refused : IfOk result (λ reply. reply ≡ reply_of (fallback_of page)) → IfOk result (IsPageReply headers page)
      page_refused replies = if_ok result FallsBack (IsPageReply headers page) (λ reply is. record { chosen = None; is_greatest = zeros; is = is }) replies

      pub page_refused_alone : IfOk result (λ reply. reply ≡ reply_of (fallback_of page)) → IfOk result (λ reply. reply ≡ page_reply headers page)
      page_refused_alone replies =
          if_ok result FallsBack Alone (λ reply is. is ∙ ap or_fallback (sym (none_greatest (variant_rank headers) page.variants zeros))) replies
