-- A page of variants, and the reply to a request for it, with a variant for a client that accepts
-- none of them (RFC 9110, section 12.5).
use Rattle.std.specs.Prelude.{◌≡◌, ℕ, List, length, nat_lt, slice_get, if◌then◌else◌}
use Rattle.std.specs.Prelude.{Option, None, Some, Result, Ok, Err}
use Rattle.std.specs.Option.{option_and_then, option_or}
use Rattle.web_reply.specs.Replies.{Reply}
use Rattle.web_reply.specs.declared.body.WholeBody.{WholeBody}
use Rattle.web_negotiate.specs.Rankings.{IsGreatest}
use Rattle.web_variants.specs.Acceptance.{Headers, variant_rank}
use Rattle.web_variants.specs.FirstGreatest.{first_greatest}
use Rattle.web_variants.specs.VariantReplies.{reply_of}
use Rattle.web_variants.specs.declared.page_fault.NoSuchVariant.{NoSuchVariant}
use Rattle.web_variants.specs.declared.stored_variants.Variant.{Variant}

-- the variants, and the place of the one that is sent where none is acceptable
pub record StoredPage : Type 0 where
  pub variants : List Variant
  pub fallback : Option ℕ

-- a page whose fallback is the variant at this place, where there is one
abbrev pub with_fallback : List Variant → ℕ → Result StoredPage NoSuchVariant
with_fallback variants place =
    if nat_lt place (length variants)
    then Ok (record { variants = variants; fallback = Some place })
    else Err (record { place = place })

-- the variant that is sent where none is acceptable
abbrev pub fallback_of : StoredPage → Option Variant
fallback_of page = option_and_then (slice_get page.variants) page.fallback

-- The reply is that of a variant that is acceptable, above which none is ranked and before which
-- none has the same rank. Where no variant is acceptable, it is that of the fallback, or 406.
pub record IsPageReply (headers : Headers) (page : StoredPage) (reply : Reply WholeBody)
    : Type 0 where
  pub chosen : Option Variant
  pub is_greatest : IsGreatest (variant_rank headers) page.variants chosen
  pub is : reply ≡ reply_of (option_or chosen (fallback_of page))

-- the one such reply
abbrev pub page_reply : Headers → StoredPage → Reply WholeBody
page_reply headers page =
    reply_of (option_or (first_greatest (variant_rank headers) page.variants) (fallback_of page))
