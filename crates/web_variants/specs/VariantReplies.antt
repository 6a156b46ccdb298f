-- The reply of the variant that a client accepts most (RFC 9110, section 12.1).
use Rattle.std.specs.Prelude.{◌≡◌, ℕ, List, Option, None, Some}
use Rattle.web_reply.specs.Replies.{Reply}
use Rattle.web_reply.specs.ResponseHeads.{new_head}
use Rattle.web_reply.specs.declared.body.WholeBody.{WholeBody}
use Rattle.web_reply.specs.declared.body.WholeBody.TheVariants as whole
use Rattle.web_negotiate.specs.Rankings.{IsGreatest}
use Rattle.web_variants.specs.Acceptance.{Headers, variant_rank}
use Rattle.web_variants.specs.FirstGreatest.{first_greatest}
use Rattle.web_variants.specs.StoredVariants.{variant_headers, vary}
use Rattle.web_variants.specs.declared.stored_variants.Variant.{Variant}

-- HTTP/1.1, this status, these headers and this body
abbrev pub reply_with : ℕ → Headers → WholeBody → Reply WholeBody
reply_with status headers body =
    record { head = record (new_head status) { headers = headers }; body = body; error = None }

-- 200 with the variant, or an empty 406 where there is none
abbrev pub reply_of : Option Variant → Reply WholeBody
reply_of None = reply_with 406 vary whole.Empty
reply_of (Some v) = reply_with 200 (variant_headers v) (whole.Bytes v.body)

-- The reply is that of a variant that is acceptable, above which none is ranked and before which
-- none has the same rank; or 406 where no variant is acceptable.
pub record IsVariantReply (headers : Headers) (stored : List Variant) (reply : Reply WholeBody)
    : Type 0 where
  pub chosen : Option Variant
  pub is_greatest : IsGreatest (variant_rank headers) stored chosen
  pub is : reply ≡ reply_of chosen

-- the one such reply
abbrev pub variant_reply : Headers → List Variant → Reply WholeBody
variant_reply headers stored = reply_of (first_greatest (variant_rank headers) stored)
