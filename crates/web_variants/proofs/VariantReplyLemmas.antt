-- The reply with the variant at a place.
use Rattle.std.proofs.Common.{◌≡◌, ◌<◌, ℕ, zero, suc, List, [], ◌∷◌, length, get_or, None, Some, IfOk, refl, sym, arith, ap, ◌∙◌}
use Rattle.std.specs.Prelude.{Result, Ok, Err}
use Rattle.std.proofs.lemmas.List.{get_or_default}
use Rattle.web_reply.specs.Replies.{Reply}
use Rattle.web_reply.specs.declared.body.WholeBody.{WholeBody}
use Rattle.web_reply.specs.declared.body.WholeBody.TheVariants as whole
use Rattle.web_negotiate.specs.Rankings.{IsFirst}
use Rattle.web_variants.specs.Acceptance.{Headers, variant_rank}
use Rattle.web_variants.specs.FirstGreatest.{first_greatest}
use Rattle.web_variants.specs.StoredVariants.{variant_headers}
use Rattle.web_variants.specs.VariantReplies.{IsVariantReply, reply_of, reply_with, variant_reply}
use Rattle.web_variants.specs.declared.stored_variants.Variant.{Variant}
use Rattle.web_variants.proofs.FirstGreatestLemmas.{greatest_at, none_greatest}

-- what holds of a value holds of the result
pub if_ok : {T E : Type 0} (r : Result T E) (P Q : T → Type 0) → ((x : T) → P x → Q x) → IfOk r P → IfOk r Q
if_ok (Ok x) P Q step p = step x p
if_ok (Err e) P Q step p = tt

pub element_at : {X : Type 0} (xs : List X) (i : ℕ) → i < length xs → (x : X) × (x ≡ get_or xs i x)
element_at [] i inside = absurd (omega (arith, inside))
element_at (x ∷ xs) zero inside = (x, refl)
element_at (x ∷ xs) (suc i) inside = element_at xs i (omega (arith, inside))

pub reply_is : (stored : List Variant) (place : ℕ) (headers : Headers) (body : List ℕ) (x v : Variant) → place < length stored
    → ((w : Variant) → w ≡ get_or stored place w → headers ≡ variant_headers w) → x ≡ get_or stored place x → body ≡ x.body
    → v ≡ get_or stored place v → reply_with 200 headers (whole.Bytes body) ≡ reply_of (Some v)
reply_is stored place headers body x v inside are is_x is_body is_v =
    let same : x ≡ v = is_x ∙ (get_or_default stored place x v inside ∙ sym is_v) in
    ap (λ h. reply_with 200 h (whole.Bytes body)) (are v is_v)
    ∙ ap (λ b. reply_with 200 (variant_headers v) (whole.Bytes b)) (is_body ∙ ap (λ w. w.body) same)

module _ {E : Type 0} (headers : Headers) (stored : List Variant) (result : Result (Reply WholeBody) E) where
  abbrev Alone : Reply WholeBody → Type 0
  Alone reply = reply ≡ variant_reply headers stored

  module _ (place : ℕ) (first : IsFirst (variant_rank headers) stored place) where
    abbrev RepliesAt : Reply WholeBody → Type 0
    RepliesAt reply = (v : Variant) → v ≡ get_or stored place v → reply ≡ reply_of (Some v)

    pub chosen_reply : IfOk result (λ reply. (v : Variant) → v ≡ get_or stored place v → reply ≡ reply_of (Some v)) → IfOk result (IsVariantReply headers stored)
    chosen_reply replies =
        let found = element_at stored place first.inside in
        if_ok result RepliesAt (IsVariantReply headers stored) (λ reply is. record {
          chosen = Some found.0;
          is_greatest = (place, first, sym found.1);
          is = is found.0 found.1;
        }) replies

    pub chosen_alone : IfOk result (λ reply. (v : Variant) → v ≡ get_or stored place v → reply ≡ reply_of (Some v)) → IfOk result (λ reply. reply ≡ variant_reply headers stored)
    chosen_alone replies =
        let found = element_at stored place first.inside in
        let greatest : first_greatest (variant_rank headers) stored ≡ Some found.0 =
        greatest_at (variant_rank headers) stored place found.0 first ∙ ap Some (sym found.1) in
        if_ok result RepliesAt Alone (λ reply is. is found.0 found.1 ∙ ap reply_of (sym greatest)) replies

  module _ (zeros : (k : ℕ) (d : Variant) → k < length stored → variant_rank headers (get_or stored k d) ≡ 0) where
    abbrev Refuses : Reply WholeBody → Type 0
    Refuses reply = reply ≡ reply_of None

    pub refused_reply : IfOk result (λ reply. reply ≡ reply_of None) → IfOk result (IsVariantReply headers stored)
    refused_reply replies = if_ok result Refuses (IsVariantReply headers stored) (λ reply is. record { chosen = None; is_greatest = zeros; is = is }) replies

    pub refused_alone : IfOk result (λ reply. reply ≡ reply_of None) → IfOk result (λ reply. reply ≡ variant_reply headers stored)
    refused_alone replies = if_ok result Refuses Alone (λ reply is. is ∙ ap reply_of (sym (none_greatest (variant_rank headers) stored zeros))) replies
