-- Bodies that are decoded as texts.
use Rattle.std.proofs.Common.{◌∙◌, ap, ◌≡◌, ◌^◌, ℕ, Bool, true, false, List, length, refl, subst, arith, codes}
use Rattle.std.specs.Prelude.{Option, None, Some, Result, Ok, Err, nat_lt, if◌then◌else◌, string_bytes, String}
use Rattle.std.specs.Global.{Global}
use Rattle.std.specs.Str.{IsUtf8, is_utf8}
use Rattle.std.proofs.lemmas.Bool.{lt-ltb}
use Rattle.std.proofs.lemmas.Str.{IsUtf8-from_is_utf8, IsUtf8-string_bytes, is_utf8-from_IsUtf8}
use Rattle.std.specs.Option.{option_or}
use Rattle.http_header.specs.FieldValue.{FieldValue}
use Rattle.http_header.specs.HeaderMap.{Entries}
use Rattle.web_texts.specs.MediaTypes.{MediaType}
use Rattle.web_request.specs.declared.source.Mark.{Mark}
use Rattle.web_body.specs.PayloadSettings.{PayloadSettings}
use Rattle.web_body.specs.declared.message_body.PayloadError.TheVariants.{Overflow}
use Rattle.web_reply.specs.Replies.{Fault}
use Rattle.web_extract.specs.BodyArguments.{MeansBodyAfter, bad_request, charset_refusal, payload_fault, type_refusal}
use Rattle.web_extract.specs.BytesArgument.{MeansBytes}
use Rattle.web_extract.specs.Extracts.{Extracts}
use Rattle.web_extract.specs.StringArgument.{Decodes, MeansString, string_refusal, text_of}

own_text : (s : String Global) → ◌≡◌ {A = Result (List ℕ) Fault} (Ok (string_bytes s)) (text_of (string_bytes s))
own_text s =
    let valid = is_utf8-from_IsUtf8 (string_bytes s) (IsUtf8-string_bytes s) in
    let len = s.bytes.ok.0 in
    let within = s.bytes.ok.1 in
    let small = s.bytes.small in
    let size : nat_lt (length (string_bytes s)) (2 ^ 63) ≡ true = lt-ltb (length (string_bytes s)) (2 ^ 63) (omega (arith, len, within, small)) in
    rw (valid, size) refl

-- the bytes of a text are the text of those bytes
pub text_read : (s : String Global) (b : List ℕ) → string_bytes s ≡ b → ◌≡◌ {A = Result (List ℕ) Fault} (Ok (string_bytes s)) (text_of b)
text_read s b is = subst (λ (z : List ℕ). ◌≡◌ {A = Result (List ℕ) Fault} (Ok (string_bytes s)) (text_of z)) is (own_text s)

refused_at : (b : List ℕ) (valid : Bool) → is_utf8 b ≡ valid → (IsUtf8 b → ⊥)
    → Err (bad_request (codes "Can not decode body")) ≡ (if valid then (if nat_lt (length b) (2 ^ 63) then Ok b else Err (payload_fault Overflow)) else Err (bad_request (codes "Can not decode body")))
refused_at b true valid not = absurd (not (IsUtf8-from_is_utf8 b valid))
refused_at b false valid not = refl

pub text_refused : (b : List ℕ) (e : Fault) → (IsUtf8 b → ⊥) → e ≡ bad_request (codes "Can not decode body") → ◌≡◌ {A = Result (List ℕ) Fault} (Err e) (text_of b)
text_refused b e not is = rw is (refused_at b (is_utf8 b) refl not)

-- a future that decodes what another gives, which gives what is allowed
pub extracts_decoded : (means : List Mark → List Mark → ℕ → Result (List ℕ) Fault → Type 0) (gives : ℕ → Result (List ℕ) Fault → Type 0) (old new : Option (List Mark))
    → Extracts means gives old new → Extracts (λ m rest n x. Decodes (means m rest) n x) (λ n x. Decodes gives n x) old new
extracts_decoded means gives None new h = tt
extracts_decoded means gives (Some m) new h = (h.0, h.1, λ n x d. (d.0, h.2 n d.0 d.1, d.2))

-- the settings under which a body was begun are those of the request
module _ (chosen settings : PayloadSettings) (same : chosen ≡ settings) (required : Option MediaType) (is_required : required ≡ chosen.required_type)
    (limit : ℕ) (is_limit : limit ≡ chosen.limit) (headers : Entries FieldValue) (refusal : Option Fault) (old new : Option (List Mark)) where
  pub bytes_extracted : refusal ≡ type_refusal required headers → (gives : ℕ → Result (List ℕ) Fault → Type 0)
      → Extracts (λ m rest n x. MeansBodyAfter refusal limit headers m rest n x) gives old new
      → Extracts (λ m rest n x. MeansBytes settings headers m rest n x) gives old new
  bytes_extracted is gives h =
      let tested : refusal ≡ type_refusal settings.required_type headers = is ∙ ap (λ r. type_refusal r headers) (is_required ∙ ap (λ s. s.required_type) same) in
      let limited : limit ≡ settings.limit = is_limit ∙ ap (λ s. s.limit) same in
      subst (λ (r : Option Fault). Extracts (λ m rest n x. MeansBodyAfter r settings.limit headers m rest n x) gives old new) tested
      (subst (λ (l : ℕ). Extracts (λ m rest n x. MeansBodyAfter refusal l headers m rest n x) gives old new) limited h)

  pub string_extracted : refusal ≡ option_or (type_refusal required headers) (charset_refusal headers) → (gives : ℕ → Result (List ℕ) Fault → Type 0)
      → Extracts (λ m rest n x. MeansBodyAfter refusal limit headers m rest n x) gives old new
      → Extracts (λ m rest n x. MeansString settings headers m rest n x) (λ n x. Decodes gives n x) old new
  string_extracted is gives h =
      let tested : refusal ≡ string_refusal settings headers = is ∙ ap (λ r. option_or (type_refusal r headers) (charset_refusal headers)) (is_required ∙ ap (λ s. s.required_type) same) in
      let limited : limit ≡ settings.limit = is_limit ∙ ap (λ s. s.limit) same in
      extracts_decoded (MeansBodyAfter (string_refusal settings headers) settings.limit headers) gives old new
      (subst (λ (r : Option Fault). Extracts (λ m rest n x. MeansBodyAfter r settings.limit headers m rest n x) gives old new) tested
      (subst (λ (l : ℕ). Extracts (λ m rest n x. MeansBodyAfter refusal l headers m rest n x) gives old new) limited h))
