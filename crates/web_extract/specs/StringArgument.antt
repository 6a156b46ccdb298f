-- The whole body as a text.
use Rattle.std.specs.Prelude.{◌≡◌, ◌^◌, ◌<◌, ℕ, Bool, true, false, List, codes, length, refl}
use Rattle.std.specs.Prelude.{Option, if◌then◌else◌, nat_lt, Result, Ok, Err, String, string_bytes}
use Rattle.std.specs.Global.{Global}
use Rattle.std.specs.Option.{option_or}
use Rattle.std.specs.Str.{IsUtf8, is_utf8}
use Rattle.std.proofs.Common.{arith}
use Rattle.std.proofs.lemmas.Bool.{ltb-true}
use Rattle.std.proofs.lemmas.Str.{IsUtf8-from_is_utf8}
use Rattle.http_header.specs.FieldValue.{FieldValue}
use Rattle.http_header.specs.HeaderMap.{Entries}
use Rattle.web_request.specs.declared.source.Mark.{Mark}
use Rattle.web_body.specs.PayloadSettings.{PayloadSettings}
use Rattle.web_body.specs.PollSteps.{GivesSome}
use Rattle.web_body.specs.declared.message_body.PayloadError.TheVariants.{Overflow}
use Rattle.web_reply.specs.Replies.{Fault}
use Rattle.web_extract.specs.CollectedResults.{map_value}
use Rattle.web_extract.specs.BodyArguments.{MeansBodyAfter, bad_request, body_after_some}
use Rattle.web_extract.specs.BodyArguments.{body_result, charset_refusal}
use Rattle.web_extract.specs.BodyArguments.{payload_fault, rest_after, type_refusal}
use Rattle.web_extract.specs.Extracts.{AllowsSome}
use Rattle.web_extract.specs.ListResults.{DelayedResult}
use denote.RawPtr.{null_ptr}

-- The bytes of a body as a text, where they are UTF-8. No `String` has 2 ^ 63 bytes or more, so a
-- body of that size, which no memory can hold, counts as one above its limit.
abbrev pub text_of : List ℕ → Result (List ℕ) Fault
text_of bytes =
    if is_utf8 bytes then
    if nat_lt (length bytes) (2 ^ 63) then Ok bytes else Err (payload_fault Overflow)
    else Err (bad_request (codes "Can not decode body"))

abbrev pub decoded : Result (List ℕ) Fault → Result (List ℕ) Fault
decoded (Ok bytes) = text_of bytes
decoded (Err e) = Err e

-- the bytes of the text, or its refusal
abbrev pub bytes_of : Result (String Global) Fault → Result (List ℕ) Fault
bytes_of x = map_value string_bytes x

-- the body as a text
abbrev pub Decodes : (ℕ → Result (List ℕ) Fault → Type 0)
    → ℕ → Result (String Global) Fault → Type 0
Decodes gives n x = (y : Result (List ℕ) Fault) × gives n y × (bytes_of x ≡ decoded y)

module _ (settings : PayloadSettings) (headers : Entries FieldValue) where
  -- the first of the tests that leave the payload
  abbrev pub string_refusal : Option Fault
  string_refusal =
      option_or (type_refusal settings.required_type headers) (charset_refusal headers)

  -- the marks that are left
  abbrev pub string_rest : List Mark → List Mark
  string_rest m = rest_after string_refusal m

  -- the bytes of the text or the refusal, and the number of polls before it
  abbrev pub string_result : List Mark → DelayedResult (List ℕ)
  string_result m =
      let body = body_result string_refusal settings.limit headers m in
      record { delay = body.delay; result = decoded body.result }

  -- After the tests of a required type and of the charset, which leave the payload, the body is
  -- collected and decoded.
  abbrev pub MeansString : List Mark → List Mark → ℕ → Result (String Global) Fault → Type 0
  MeansString m rest n x =
      Decodes (MeansBodyAfter string_refusal settings.limit headers m rest) n x

-- a text of these bytes, in some memory of that size
abbrev text_value : (bytes : List ℕ) → IsUtf8 bytes → length bytes < 2 ^ 63 → String Global
text_value bytes valid small = record {
  bytes = record {
    ptr = null_ptr;
    len = length bytes;
    cap = length bytes;
    alloc = record { memory = record { seal = tt } };
    items = bytes;
    ok = (refl, omega arith);
    small = small;
  };
  ok = ∣ valid ∣₁;
}

module _ (bytes : List ℕ) where
  text_if_small : is_utf8 bytes ≡ true → (small : Bool) → nat_lt (length bytes) (2 ^ 63) ≡ small
      → (x : Result (String Global) Fault)
      × (bytes_of x ≡ (if small then Ok bytes else Err (payload_fault Overflow)))
  text_if_small valid true small =
      let is_small = ltb-true (length bytes) (2 ^ 63) small in
      (Ok (text_value bytes (IsUtf8-from_is_utf8 bytes valid) is_small), refl)
  text_if_small valid false large = (Err (payload_fault Overflow), refl)

  text_if_valid : (valid : Bool) → is_utf8 bytes ≡ valid
      → (x : Result (String Global) Fault) × (bytes_of x ≡ (if valid then
      (if nat_lt (length bytes) (2 ^ 63) then Ok bytes else Err (payload_fault Overflow))
      else Err (bad_request (codes "Can not decode body"))))
  text_if_valid true valid = text_if_small valid (nat_lt (length bytes) (2 ^ 63)) refl
  text_if_valid false invalid = (Err (bad_request (codes "Can not decode body")), refl)

-- each result of a body is some text or refusal
some_decoded : (y : Result (List ℕ) Fault)
    → (x : Result (String Global) Fault) × (bytes_of x ≡ decoded y)
some_decoded (Ok bytes) = text_if_valid bytes (is_utf8 bytes) refl
some_decoded (Err e) = (Err e, refl)

pub decodes_some : (gives : ℕ → Result (List ℕ) Fault → Type 0) → GivesSome gives
    → GivesSome (Decodes gives)
decodes_some gives some none =
    some (λ n y h. let x = some_decoded y in none n x.0 (y, h, x.1))

pub string_some : (settings : PayloadSettings) (headers : Entries FieldValue) (m : List Mark)
    → AllowsSome (MeansString settings headers m)
string_some settings headers m none =
    body_after_some (string_refusal settings headers) settings.limit headers m
    (λ rest n y h. let x = some_decoded y in none rest n x.0 (y, h, x.1))
