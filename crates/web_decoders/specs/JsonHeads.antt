-- What the head of a request says of its JSON body.
use Rattle.std.specs.Prelude.{ℕ, Bool, nat_lt, if◌then◌else◌}
use Rattle.std.specs.Prelude.{Option, None, Some}
use Rattle.std.specs.Option.{option_and_then, option_or}
use Rattle.http_header.specs.FieldValue.{FieldValue}
use Rattle.http_header.specs.HeaderMap.{Entries, get}
use Rattle.web_texts.specs.Blanks.{trimmed}
use Rattle.web_texts.specs.Digits.{digits_up_to}
use Rattle.web_body.specs.declared.message_body.PayloadError.TheVariants.{UnsupportedEncoding}
use Rattle.web_body.specs.declared.errors.json_error.JsonPayloadError.{JsonPayloadError}
use Rattle.web_body.specs.declared.errors.json_error.JsonPayloadError.TheVariants as json
use Rattle.web_body.specs.HeadTests.{content_length, content_encoding, is_coded_of}
use Rattle.web_decoders.specs.declared.json_head.JsonHead.{JsonHead}

-- the declared length: digits between blanks, of at most a usize
abbrev pub length_in : FieldValue → Option ℕ
length_in v = digits_up_to 18446744073709551615 (trimmed v.bytes)

-- the head of a body whose media type may be read or not, before any limit was set
abbrev pub json_head : Bool → Entries FieldValue → JsonHead
json_head is_read headers = record {
  is_read = is_read;
  length = option_and_then length_in (get headers content_length);
  is_coded = is_coded_of (get headers content_encoding);
  exceeded = None;
}

abbrev pub length_above : Option ℕ → ℕ → Option (ℕ × ℕ)
length_above None limit = None
length_above (Some length) limit = if nat_lt limit length then Some (length, limit) else None

-- the same head under a limit; a limit that the length exceeded before counts on
abbrev pub head_under : ℕ → JsonHead → JsonHead
head_under limit h = record {
  is_read = h.is_read;
  length = h.length;
  is_coded = h.is_coded;
  exceeded = option_or h.exceeded (length_above h.length limit);
}

abbrev pub json_coding_refusal : Bool → Option JsonPayloadError
json_coding_refusal is_coded =
    if is_coded then Some (json.Payload UnsupportedEncoding) else None

abbrev pub length_or_coding : Option (ℕ × ℕ) → Bool → Option JsonPayloadError
length_or_coding None is_coded = json_coding_refusal is_coded
length_or_coding (Some p) is_coded = Some (json.OverflowKnownLength p.0 p.1)

-- the first test that applies: of the media type, of the length under the limit, of the coding
abbrev pub json_refusal : JsonHead → Option JsonPayloadError
json_refusal h =
    if h.is_read then length_or_coding h.exceeded h.is_coded else Some json.ContentType
