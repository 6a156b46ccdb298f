-- Which media types are read as JSON.
use Rattle.std.specs.Prelude.{◌≡◌, Bool, true, false, ◌||◌, bytes_eq, codes}
use Rattle.std.specs.Prelude.{List, ℕ, Option, None, Some, Result, Ok, Err}
use Rattle.http_header.specs.FieldValue.{FieldValue}
use Rattle.http_header.specs.HeaderMap.{Entries}
use Rattle.web_texts.specs.MediaTypes.{MediaType}
use Rattle.web_texts.specs.declared.errors.ContentTypeError.{ContentTypeError}
use Rattle.web_codec.specs.Answers.{OrAll}
use Rattle.web_request.specs.MessageFields.{mime_type_of}

-- what a predicate may answer for a media type
abbrev pub Predicate : Type 0 → Type 1
Predicate P = P → MediaType → Bool → Type 0

abbrev pub is_json_suffix : Option (List ℕ) → Bool
is_json_suffix None = false
is_json_suffix (Some suffix) = bytes_eq suffix (codes "json")

-- the subtype or the suffix is that of JSON
abbrev pub is_json_type : MediaType → Bool
is_json_type m = bytes_eq m.subtype (codes "json") || is_json_suffix m.suffix

-- where a media type is none of JSON, the predicate decides, if there is one
abbrev pub AllowsOther : {P : Type 0} → Predicate P → Option P → MediaType → Bool → Type 0
AllowsOther allows None m answer = answer ≡ false
AllowsOther allows (Some p) m answer = OrAll (allows p m) answer

abbrev pub AllowsBy : {P : Type 0}
    → Predicate P → Option P → MediaType → Bool → Bool → Type 0
AllowsBy allows predicate m true answer = answer ≡ true
AllowsBy allows predicate m false answer = AllowsOther allows predicate m answer

-- a media type of JSON, or one that the predicate allows; none where it cannot be read
abbrev pub AllowsRead : {P : Type 0} → Predicate P → Option P
    → Result (Option MediaType) ContentTypeError → Bool → Type 0
AllowsRead allows predicate (Ok (Some m)) answer =
    AllowsBy allows predicate m (is_json_type m) answer
AllowsRead allows predicate (Ok None) answer = answer ≡ false
AllowsRead allows predicate (Err e) answer = answer ≡ false

-- Whether a body with these headers may be read as JSON. Where no media type is required, the
-- predicate is not asked.
abbrev pub ReadsType : {P : Type 0} → Predicate P → Option P → Bool → Entries FieldValue
    → Bool → Type 0
ReadsType allows predicate false headers answer = answer ≡ true
ReadsType allows predicate true headers answer =
    AllowsRead allows predicate (mime_type_of headers) answer
