-- Which media types are read as JSON, where the predicate is a function.
use Rattle.std.specs.Prelude.{Bool, true, false, ◌||◌, refl}
use Rattle.std.specs.Prelude.{Option, None, Some, Result, Ok, Err}
use Rattle.http_header.specs.FieldValue.{FieldValue}
use Rattle.http_header.specs.HeaderMap.{Entries}
use Rattle.web_texts.specs.MediaTypes.{MediaType}
use Rattle.web_texts.specs.declared.errors.ContentTypeError.{ContentTypeError}
use Rattle.web_request.specs.MessageFields.{mime_type_of}
use Rattle.web_codec.specs.Answers.{or_all_some}
use Rattle.web_decoders.specs.TypePredicates.{AllowsBy, AllowsOther, AllowsRead, Predicate}
use Rattle.web_decoders.specs.TypePredicates.{ReadsType, is_json_type}
use Rattle.web_extract.specs.Extracts.{Possible}

-- where a media type is none of JSON, the predicate decides, if there is one
abbrev pub allows_other : {P : Type 0} → (P → MediaType → Bool) → Option P → MediaType → Bool
allows_other allowed None m = false
allows_other allowed (Some p) m = allowed p m

-- a media type of JSON, or one that the predicate allows; none where it cannot be read
abbrev pub allows_read : {P : Type 0} → (P → MediaType → Bool) → Option P
    → Result (Option MediaType) ContentTypeError → Bool
allows_read allowed predicate (Ok (Some m)) = is_json_type m || allows_other allowed predicate m
allows_read allowed predicate (Ok None) = false
allows_read allowed predicate (Err e) = false

-- whether a body with these headers is read as JSON
abbrev pub reads_type : {P : Type 0} → (P → MediaType → Bool) → Option P → Bool
    → Entries FieldValue → Bool
reads_type allowed predicate false headers = true
reads_type allowed predicate true headers =
    allows_read allowed predicate (mime_type_of headers)

-- It is not the case that neither answer is allowed.
other_some : {P : Type 0} (allows : Predicate P) (predicate : Option P) (m : MediaType)
    → Possible (AllowsOther allows predicate m)
other_some allows None m none = none false refl
other_some allows (Some p) m none = or_all_some (allows p m) false none

by_some : {P : Type 0} (allows : Predicate P) (predicate : Option P) (m : MediaType) (is : Bool)
    → Possible (AllowsBy allows predicate m is)
by_some allows predicate m true none = none true refl
by_some allows predicate m false none = other_some allows predicate m none

read_some : {P : Type 0} (allows : Predicate P) (predicate : Option P)
    (x : Result (Option MediaType) ContentTypeError)
    → Possible (AllowsRead allows predicate x)
read_some allows predicate (Ok (Some m)) none = by_some allows predicate m (is_json_type m) none
read_some allows predicate (Ok None) none = none false refl
read_some allows predicate (Err e) none = none false refl

pub reads_type_some : {P : Type 0} (allows : Predicate P) (predicate : Option P)
    (required : Bool) (headers : Entries FieldValue)
    → Possible (ReadsType allows predicate required headers)
reads_type_some allows predicate false headers none = none true refl
reads_type_some allows predicate true headers none =
    read_some allows predicate (mime_type_of headers) none
