-- What the setters of headers come to: the headers as they are then, or why a header is refused.
use Rattle.std.specs.Prelude.{◌≡◌, ℕ, ◌+◌, ◌^◌, Bool, ◌&&◌, ◌||◌, nat_le, List, [], ◌∷◌}
use Rattle.std.specs.Prelude.{length, is_none, ⊤}
use Rattle.std.specs.Prelude.{Result, Ok, Err, if◌then◌else◌}
use Rattle.std.specs.List.{list_all}
use Rattle.http_header.specs.Token.{is_value_byte, lowercase}
use Rattle.http_header.specs.FieldName.{is_field_name}
use Rattle.http_header.specs.FieldValue.{FieldValue}
use Rattle.http_header.specs.HeaderMap.{Entries, append, index_of, insert, value_count}
use Rattle.web_reply.specs.declared.header_setting.Placing.{Placing}
use Rattle.web_reply.specs.declared.header_setting.Placing.TheVariants.{Replace, Append}
use Rattle.web_texts.specs.declared.memory.Fail.{Fail}
use Rattle.web_texts.specs.declared.memory.Fail.TheVariants as fail
use Rattle.web_reply.specs.declared.errors.cause.HttpError.{HttpError}
use Rattle.web_reply.specs.declared.errors.cause.HttpError.TheVariants.{Name, Value, MaxSize}

-- the names of headers, each with its values
abbrev pub Headers : Type 0
Headers = Entries FieldValue

-- a value may hold these bytes (RFC 9110, section 5.5)
abbrev pub is_field_value : List ℕ → Bool
is_field_value bytes = list_all is_value_byte bytes

abbrev pub is_full_of_values : Headers → Bool
is_full_of_values m = nat_le (2 ^ 64) (value_count m + 1)

abbrev pub is_full_of_names : Headers → Bool
is_full_of_names m = nat_le 24576 (length m) || is_full_of_values m

-- the name is new and there is no room for it
abbrev pub refuses_insert : Headers → List ℕ → Bool
refuses_insert m name = is_none (index_of m name) && is_full_of_names m

-- there is no room for the value, or for its name
abbrev pub refuses_append : Headers → List ℕ → Bool
refuses_append m name = is_full_of_values m || refuses_insert m name

-- the header in place of those of its name, or after them
abbrev pub place : Placing → List ℕ → FieldValue → Headers → Result Headers HttpError
place Replace name value m =
    if refuses_insert m name then Err MaxSize else Ok (insert m name value)
place Append name value m =
    if refuses_append m name then Err MaxSize else Ok (append m name value)

-- a header of a name that is known, or the refusal of its value
abbrev pub valued : List ℕ → FieldValue → Result (List ℕ × FieldValue) HttpError
valued name value = if is_field_value value.bytes then Ok (name, value) else Err Value

-- a header, or the refusal of its name, or of its value
abbrev pub named : List ℕ → FieldValue → Result (List ℕ × FieldValue) HttpError
named name value = if is_field_name name then valued (lowercase name) value else Err Name

-- the header, where it is none that was refused, in place of those of its name, or after them
abbrev pub place_one : Placing → Result (List ℕ × FieldValue) HttpError
    → Headers → Result Headers HttpError
place_one placing (Ok header) m = place placing header.0 header.1 m
place_one placing (Err e) m = Err e

-- the headers one by one, up to the first that has no room
abbrev pub and_place_each :
    Placing → Result Headers HttpError → List (List ℕ × FieldValue) → Result Headers HttpError
and_place_each placing (Err e) headers = Err e
and_place_each placing (Ok m) [] = Ok m
and_place_each placing (Ok m) (h ∷ more) = and_place_each placing (place placing h.0 h.1 m) more

abbrev pub place_each :
    Placing → List (List ℕ × FieldValue) → Headers → Result Headers HttpError
place_each placing headers m = and_place_each placing (Ok m) headers

-- What a call that takes such a step returns, and what it leaves: the new headers, or the old ones
-- with the refusal, or where allocation failed.
abbrev pub StepsTo : Result Headers HttpError → Headers
    → Result (Unit {0}) (Fail HttpError) → Headers → Type 0
StepsTo step old (Ok done) new = step ≡ Ok new
StepsTo step old (Err fail.NoMemory) new = new ≡ old
StepsTo step old (Err (fail.Of e)) new = (step ≡ Err e) × (new ≡ old)

-- the same of a call that takes several steps, which may leave any headers where it fails
abbrev pub AllStepTo : Result Headers HttpError
    → Result (Unit {0}) (Fail HttpError) → Headers → Type 0
AllStepTo steps (Ok done) new = steps ≡ Ok new
AllStepTo steps (Err fail.NoMemory) new = ⊤
AllStepTo steps (Err (fail.Of e)) new = steps ≡ Err e
