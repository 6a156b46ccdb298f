-- Content types that are compared as they are written.
use Rattle.std.specs.Prelude.{◌≡◌, ◌⊎◌, ℕ, Bool, false, true, List, bytes_eq, Option, None, Some}
use Rattle.http_header.specs.FieldValue.{FieldValue}

-- there is a value, and it has these bytes
abbrev pub is_written : List ℕ → Option FieldValue → Bool
is_written text None = false
is_written text (Some v) = bytes_eq v.bytes text

-- no media type is read: there is no value, or it is written so
abbrev pub NeedsNoReading : List ℕ → Option FieldValue → Type 0
NeedsNoReading text value = (value ≡ None) ⊎ (is_written text value ≡ true)
