-- A body's value, or none.
use Rattle.std.proofs.Common.{◌≡◌, ℕ, List, Bool, true, false, if◌then◌else◌, refl}
use Rattle.std.specs.Prelude.{Option, None, Some, Ok, Err, IsUtf8}
use Rattle.std.specs.Str.{is_utf8}
use Rattle.std.proofs.lemmas.Str.{is_utf8-from_IsUtf8, IsUtf8-from_is_utf8}
use Rattle.serde_json.specs.Data.{Data}
use Rattle.serde_json.specs.Read.{read}
use Rattle.web_codec.specs.declared.faults.JsonFault.TheVariants.{Syntax}
use Rattle.web_codec.specs.JsonValues.{value_or_syntax, body_value}

chosen : (b : Bool) (o : Option Data) (d : Data) → b ≡ true → o ≡ Some d → Ok d ≡ value_or_syntax (if b then o else None)
chosen true o d e f = rw f refl
chosen false o d e f = absurd (cc)

none_chosen : (b : Bool) (o : Option Data) → (b ≡ true → o ≡ None) → Err Syntax ≡ value_or_syntax (if b then o else None)
none_chosen true o f = rw (f refl) refl
none_chosen false o f = refl

pub value_read : (bytes : List ℕ) (d : Data) → IsUtf8 bytes → read bytes ≡ Some d → Ok d ≡ value_or_syntax (body_value bytes)
value_read bytes d utf8 e = chosen (is_utf8 bytes) (read bytes) d (is_utf8-from_IsUtf8 bytes utf8) e

pub value_refused : (bytes : List ℕ) → (IsUtf8 bytes → read bytes ≡ None) → Err Syntax ≡ value_or_syntax (body_value bytes)
value_refused bytes none = none_chosen (is_utf8 bytes) (read bytes) (λ t. none (IsUtf8-from_is_utf8 bytes t))
