-- An item, or `*` in its place (RFC 9110, section 12.5).
use Rattle.std.specs.Prelude.{ℕ, List, codes, Option, None, Some}
use Rattle.std.specs.Prelude.{if◌then◌else◌}
use Rattle.std.specs.Option.{option_map}
use Rattle.std.specs.Str.{bytes_eq}
use Rattle.web_texts.specs.Blanks.{trimmed}
use Rattle.web_headers.specs.declared.accepts.preferences.Preference.{Preference}
use Rattle.web_headers.specs.declared.accepts.preferences.Preference.TheVariants as preference

abbrev pub preference_of : {T : Type 0} → (List ℕ → Option T) → List ℕ → Option (Preference T)
preference_of read text =
    if bytes_eq (trimmed text) (codes "*") then Some preference.Any
    else option_map preference.Specific (read (trimmed text))

abbrev pub preference_text : {T : Type 0} → (T → List ℕ) → Preference T → List ℕ
preference_text text preference.Any = codes "*"
preference_text text (preference.Specific x) = text x

-- the same, where an item may print any text
abbrev pub preference_output : {T : Type 0} → (T → Option (List ℕ)) → Preference T
    → Option (List ℕ)
preference_output output preference.Any = Some (codes "*")
preference_output output (preference.Specific x) = output x

abbrev pub preferred_item : {T : Type 0} → Preference T → Option T
preferred_item preference.Any = None
preferred_item (preference.Specific x) = Some x
