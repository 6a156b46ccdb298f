-- The arguments of `exchange`, `header` and `param` lines.
use Rattle.std.specs.Prelude.{ℕ, ◌==◌, Bool, not, ◌&&◌, List, [], length, Option}
use Rattle.std.specs.Prelude.{None, Some, is_some, unwrap_or, nat_lt, nat_le, if◌then◌else◌}
use Rattle.std.specs.List.{list_all, list_any, before_first, after_first}
use Rattle.std.specs.Str.{is_utf8}
use Rattle.http_header.specs.FieldValue.{FieldValue, plain_value}
use Rattle.http_header.specs.Token.{is_token_byte, is_value_byte, lowercase}
use Rattle.web_texts.specs.Pairs.{Pair}
use Rattle.cli_script.specs.Line.{is_space}
use Rattle.web_request.specs.Head.{Target}
use Rattle.cli_script.specs.Targets.{target_of}
use Rattle.cli_script.specs.declared.reason.LineFault.{LineFault}
use Rattle.cli_script.specs.declared.reason.LineFault.TheVariants as reason

-- the text before the first space, and the text after it
abbrev pub before_space : List ℕ → List ℕ
before_space text = before_first is_space text

abbrev pub after_space : List ℕ → List ℕ
after_space text = after_first is_space text

abbrev pub has_space : List ℕ → Bool
has_space text = list_any is_space text

-- a token (RFC 9110, section 9.1)
unfoldable pub is_method : List ℕ → Bool
is_method text = nat_lt 0 (length text) && list_all is_token_byte text

-- why TARGET is faulty
abbrev pub target_fault : Option Target → Option LineFault
target_fault target = if is_some target then None else Some reason.BadExchange

-- METHOD, one space and TARGET, which has no space
unfoldable pub is_request : List ℕ → Bool
is_request text =
    has_space text && (not (has_space (after_space text)) && is_method (before_space text))

-- why the argument of an `exchange` line is faulty
abbrev pub request_fault : List ℕ → Option LineFault
request_fault text =
    if is_request text then target_fault (target_of (after_space text))
    else Some reason.BadExchange

-- the parts of TARGET, where it has a valid form
abbrev pub request_target : List ℕ → Target
request_target text =
    unwrap_or (target_of (after_space text))
    (record { scheme = None; authority = None; path_and_query = [] })

-- the name of a field, in any case (RFC 9110, section 5.1)
unfoldable pub is_field_name : List ℕ → Bool
is_field_name text = is_method text && nat_le (length text) 65535

-- the value of a field (RFC 9110, section 5.5)
unfoldable pub is_field_value : List ℕ → Bool
is_field_value text = list_all is_value_byte text

-- NAME, and VALUE after the first space, which is empty where there is none
abbrev pub is_header : List ℕ → Bool
is_header text = is_field_name (before_space text) && is_field_value (after_space text)

-- NAME in lower case, and VALUE
abbrev pub header_of : List ℕ → List ℕ × FieldValue
header_of text = (lowercase (before_space text), plain_value (after_space text))

-- NAME, one space and VALUE, which may be empty
unfoldable pub is_param : List ℕ → Bool
is_param text =
    has_space text
    && (not (length (before_space text) == 0)
    && (is_utf8 (before_space text) && is_utf8 (after_space text)))

-- NAME and VALUE
abbrev pub param_of : List ℕ → Pair
param_of text = record { name = before_space text; value = after_space text }
