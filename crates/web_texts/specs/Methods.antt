-- Methods (RFC 9110, section 9.1).
use Rattle.std.specs.Prelude.{ℕ, List, Option, None, Some, if◌then◌else◌}
use Rattle.web_texts.specs.Tokens.{is_token}

-- every token is a method, and is kept as it stands
abbrev pub method_of : List ℕ → Option (List ℕ)
method_of text = if is_token text then Some text else None
