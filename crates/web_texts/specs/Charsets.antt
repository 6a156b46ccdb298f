-- Names of charsets, which are kept in ASCII upper case. Every text is one.
use Rattle.std.specs.Prelude.{ℕ, List, Option, Some}
use Rattle.std.specs.Str.{str_to_ascii_uppercase}

abbrev pub charset_name_of : List ℕ → Option (List ℕ)
charset_name_of text = Some (str_to_ascii_uppercase text)
