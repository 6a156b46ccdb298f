-- Content codings (RFC 9110, section 8.4.1).
use Rattle.std.specs.Prelude.{ℕ, List, codes, Option, None, Some, if◌then◌else◌, ⊤}
use Rattle.std.specs.Str.{str_eq_ignore_ascii_case}
use Rattle.web_headers.specs.declared.codings.ContentEncoding.{ContentEncoding}
use Rattle.web_headers.specs.declared.codings.ContentEncoding.TheVariants as coding
use Rattle.web_headers.specs.declared.codings.Encoding.{Encoding}
use Rattle.web_headers.specs.declared.codings.Encoding.TheVariants as encoding

-- the codings that are known, in any ASCII case
abbrev pub known_coding : List ℕ → Option ContentEncoding
known_coding text =
    if str_eq_ignore_ascii_case text (codes "identity") then Some coding.Identity
    else if str_eq_ignore_ascii_case text (codes "br") then Some coding.Brotli
    else if str_eq_ignore_ascii_case text (codes "deflate") then Some coding.Deflate
    else if str_eq_ignore_ascii_case text (codes "gzip") then Some coding.Gzip
    else if str_eq_ignore_ascii_case text (codes "zstd") then Some coding.Zstd
    else None

abbrev pub known_or : List ℕ → Option ContentEncoding → Encoding
known_or text None = encoding.Unknown text
known_or text (Some c) = encoding.Known c

-- a coding that is known, in which no text is kept
abbrev pub TakesNoMemory : Encoding → Type 0
TakesNoMemory (encoding.Known c) = ⊤
TakesNoMemory (encoding.Unknown text) = ⊥

-- Every other text is an unknown coding, also one that is no token, which the RFC asks for.
abbrev pub encoding_of : List ℕ → Option Encoding
encoding_of text = Some (known_or text (known_coding text))

abbrev pub coding_text : ContentEncoding → List ℕ
coding_text coding.Identity = codes "identity"
coding_text coding.Brotli = codes "br"
coding_text coding.Deflate = codes "deflate"
coding_text coding.Gzip = codes "gzip"
coding_text coding.Zstd = codes "zstd"

abbrev pub encoding_text : Encoding → List ℕ
encoding_text (encoding.Known c) = coding_text c
encoding_text (encoding.Unknown text) = text
