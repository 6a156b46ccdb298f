-- Cache directives (RFC 9111, section 5.2).
use Rattle.std.specs.Prelude.{ℕ, List, ◌∷◌, ◌++◌, codes, decimal, Option, None, Some}
use Rattle.std.specs.Prelude.{if◌then◌else◌, ⊤}
use Rattle.std.specs.Option.{option_map}
use Rattle.std.specs.Str.{bytes_eq}
use Rattle.web_texts.specs.Bytes.{unquoted}
use Rattle.web_texts.specs.Cut.{split_once}
use Rattle.web_texts.specs.Digits.{digits_up_to}
use Rattle.web_texts.specs.PieceItems.{is_empty}
use Rattle.web_headers.specs.declared.cache_control.CacheDirective.{CacheDirective}
use Rattle.web_headers.specs.declared.cache_control.CacheDirective.TheVariants as directive

-- The names are compared with case, which the RFC does not.
abbrev pub plain_directive : List ℕ → Option CacheDirective
plain_directive text =
    if bytes_eq text (codes "no-cache") then Some directive.NoCache
    else if bytes_eq text (codes "no-store") then Some directive.NoStore
    else if bytes_eq text (codes "no-transform") then Some directive.NoTransform
    else if bytes_eq text (codes "only-if-cached") then Some directive.OnlyIfCached
    else if bytes_eq text (codes "must-revalidate") then Some directive.MustRevalidate
    else if bytes_eq text (codes "public") then Some directive.Public
    else if bytes_eq text (codes "private") then Some directive.Private
    else if bytes_eq text (codes "proxy-revalidate") then Some directive.ProxyRevalidate
    else None

-- a directive in which no text is kept
abbrev pub TakesNoMemory : CacheDirective → Type 0
TakesNoMemory directive.NoCache = ⊤
TakesNoMemory directive.NoStore = ⊤
TakesNoMemory directive.NoTransform = ⊤
TakesNoMemory directive.OnlyIfCached = ⊤
TakesNoMemory (directive.MaxAge n) = ⊤
TakesNoMemory (directive.MaxStale n) = ⊤
TakesNoMemory (directive.MinFresh n) = ⊤
TakesNoMemory directive.MustRevalidate = ⊤
TakesNoMemory directive.Public = ⊤
TakesNoMemory directive.Private = ⊤
TakesNoMemory directive.ProxyRevalidate = ⊤
TakesNoMemory (directive.SMaxAge n) = ⊤
TakesNoMemory (directive.Extension name argument) = ⊥

-- up to 2^32 - 1
abbrev pub seconds_of : List ℕ → Option ℕ
seconds_of text = digits_up_to 4294967295 text

abbrev pub argument_directive : List ℕ → List ℕ → Option CacheDirective
argument_directive name argument =
    if bytes_eq name (codes "max-age") then option_map directive.MaxAge (seconds_of argument)
    else if bytes_eq name (codes "max-stale")
    then option_map directive.MaxStale (seconds_of argument)
    else if bytes_eq name (codes "min-fresh")
    then option_map directive.MinFresh (seconds_of argument)
    else if bytes_eq name (codes "s-maxage") then option_map directive.SMaxAge (seconds_of argument)
    else Some (directive.Extension name (Some argument))

-- The double quotes at both ends of an argument are taken off, however many there are. The RFC has
-- one pair of them, and backslashes within.
abbrev pub named_directive : List ℕ → Option (List ℕ × List ℕ) → Option CacheDirective
named_directive text None = Some (directive.Extension text None)
named_directive text (Some parts) =
    if is_empty parts.1 then None else argument_directive parts.0 (unquoted parts.1)

abbrev pub plain_or_named : List ℕ → Option CacheDirective → Option CacheDirective
plain_or_named text (Some plain) = Some plain
plain_or_named text None = named_directive text (split_once 61 text)

-- a name, or a name and after its first `=` an argument
abbrev pub cache_directive_of : List ℕ → Option CacheDirective
cache_directive_of text =
    if is_empty text then None else plain_or_named text (plain_directive text)

abbrev pub extension_text : List ℕ → Option (List ℕ) → List ℕ
extension_text name None = name
extension_text name (Some argument) = name ++ 61 ∷ argument

-- never quoted
abbrev pub cache_directive_text : CacheDirective → List ℕ
cache_directive_text directive.NoCache = codes "no-cache"
cache_directive_text directive.NoStore = codes "no-store"
cache_directive_text directive.NoTransform = codes "no-transform"
cache_directive_text directive.OnlyIfCached = codes "only-if-cached"
cache_directive_text (directive.MaxAge n) = codes "max-age=" ++ decimal n
cache_directive_text (directive.MaxStale n) = codes "max-stale=" ++ decimal n
cache_directive_text (directive.MinFresh n) = codes "min-fresh=" ++ decimal n
cache_directive_text directive.MustRevalidate = codes "must-revalidate"
cache_directive_text directive.Public = codes "public"
cache_directive_text directive.Private = codes "private"
cache_directive_text directive.ProxyRevalidate = codes "proxy-revalidate"
cache_directive_text (directive.SMaxAge n) = codes "s-maxage=" ++ decimal n
cache_directive_text (directive.Extension name argument) = extension_text name argument
