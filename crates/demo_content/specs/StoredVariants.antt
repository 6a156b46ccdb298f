-- The variants of `/variant`.
use Rattle.std.specs.Prelude.{◌≡◌, ℕ, List, [], ◌∷◌, codes, Option, None, Some, IfSome}
use Rattle.web_texts.specs.MediaTypes.{MediaType}
use Rattle.web_headers.specs.declared.codings.ContentEncoding.TheVariants as coding
use Rattle.web_headers.specs.declared.codings.Encoding.{Encoding}
use Rattle.web_headers.specs.declared.codings.Encoding.TheVariants as encoding
use Rattle.web_variants.specs.declared.stored_variants.Variant.{Variant}

-- `text/html`
abbrev pub html : MediaType
html = record { type_ = codes "text"; subtype = codes "html"; suffix = None; params = [] }

-- `application/json`
abbrev pub json : MediaType
json = record { type_ = codes "application"; subtype = codes "json"; suffix = None; params = [] }

-- no coding, and gzip
abbrev pub identity : Encoding
identity = encoding.Known coding.Identity

abbrev pub gzip : Encoding
gzip = encoding.Known coding.Gzip

-- a page of this language, in this coding
abbrev pub page : List ℕ → Encoding → List ℕ → Variant
page language e body =
    record { media_type = html; language = Some language; coding = e; body = body }

-- an empty object, of no language
abbrev pub object : Variant
object = record { media_type = json; language = None; coding = identity; body = codes "{}" }

abbrev pub demo_variants : List Variant
demo_variants =
    page (codes "en") identity (codes "hello") ∷ page (codes "de") identity (codes "hallo")
    ∷ object ∷ page (codes "en") gzip (31 ∷ 139 ∷ []) ∷ []

-- Variants, where they were stored, are these.
abbrev pub AreKeptVariants : Option (List Variant) → Type 0
AreKeptVariants kept = IfSome kept (λ stored. stored ≡ demo_variants)
