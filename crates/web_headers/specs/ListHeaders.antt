-- The headers that are lists (RFC 9110, section 5.6.1): what their values say, and their texts.
use Rattle.std.specs.Prelude.{◌≡◌, ℕ, List, [], ◌∷◌, Option, None, Some}
use Rattle.std.specs.Option.{option_and_then}
use Rattle.web_texts.specs.Charsets.{charset_name_of}
use Rattle.web_texts.specs.LanguageTags.{language_tag_of}
use Rattle.web_texts.specs.MediaTypes.{MediaType, media_type_of}
use Rattle.web_texts.specs.MediaTypeTexts.{media_type_text}
use Rattle.web_texts.specs.Methods.{method_of}
use Rattle.web_texts.specs.QualityItems.{quality_item_of, quality_item_text}
use Rattle.web_texts.specs.declared.media.quality_item.QualityItem.{QualityItem}
use Rattle.web_headers.specs.CacheDirectives.{cache_directive_of, cache_directive_text}
use Rattle.web_headers.specs.Codings.{encoding_of, encoding_text}
use Rattle.web_headers.specs.HeaderReaders.{comma_list_of}
use Rattle.web_headers.specs.Preferences.{preference_of, preference_text}
use Rattle.web_headers.specs.PrintedLists.{comma_joined}
use Rattle.web_headers.specs.declared.cache_control.CacheDirective.{CacheDirective}
use Rattle.web_headers.specs.declared.codings.Encoding.{Encoding}
use Rattle.web_headers.specs.declared.accepts.preferences.Preference.{Preference}

-- a list that is not empty
abbrev pub some_items : {T : Type 0} → List T → Option (List T)
some_items [] = None
some_items (x ∷ more) = Some (x ∷ more)

abbrev pub some_list_of : {T : Type 0} → (List ℕ → Option T) → List (List ℕ) → Option (List T)
some_list_of read values = option_and_then some_items (comma_list_of read values)

abbrev pub text_as_it_is : List ℕ → List ℕ
text_as_it_is text = text

-- Accept (section 12.5.1)

abbrev pub accept_of : List (List ℕ) → Option (List (QualityItem MediaType))
accept_of values = comma_list_of (quality_item_of media_type_of) values

abbrev pub accept_text : List (QualityItem MediaType) → List ℕ
accept_text items = comma_joined (quality_item_text media_type_text) items

-- Accept-Charset (section 12.5.2)

abbrev pub accept_charset_of : List (List ℕ) → Option (List (QualityItem (List ℕ)))
accept_charset_of values = comma_list_of (quality_item_of charset_name_of) values

-- the value of Accept-Charset, and that of Content-Language
abbrev pub quality_texts : List (QualityItem (List ℕ)) → List ℕ
quality_texts items = comma_joined (quality_item_text text_as_it_is) items

-- Accept-Encoding (section 12.5.3)

abbrev pub accept_encoding_of : List (List ℕ) → Option (List (QualityItem (Preference Encoding)))
accept_encoding_of values = comma_list_of (quality_item_of (preference_of encoding_of)) values

abbrev pub accept_encoding_text : List (QualityItem (Preference Encoding)) → List ℕ
accept_encoding_text items =
    comma_joined (quality_item_text (preference_text encoding_text)) items

-- Accept-Language (section 12.5.4), of language tags in place of the RFC's language ranges

abbrev pub accept_language_of : List (List ℕ) → Option (List (QualityItem (Preference (List ℕ))))
accept_language_of values = comma_list_of (quality_item_of (preference_of language_tag_of)) values

abbrev pub accept_language_text : List (QualityItem (Preference (List ℕ))) → List ℕ
accept_language_text items =
    comma_joined (quality_item_text (preference_text text_as_it_is)) items

-- Allow (section 10.2.1)

abbrev pub allow_of : List (List ℕ) → Option (List (List ℕ))
allow_of values = comma_list_of method_of values

abbrev pub allow_text : List (List ℕ) → List ℕ
allow_text methods = comma_joined text_as_it_is methods

-- Cache-Control (RFC 9111, section 5.2)

abbrev pub cache_control_of : List (List ℕ) → Option (List CacheDirective)
cache_control_of values = some_list_of cache_directive_of values

abbrev pub cache_control_text : List CacheDirective → List ℕ
cache_control_text directives = comma_joined cache_directive_text directives

-- Content-Language (RFC 9110, section 8.5), where qualities are read too

abbrev pub content_language_of : List (List ℕ) → Option (List (QualityItem (List ℕ)))
content_language_of values = some_list_of (quality_item_of language_tag_of) values

-- the one item of the media type of a text, with the greatest quality
abbrev pub IsOne : List ℕ → List (QualityItem MediaType) → Type 0
IsOne text items = (m : MediaType) × (media_type_of text ≡ Some m)
    × (items ≡ record { item = m; quality = 1000 } ∷ [])
