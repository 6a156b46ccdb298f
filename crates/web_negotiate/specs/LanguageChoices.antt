-- Choices among the languages of Accept-Language (RFC 9110, section 12.5.4).
use Rattle.std.specs.Prelude.{ℕ, List}
use Rattle.web_headers.specs.declared.accepts.preferences.Preference.{Preference}
use Rattle.web_headers.specs.declared.accepts.preferences.Preference.TheVariants as preference
use Rattle.web_texts.specs.declared.media.quality_item.QualityItem.{QualityItem}
use Rattle.web_negotiate.specs.Rankings.{IsRanking, IsPreference, quality_rank}

abbrev pub Language : Type 0
Language = Preference (List ℕ)

abbrev pub IsLanguageRanking : List (QualityItem Language) → List Language → Type 0
IsLanguageRanking xs ranked = IsRanking quality_rank xs ranked

abbrev pub IsLanguagePreference : List (QualityItem Language) → Language → Type 0
IsLanguagePreference xs given = IsPreference quality_rank xs preference.Any given
