-- Choices among the media types of Accept (RFC 9110, section 12.5.1).
use Rattle.std.specs.Prelude.{ℕ, ◌+◌, ◌*◌, List, [], codes, None, if◌then◌else◌}
use Rattle.std.specs.Str.{bytes_eq}
use Rattle.web_texts.specs.MediaTypes.{MediaType}
use Rattle.web_texts.specs.declared.media.quality_item.QualityItem.{QualityItem}
use Rattle.web_negotiate.specs.Rankings.{IsRanking, IsPreference, quality_rank}

-- `*/*`
abbrev pub any_media_type : MediaType
any_media_type = record { type_ = codes "*"; subtype = codes "*"; suffix = None; params = [] }

-- exact types before `type/*`, and these before every item of type `*`
abbrev pub media_class : MediaType → ℕ
media_class m =
    if bytes_eq m.type_ (codes "*") then 0
    else if bytes_eq m.subtype (codes "*") then 1
    else 2

-- quality, then class, which is below 4
abbrev pub media_rank : QualityItem MediaType → ℕ
media_rank x = x.quality * 4 + media_class x.item

abbrev pub IsMediaRanking : List (QualityItem MediaType) → List MediaType → Type 0
IsMediaRanking xs ranked = IsRanking media_rank xs ranked

-- The preference goes by quality alone, so it need not be the first of the ranking.
abbrev pub IsMediaPreference : List (QualityItem MediaType) → MediaType → Type 0
IsMediaPreference xs given = IsPreference quality_rank xs any_media_type given
