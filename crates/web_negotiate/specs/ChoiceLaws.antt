-- What callers may rely on for rankings and preferences.
use Rattle.std.specs.Prelude.{◌≡◌, ◌<◌, ℕ, List, length, map, slice_index_or}
use Rattle.std.specs.List.Sorted.{IsPermutation}
use Rattle.web_texts.specs.MediaTypes.{MediaType}
use Rattle.web_texts.specs.declared.media.quality_item.QualityItem.{QualityItem}
use Rattle.web_headers.specs.declared.accepts.preferences.Preference.TheVariants as preference
use Rattle.web_negotiate.specs.LanguageChoices.{Language, IsLanguageRanking, IsLanguagePreference}
use Rattle.web_negotiate.specs.MediaChoices.{IsMediaRanking, media_rank}
use Rattle.web_negotiate.specs.Rankings.{quality_rank, ranked_by}

-- some quality is above zero
abbrev pub HasWanted : {T : Type 0} → List (QualityItem T) → Type 0
HasWanted {T} xs = (k : ℕ) × (x : QualityItem T) × (k < length xs)
    × (slice_index_or xs k x ≡ x) × (0 < x.quality)

pub record RankingLaw : Type 0 where
  -- the ranked items are a rearrangement of the items
  pub media : (xs : List (QualityItem MediaType)) (ranked : List MediaType)
      → IsMediaRanking xs ranked → IsPermutation (map (λ x. x.item) xs) ranked
  pub languages : (xs : List (QualityItem Language)) (ranked : List Language)
      → IsLanguageRanking xs ranked → IsPermutation (map (λ x. x.item) xs) ranked
  -- and there is one such rearrangement
  pub media_only : (xs : List (QualityItem MediaType)) (ranked : List MediaType)
      → IsMediaRanking xs ranked → ranked ≡ map (λ x. x.item) (ranked_by media_rank xs)
  pub languages_only : (xs : List (QualityItem Language)) (ranked : List Language)
      → IsLanguageRanking xs ranked → ranked ≡ map (λ x. x.item) (ranked_by quality_rank xs)
  -- the preferred language is the first of the ranked ones where some quality is above zero
  pub first : (xs : List (QualityItem Language)) (ranked : List Language) (given d : Language)
      → IsLanguageRanking xs ranked → IsLanguagePreference xs given → HasWanted xs
      → slice_index_or ranked 0 d ≡ given
  -- and any where none is
  pub any : (xs : List (QualityItem Language)) (given : Language)
      → IsLanguagePreference xs given → (HasWanted xs → ⊥) → given ≡ preference.Any
