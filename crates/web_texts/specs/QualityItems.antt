-- An item with a quality: the item, and `;q=` with the quality as its last part.
use Rattle.std.specs.Prelude.{ℕ, ◌==◌, ◌||◌, ◌&&◌, ◌++◌, ◌∷◌, Bool, false, List, length, nat_lt}
use Rattle.std.specs.Prelude.{drop, Option, None, Some, if◌then◌else◌}
use Rattle.std.specs.Option.{option_map, option_and_then}
use Rattle.web_texts.specs.Blanks.{trimmed}
use Rattle.web_texts.specs.Cut.{split_at_last}
use Rattle.web_texts.specs.QualityValues.{quality_of, weight_text}
use Rattle.web_texts.specs.declared.media.quality_item.QualityItem.{QualityItem}

abbrev pub with_quality : {T : Type 0} → ℕ → Option T → Option (QualityItem T)
with_quality n item = option_map (λ x. record { item = x; quality = n }) item

-- `q=` or `Q=` stands in front
abbrev pub is_weight : List ℕ → Bool
is_weight (a ∷ b ∷ rest) = (a == 113 || a == 81) && b == 61
is_weight short = false

-- Where the part after the last semicolon is no weight, the whole text is the item's. A part of
-- fewer than two bytes is refused, which the RFC does not say.
abbrev pub item_before : {T : Type 0} → (List ℕ → Option T) → List ℕ → List ℕ → List ℕ
    → Option (QualityItem T)
item_before read text front last =
    if nat_lt (length last) 2 then None
    else if is_weight last
    then option_and_then (λ n. with_quality n (read (trimmed front))) (quality_of (drop 2 last))
    else with_quality 1000 (read text)

abbrev pub parts_item : {T : Type 0} → (List ℕ → Option T) → List ℕ
    → Option (List ℕ × List ℕ) → Option (QualityItem T)
parts_item read text None = with_quality 1000 (read text)
parts_item read text (Some parts) = item_before read text parts.0 (trimmed parts.1)

-- Only the part after the last semicolon is looked at for a quality. The RFC lets extensions
-- follow the quality, which was dropped from it later.
abbrev pub quality_item_of : {T : Type 0} → (List ℕ → Option T) → List ℕ → Option (QualityItem T)
quality_item_of read text = parts_item read text (split_at_last 59 text)

abbrev pub quality_item_text : {T : Type 0} → (T → List ℕ) → QualityItem T → List ℕ
quality_item_text text x = text x.item ++ weight_text x.quality

-- the same, where an item may print any text
abbrev pub quality_item_output : {T : Type 0} → (T → Option (List ℕ)) → QualityItem T
    → Option (List ℕ)
quality_item_output output x = option_map (λ text. text ++ weight_text x.quality) (output x.item)
