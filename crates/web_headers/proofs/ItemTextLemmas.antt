-- What items of lists print, where what they hold prints a text.
use Rattle.std.proofs.Common.{◌≡◌, ℕ, List, Option, Some, refl}
use Rattle.web_texts.specs.QualityItems.{quality_item_output, quality_item_text}
use Rattle.web_texts.specs.declared.media.quality_item.QualityItem.{QualityItem}
use Rattle.web_headers.specs.Preferences.{preference_output, preference_text}
use Rattle.web_headers.specs.declared.accepts.preferences.Preference.{Preference}
use Rattle.web_headers.specs.declared.accepts.preferences.Preference.TheVariants as preference

pub quality_item_prints : {T : Type 0} (output : T → Option (List ℕ)) (text : T → List ℕ) → ((y : T) → output y ≡ Some (text y))
    → (x : QualityItem T) → quality_item_output output x ≡ Some (quality_item_text text x)
quality_item_prints output text prints x = rw (prints x.item) refl

pub preference_prints : {T : Type 0} (output : T → Option (List ℕ)) (text : T → List ℕ) → ((y : T) → output y ≡ Some (text y))
    → (x : Preference T) → preference_output output x ≡ Some (preference_text text x)
preference_prints output text prints preference.Any = refl
preference_prints output text prints (preference.Specific y) = prints y
