-- What follows for the two equalities of tags, and for what printed tags and content ranges say.
use Rattle.std.specs.Prelude.{◌≡◌, ◌≤◌, ℕ, ◌==◌, true, false, not, Option, Some, None, codes}
use Rattle.std.specs.List.{list_any}
use Rattle.std.specs.Str.{bytes_eq}
use Rattle.web_entities.specs.EntityTags.{Tag, is_tag_text, strong_eq, weak_eq, tag_of, tag_text}
use Rattle.web_entities.specs.ContentRanges.{content_range_of, content_range_text}
use Rattle.web_entities.specs.declared.content_range.ContentRangeSpec.{ContentRangeSpec}
use Rattle.web_entities.specs.declared.content_range.ContentRangeSpec.TheVariants as kind

-- Weak equality is an equivalence. Strong equality is symmetric and transitive, stands within weak
-- equality, and is reflexive exactly on strong tags.
pub record TagEquality : Type 0 where
  pub weak_refl : (a : Tag) → weak_eq a a ≡ true
  pub weak_symm : (a b : Tag) → weak_eq a b ≡ true → weak_eq b a ≡ true
  pub weak_trans : (a b c : Tag) → weak_eq a b ≡ true → weak_eq b c ≡ true → weak_eq a c ≡ true
  pub strong_symm : (a b : Tag) → strong_eq a b ≡ true → strong_eq b a ≡ true
  pub strong_trans : (a b c : Tag) → strong_eq a b ≡ true → strong_eq b c ≡ true
      → strong_eq a c ≡ true
  pub within : (a b : Tag) → strong_eq a b ≡ true → weak_eq a b ≡ true
  pub strong_refl : (a : Tag) → strong_eq a a ≡ not a.weak

-- up to 2^64 - 1
abbrev pub IsSmall : Option ℕ → Type 0
IsSmall None = Unit {0}
IsSmall (Some n) = n ≤ 18446744073709551615

-- the first at most the last
abbrev pub IsUpward : Option (ℕ × ℕ) → Type 0
IsUpward None = Unit {0}
IsUpward (Some p) = (p.0 ≤ p.1) × (p.1 ≤ 18446744073709551615)

-- The first is at most the last; another unit is not `bytes`, and holds no space.
abbrev pub IsPlain : ContentRangeSpec → Type 0
IsPlain (kind.Bytes range len) = IsUpward range × IsSmall len
IsPlain (kind.Unregistered unit resp) =
    (bytes_eq unit (codes "bytes") ≡ false) × (list_any (λ b. b == 32) unit ≡ false)

-- The printed text of a tag says that tag, and that of a plain content range that range.
pub record ReadBack : Type 0 where
  pub tags : (t : Tag) → is_tag_text t.tag ≡ true → tag_of (tag_text t) ≡ Some t
  pub ranges : (r : ContentRangeSpec) → IsPlain r
      → content_range_of (content_range_text r) ≡ Some r
