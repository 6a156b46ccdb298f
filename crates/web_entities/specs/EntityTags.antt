-- Entity tags (RFC 9110, section 8.8.3).
use Rattle.std.specs.Prelude.{ℕ, ◌-◌, ◌==◌, ◌||◌, ◌&&◌, Bool, true, false, not, List, [], ◌∷◌, ◌++◌}
use Rattle.std.specs.Prelude.{length, take, drop, slice_index, nat_le, codes}
use Rattle.std.specs.Prelude.{Option, None, Some, if◌then◌else◌}
use Rattle.std.specs.Option.{option_map}
use Rattle.std.specs.List.{list_all}
use Rattle.std.specs.Str.{bytes_eq}
use Rattle.web_entities.specs.declared.entity.Comparison.{Comparison}
use Rattle.web_entities.specs.declared.entity.Comparison.TheVariants.{Strong, Weak}

-- 0x21, 0x23 to 0x7E, and 0x80 and above: the RFC's etagc
abbrev pub is_tag_byte : ℕ → Bool
is_tag_byte b = b == 33 || (nat_le 35 b && not (b == 127))

abbrev pub is_tag_text : List ℕ → Bool
is_tag_text text = list_all is_tag_byte text

-- what contracts see of an `EntityTag`
pub record Tag : Type 0 where
  pub weak : Bool
  pub tag : List ℕ

-- the tag bytes between two quotes
abbrev pub quoted_tag_of : List ℕ → Option (List ℕ)
quoted_tag_of text =
    let inner = take (length text - 2) (drop 1 text) in
    if nat_le 2 (length text)
    && (slice_index text 0 == 34
    && (slice_index text (length text - 1) == 34 && is_tag_text inner))
    then Some inner else None

-- `W/`, in upper case alone
abbrev pub has_weak_mark : List ℕ → Bool
has_weak_mark text = slice_index text 0 == 87 && slice_index text 1 == 47

-- `"tag"`, or `W/"tag"`
abbrev pub tag_of : List ℕ → Option Tag
tag_of text =
    if has_weak_mark text
    then option_map (λ tag. record { weak = true; tag = tag }) (quoted_tag_of (drop 2 text))
    else option_map (λ tag. record { weak = false; tag = tag }) (quoted_tag_of text)

abbrev pub weak_mark : Bool → List ℕ
weak_mark true = codes "W/"
weak_mark false = []

abbrev pub tag_text : Tag → List ℕ
tag_text t = weak_mark t.weak ++ 34 ∷ t.tag ++ 34 ∷ []

-- both strong, and of one text (RFC 9110, section 8.8.3.2)
abbrev pub strong_eq : Tag → Tag → Bool
strong_eq a b = not a.weak && (not b.weak && bytes_eq a.tag b.tag)

-- of one text
abbrev pub weak_eq : Tag → Tag → Bool
weak_eq a b = bytes_eq a.tag b.tag

-- the same, by either comparison
abbrev pub equals : Comparison → Tag → Tag → Bool
equals Strong a b = strong_eq a b
equals Weak a b = weak_eq a b
