-- Tags that a header lists, value by value and piece by piece.
use Rattle.std.proofs.Common.{◌≡◌, ◌∙◌, refl, ap, sym, ℕ, Bool, true, false, List, [], ◌∷◌, Option, None, Some}
use Rattle.std.specs.Prelude.{◌&&◌, ◌||◌, if◌then◌else◌, slice_get}
use Rattle.std.specs.List.{flat_map, list_all, list_any}
use Rattle.std.specs.Option.{option_map}
use Rattle.std.proofs.lemmas.List.Folds.{list_any-append}
use Rattle.http_header.specs.FieldValue.{FieldValue, is_visible_text}
use Rattle.web_texts.specs.HeaderTexts.{header_text, value_bytes}
use Rattle.web_texts.specs.PieceItems.{item_of_piece, one_or_none}
use Rattle.web_texts.specs.Pieces.{pieces}
use Rattle.web_headers.specs.HeaderReaders.{items_of_value}
use Rattle.web_entities.specs.EntityTags.{Tag, equals, tag_of}
use Rattle.web_entities.specs.ListedTags.{if_there, listed, listed_tags, lists_strongly, lists_weakly}
use Rattle.web_entities.specs.TagLists.{if_match_of, if_none_match_of, is_any, is_star, outside_quotes, tag_list_of}
use Rattle.web_entities.specs.declared.entity.Comparison.TheVariants.{Strong, Weak}
use Rattle.web_entities.specs.declared.tag_list.Quotes.TheVariants.{Even}
use Rattle.web_entities.specs.declared.if_match.IfMatch.TheVariants as match_header
use Rattle.web_entities.specs.declared.if_none_match.IfNoneMatch.TheVariants as none_match_header

-- ---- piece by piece

or_none : (b : Bool) → (b || false) ≡ b
or_none true = refl
or_none false = refl

pub one_listed : (f : Tag → Bool) (said : Option Tag) (b : Bool) → Some b ≡ option_map f said → list_any f (one_or_none said) ≡ b
one_listed f None b e = absurd (cc)
one_listed f (Some t) b e = or_none (f t) ∙ cc

pub none_listed : (f : Tag → Bool) (said : Option Tag) → None ≡ option_map f said → list_any f (one_or_none said) ≡ false
none_listed f None e = refl
none_listed f (Some t) e = absurd (cc)

pub first_listed : (f : Tag → Bool) (piece : List ℕ) (more : List (List ℕ))
    → list_any f (flat_map (item_of_piece tag_of) (piece ∷ more)) ≡ (list_any f (item_of_piece tag_of piece) || list_any f (flat_map (item_of_piece tag_of) more))
first_listed f piece more = list_any-append f (item_of_piece tag_of piece) (flat_map (item_of_piece tag_of) more)

pub behind_listed : (f : Tag → Bool) (text piece : List ℕ) (more : List (List ℕ)) → pieces outside_quotes Even text ≡ piece ∷ more → list_any f (item_of_piece tag_of piece) ≡ false
    → list_any f (flat_map (item_of_piece tag_of) (pieces outside_quotes Even text)) ≡ list_any f (flat_map (item_of_piece tag_of) more)
behind_listed f text piece more cut none =
    ap (λ ps. list_any f (flat_map (item_of_piece tag_of) ps)) cut
    ∙ first_listed f piece more
    ∙ ap (λ b. b || list_any f (flat_map (item_of_piece tag_of) more)) none

-- ---- value by value

module _ (eq : Tag → Tag → Bool) (tag : Tag) where
  abbrev of_value : List ℕ → List Tag
  of_value value = items_of_value outside_quotes tag_of value

  abbrev all_listed : Bool → Bool → List (List ℕ) → Option Bool
  all_listed texts before values = if texts then Some (before || list_any (λ t. eq t tag) (flat_map of_value values)) else None

  -- whether one was listed before these values, or these list one
  abbrev pub listed_so_far : Bool → List (List ℕ) → Option Bool
  listed_so_far before values = all_listed (list_all is_visible_text values) before values

  start_by : (texts : Bool) (values : List (List ℕ)) → all_listed texts false values ≡ option_map (list_any (λ t. eq t tag)) (if texts then Some (flat_map of_value values) else None)
  start_by true values = refl
  start_by false values = refl

  pub at_start : (values : List (List ℕ)) → listed_so_far false values ≡ listed_tags eq tag values
  at_start values = start_by (list_all is_visible_text values) values

  or_again : (a b c : Bool) → (a || (b || c)) ≡ ((a || b) || c)
  or_again true b c = refl
  or_again false b c = refl

  step_by : (texts before : Bool) (value : List ℕ) (values : List (List ℕ))
      → all_listed texts before (value ∷ values) ≡ all_listed texts (before || list_any (λ t. eq t tag) (of_value value)) values
  step_by true before value values =
      ap (λ b. Some (before || b)) (list_any-append (λ t. eq t tag) (of_value value) (flat_map of_value values))
      ∙ ap Some (or_again before (list_any (λ t. eq t tag) (of_value value)) (list_any (λ t. eq t tag) (flat_map of_value values)))
  step_by false before value values = refl

  pub one_more : (before : Bool) (value : List ℕ) (values : List (List ℕ)) → is_visible_text value ≡ true
      → listed_so_far before (value ∷ values) ≡ listed_so_far (before || list_any (λ t. eq t tag) (of_value value)) values
  one_more before value values text =
      ap (λ b. all_listed (b && list_all is_visible_text values) before (value ∷ values)) text
      ∙ step_by (list_all is_visible_text values) before value values

  pub no_text : (before : Bool) (value : List ℕ) (values : List (List ℕ)) → is_visible_text value ≡ false → listed_so_far before (value ∷ values) ≡ None
  no_text before value values text = ap (λ b. all_listed (b && list_all is_visible_text values) before (value ∷ values)) text

  pub absent : (vs : List FieldValue) → None ≡ slice_get vs 0 → listed eq tag (value_bytes vs) ≡ None
  absent [] is = refl
  absent (v ∷ vs) is = absurd (cc)

  pub present : (vs : List FieldValue) (first : FieldValue) → Some first ≡ slice_get vs 0
      → listed eq tag (value_bytes vs) ≡ (if is_star (header_text first) then Some true else listed_tags eq tag (value_bytes vs))
  present [] first is = absurd (cc)
  present (v ∷ vs) first is =
      let same : first ≡ v = cc in
      ap (λ b. if is_star (header_text b) then Some true else listed_tags eq tag (value_bytes (v ∷ vs))) (sym same)

-- ---- the two headers

match_by : (tag : Tag) (any : Bool) (tags : Option (List Tag))
    → (if any then Some true else option_map (list_any (λ t. equals Strong t tag)) tags) ≡ option_map (lists_strongly tag) (if any then Some match_header.Any else option_map match_header.Items tags)
match_by tag true tags = refl
match_by tag false None = refl
match_by tag false (Some listed) = refl

pub match_listed : (tag : Tag) (values : List (List ℕ)) → listed (equals Strong) tag values ≡ option_map (lists_strongly tag) (if_there if_match_of values)
match_listed tag [] = refl
match_listed tag (value ∷ values) = match_by tag (is_any (value ∷ values)) (tag_list_of (value ∷ values))

none_match_by : (tag : Tag) (any : Bool) (tags : Option (List Tag))
    → (if any then Some true else option_map (list_any (λ t. equals Weak t tag)) tags) ≡ option_map (lists_weakly tag) (if any then Some none_match_header.Any else option_map none_match_header.Items tags)
none_match_by tag true tags = refl
none_match_by tag false None = refl
none_match_by tag false (Some listed) = refl

pub none_match_listed : (tag : Tag) (values : List (List ℕ)) → listed (equals Weak) tag values ≡ option_map (lists_weakly tag) (if_there if_none_match_of values)
none_match_listed tag [] = refl
none_match_listed tag (value ∷ values) = none_match_by tag (is_any (value ∷ values)) (tag_list_of (value ∷ values))
