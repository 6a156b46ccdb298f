-- Which tags If-Match and If-None-Match list.
use Rattle.std.specs.Prelude.{ℕ, Bool, true, List, [], ◌∷◌, Option, None, Some, if◌then◌else◌}
use Rattle.std.specs.Option.{option_map}
use Rattle.std.specs.List.{list_any}
use Rattle.web_entities.specs.EntityTags.{Tag, strong_eq, weak_eq}
use Rattle.web_entities.specs.TagLists.{is_any, tag_list_of}
use Rattle.web_entities.specs.declared.if_match.IfMatch.{IfMatch}
use Rattle.web_entities.specs.declared.if_match.IfMatch.TheVariants as match_header
use Rattle.web_entities.specs.declared.if_none_match.IfNoneMatch.{IfNoneMatch}
use Rattle.web_entities.specs.declared.if_none_match.IfNoneMatch.TheVariants as none_match_header

-- A header that is absent, or that its reader refuses, asks for nothing.
abbrev pub if_there : {T : Type 0} → (List (List ℕ) → Option T) → List (List ℕ) → Option T
if_there read [] = None
if_there read (first ∷ more) = read (first ∷ more)

-- `*`, or some tag that is this one, both of them strong
abbrev pub lists_strongly : Tag → IfMatch → Bool
lists_strongly tag match_header.Any = true
lists_strongly tag (match_header.Items tags) = list_any (λ t. strong_eq t tag) tags

-- `*`, or some tag of the same text
abbrev pub lists_weakly : Tag → IfNoneMatch → Bool
lists_weakly tag none_match_header.Any = true
lists_weakly tag (none_match_header.Items tags) = list_any (λ t. weak_eq t tag) tags

-- some tag of all values equals this one
abbrev pub listed_tags : (Tag → Tag → Bool) → Tag → List (List ℕ) → Option Bool
listed_tags eq tag values = option_map (list_any (λ t. eq t tag)) (tag_list_of values)

-- the first value is `*`, or some tag equals this one
abbrev pub listed_or_any : (Tag → Tag → Bool) → Tag → List (List ℕ) → Option Bool
listed_or_any eq tag values = if is_any values then Some true else listed_tags eq tag values

-- the same, where the header is there
abbrev pub listed : (Tag → Tag → Bool) → Tag → List (List ℕ) → Option Bool
listed eq tag values = if_there (listed_or_any eq tag) values
