-- The subtags of a language tag, one by one.
use Rattle.std.proofs.Common.{◌≡◌, ◌&&◌, ℕ, Bool, true, false, List, length, refl}
use Rattle.std.specs.List.{list_all, slice_split, position_or_len}
use Rattle.web_texts.specs.Cut.{IsCut}
use Rattle.web_texts.specs.LanguageTags.{is_hyphen, is_subtag}
use Rattle.web_texts.proofs.SplitLemmas.{split_cut, split_whole}

and-true : (b : Bool) → (b && true) ≡ b
and-true true = refl
and-true false = refl

pub first_subtag : (text subtag behind : List ℕ) → IsCut 45 text subtag behind → is_subtag subtag ≡ true
    → list_all is_subtag (slice_split is_hyphen text) ≡ list_all is_subtag (slice_split is_hyphen behind)
first_subtag text subtag behind cut fits = rw (split_cut 45 text subtag behind cut, fits) refl

pub bad_subtag : (text subtag behind : List ℕ) → IsCut 45 text subtag behind → is_subtag subtag ≡ false
    → list_all is_subtag (slice_split is_hyphen text) ≡ false
bad_subtag text subtag behind cut unfit = rw (split_cut 45 text subtag behind cut, unfit) refl

pub last_subtag : (text : List ℕ) → position_or_len is_hyphen text ≡ length text
    → list_all is_subtag (slice_split is_hyphen text) ≡ is_subtag text
last_subtag text whole = rw (split_whole is_hyphen text whole) (and-true (is_subtag text))
