-- Where texts are cut, in words: by what stands in front of a mark, from the start of its piece on.
use Rattle.std.specs.Prelude.{◌≡◌, ◌⊎◌, ◌<◌, ℕ, ◌+◌, ◌%◌, ◌==◌, Bool, true, false, if◌then◌else◌}
use Rattle.std.specs.Prelude.{List, [], ◌∷◌, ◌++◌, length, take, drop, slice_index, reverse}
use Rattle.std.specs.List.{after_first, before_first, concat, count_by, list_all, list_any}
use Rattle.std.specs.List.{suffix_len}
use Rattle.web_texts.specs.Bytes.{is_equals, is_quote}
use Rattle.web_texts.specs.Blanks.{without_front}
use Rattle.web_texts.specs.PieceItems.{is_empty}
use Rattle.web_texts.specs.Pieces.{Rule, pieces}
use Rattle.web_texts.specs.QuotedText.{is_closed}

-- the first mark of a text that has this in front of it
pub record IsFirstCut (mark : ℕ) (cuts : List ℕ → Type 0) (text : List ℕ) (i : ℕ) : Type 0 where
  pub inside : i < length text
  pub marked : slice_index text i ≡ mark
  pub cut : cuts (take i text)
  pub first : (j : ℕ) → j < i → slice_index text j ≡ mark → cuts (take j text) → ⊥

-- no mark of a text has this in front of it
abbrev pub HasNoCut : ℕ → (List ℕ → Type 0) → List ℕ → Type 0
HasNoCut mark cuts text =
    (j : ℕ) → j < length text → slice_index text j ≡ mark → cuts (take j text) → ⊥

-- The first piece ends at the first mark that has this in front of it, and the other pieces are
-- those of the text after that mark. Where there is no such mark, the text is one piece.
pub record CutsBehind {M : Type 0} (rule : Rule M) (cuts : List ℕ → Type 0) : Type 0 where
  pub cut : (text : List ℕ) (i : ℕ) → IsFirstCut rule.mark cuts text i
      → pieces rule rule.start text ≡ take i text ∷ pieces rule rule.start (drop (i + 1) text)
  pub whole : (text : List ℕ) → HasNoCut rule.mark cuts text
      → pieces rule rule.start text ≡ text ∷ []

abbrev pub is_backslash : ℕ → Bool
is_backslash b = b == 92

-- an even number of double quotes
abbrev pub HasEvenQuotes : List ℕ → Type 0
HasEvenQuotes front = count_by is_quote front % 2 ≡ 0

-- an even number of backslashes at the end, so that the last one keeps no further byte
abbrev pub EndsUnkept : List ℕ → Type 0
EndsUnkept front = suffix_len is_backslash front % 2 ≡ 0

-- a byte other than a quote, or a text from its quote to its closing quote
abbrev pub is_part : List ℕ → Bool
is_part [] = false
is_part (b ∷ more) = if is_quote b then is_closed more else is_empty more

-- a row of such parts, so that its end is outside of quoted text
abbrev pub IsOutsideQuotes : List ℕ → Type 0
IsOutsideQuotes text =
    (parts : List (List ℕ)) × (text ≡ concat parts) × (list_all is_part parts ≡ true)

-- after an opening quote there is a closing one
abbrev pub HasClosingQuote : List ℕ → Type 0
HasClosingQuote text =
    (inner more : List ℕ) × (text ≡ inner ++ more) × (is_closed inner ≡ true)

-- read from its end, blanks aside, a name begins with an asterisk
abbrev pub ends_in_asterisk : List ℕ → Bool
ends_in_asterisk name = slice_index (without_front (reverse name)) 0 == 42

-- quoted text, where it is some, has its closing quote
abbrev pub IsNoOpenQuote : List ℕ → Type 0
IsNoOpenQuote value = slice_index value 0 ≡ 34 → HasClosingQuote (drop 1 value)

-- A name and an equals sign; and, but for a name that ends in an asterisk, no open quoted text as
-- the value.
pub record IsWholeParameter (front : List ℕ) : Type 0 where
  pub named : list_any is_equals front ≡ true
  pub closed : (ends_in_asterisk (before_first is_equals front) ≡ true)
      ⊎ IsNoOpenQuote (without_front (after_first is_equals front))
