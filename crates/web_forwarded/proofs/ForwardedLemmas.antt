-- What pairs say, part by part.
use Rattle.std.proofs.Common.{◌≡◌, ◌++◌, ℕ, List, [], ◌∷◌, Option, None, Some, refl, sym, ◌∙◌, ap, append_assoc}
use Rattle.std.proofs.lemmas.List.{append-nil}
use Rattle.std.specs.List.{flat_map, slice_split}
use Rattle.std.specs.Option.{option_or}
use Rattle.std.specs.Prelude.{codes}
use Rattle.http_header.specs.FieldValue.{FieldValue}
use Rattle.web_texts.specs.Blanks.{trimmed}
use Rattle.web_texts.specs.Bytes.{is_comma, is_semicolon}
use Rattle.web_texts.specs.Cut.{split_once}
use Rattle.web_texts.specs.HeaderTexts.{header_text}
use Rattle.web_texts.proofs.TestLemmas.{or_assoc}
use Rattle.web_forwarded.specs.ForwardedPairs.{ForwardedFields, GoesOn, first_said, forwarded_pairs, pairs_of, said_by, value_of_pair, value_under}

or_none : {T : Type 0} (a : Option T) → option_or a None ≡ a
or_none None = refl
or_none (Some x) = refl

-- what is said first, with one more after
said_more : {A T : Type 0} (said : A → Option T) (xs : List A) (y : A) → first_said said (xs ++ y ∷ []) ≡ option_or (first_said said xs) (said y)
said_more said [] y = or_none (said y)
said_more said (x ∷ xs) y = rw (said_more said xs y) (or_assoc (said x) (first_said said xs) (said y))

abbrev pub fields : Option (List ℕ) → Option (List ℕ) → Option (List ℕ) → ForwardedFields
fields client host scheme = record { client = client; host = host; scheme = scheme }

-- of each name what was said, else the value of this pair
abbrev with_pair : ForwardedFields → List ℕ → ForwardedFields
with_pair said pair = fields (option_or said.client (value_of_pair (codes "for") pair)) (option_or said.host (value_of_pair (codes "host") pair)) (option_or said.scheme (value_of_pair (codes "proto") pair))

pair_goes_on : (said next : ForwardedFields) (pair : List ℕ) → next ≡ with_pair said pair → GoesOn said (pair ∷ []) next
pair_goes_on said next pair e front is =
    e ∙ (ap (λ s. with_pair s pair) is ∙ rw (said_more (value_of_pair (codes "for")) front pair, said_more (value_of_pair (codes "host")) front pair, said_more (value_of_pair (codes "proto")) front pair) refl)

pub named_pair : (said : ForwardedFields) (pair name value trim : List ℕ) (client host scheme : Option (List ℕ)) → split_once 61 pair ≡ Some (name, value) → trim ≡ trimmed name
    → client ≡ option_or said.client (value_under (codes "for") trim value) → host ≡ option_or said.host (value_under (codes "host") trim value)
    → scheme ≡ option_or said.scheme (value_under (codes "proto") trim value) → GoesOn said (pair ∷ []) (fields client host scheme)
named_pair said pair name value trim client host scheme cut is c h s =
    pair_goes_on said (fields client host scheme) pair (rw (c, h, s, is, cut) refl)

pub unnamed_pair : (said : ForwardedFields) (pair : List ℕ) → split_once 61 pair ≡ None → GoesOn said (pair ∷ []) said
unnamed_pair said pair cut = pair_goes_on said said pair (rw (cut, or_none said.client, or_none said.host, or_none said.scheme) refl)

-- Some pairs stand in front of these that are left of all, and this is what they say.
pub record IsSoFar (said : ForwardedFields) (left all : List (List ℕ)) : Type 0 where
  pub front : List (List ℕ)
  pub is : said ≡ said_by front
  pub parts : front ++ left ≡ all

pub at_start : (pairs : List (List ℕ)) → IsSoFar (said_by []) pairs pairs
at_start pairs = record { front = []; is = refl; parts = refl }

pub all_passed : (said : ForwardedFields) (all : List (List ℕ)) → IsSoFar said [] all → said ≡ said_by all
all_passed said all at = at.is ∙ ap said_by (sym (append-nil at.front) ∙ at.parts)

-- the first pairs of those that were left are read
pub passed : (said next : ForwardedFields) (these left whole all : List (List ℕ)) → whole ≡ these ++ left → GoesOn said these next
    → IsSoFar said whole all → IsSoFar next left all
passed said next these left whole all parts goes_on at = record {
  front = at.front ++ these;
  is = goes_on at.front at.is;
  parts = append_assoc at.front these left ∙ (ap (λ l. at.front ++ l) (sym parts) ∙ at.parts);
}

-- all that were left are read
pub last_passed : (said next : ForwardedFields) (these whole all : List (List ℕ)) → whole ≡ these → GoesOn said these next
    → IsSoFar said whole all → next ≡ said_by all
last_passed said next these whole all parts goes_on at =
    goes_on at.front at.is ∙ ap said_by (ap (λ l. at.front ++ l) (sym parts) ∙ at.parts)

-- the pairs of a text whose first part is known
pub part_pairs : (text part behind : List ℕ) → slice_split is_semicolon text ≡ part ∷ slice_split is_semicolon behind
    → pairs_of text ≡ slice_split is_comma part ++ pairs_of behind
part_pairs text part behind parts = ap (flat_map (slice_split is_comma)) parts

pub last_pairs : (text part : List ℕ) → slice_split is_semicolon text ≡ part ∷ [] → pairs_of text ≡ slice_split is_comma part
last_pairs text part parts = ap (flat_map (slice_split is_comma)) parts ∙ append-nil (slice_split is_comma part)

-- the pairs of values of which the first is header text
pub value_pairs : (values rest : List FieldValue) (v : FieldValue) (text : List ℕ) → values ≡ v ∷ rest → Some text ≡ header_text v
    → forwarded_pairs values ≡ pairs_of text ++ forwarded_pairs rest
value_pairs values rest v text are shown = rw (are, ← shown) refl
