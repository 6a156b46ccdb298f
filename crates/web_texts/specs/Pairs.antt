-- Names with values.
use Rattle.std.specs.Prelude.{ℕ, List, Bool, take, drop}
use Rattle.std.specs.Ordering.{on, eq_of_both}
use Rattle.std.specs.Str.{bytes_eq}
use Rattle.std.specs.Cmp.{IsEquivalence, and_equiv}
use Rattle.std.specs.Cmp.Lexicographic.{on_texts_equal}

-- a name and a value
pub record Pair : Type 0 where
  pub name : List ℕ
  pub value : List ℕ

-- the name and the value that a text is, cut at a place
abbrev pub cut_pair : List ℕ → ℕ → Pair
cut_pair text middle = record { name = take middle text; value = drop middle text }

-- the same name and the same value
abbrev pub pair_eq : Pair → Pair → Bool
pair_eq = eq_of_both (on (λ p. p.name) bytes_eq) (on (λ p. p.value) bytes_eq)

pub pair_eq_law : IsEquivalence pair_eq
pair_eq_law = and_equiv (on_texts_equal (λ p. p.name)) (on_texts_equal (λ p. p.value))
