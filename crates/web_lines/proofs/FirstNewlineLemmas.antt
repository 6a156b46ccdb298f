-- The first newline of a piece, as a search finds it.
use Rattle.std.proofs.Common.{◌≡◌, ◌==◌, ◌<◌, ◌≤◌, ◌+◌, ℕ, false, List, [], ◌∷◌, ◌++◌, Some, ◌∙◌, length, take, drop, refl, arith, get_or}
use Rattle.std.specs.List.{list_any, position_or_len}
use Rattle.std.proofs.lemmas.Bool.{false_from_ne_true}
use Rattle.std.proofs.lemmas.List.{length-take-le}
use Rattle.std.proofs.lemmas.List.Sums.{position_or_len_is}
use Rattle.memchr.specs.Find.{IsFirstByte, Nowhere, NoneBefore, Passes, is_byte}
use Rattle.web_texts.specs.Bytes.{is_newline}
use Rattle.web_texts.specs.Cut.{IsCut}
use Rattle.web_texts.proofs.SplitLemmas.{no_cut}
use Rattle.web_lines.specs.declared.line_cut.LineCut.{LineCut}
use Rattle.web_lines.specs.LineCuts.{Cuts, IsTooLong, IsUnfinished, TakesLine}
use Rattle.web_lines.proofs.LineCutLemmas.{has_line, line_cuts, line_too_long, not_long, taken_front}

none_at : (piece : List ℕ) (end : ℕ) → Nowhere (Passes (is_byte 10) piece) 0 end → (k : ℕ) → k < end → (get_or piece k 0 == 10) ≡ false
none_at piece end none k small = false_from_ne_true (get_or piece k 0 == 10) (none k (omega arith) small)

pub first_newline : (piece : List ℕ) (place : ℕ) → NoneBefore (Passes (is_byte 10) piece) 0 (length piece) place → Passes (is_byte 10) piece place → IsCut 10 piece (take place piece) (drop (place + 1) piece)
first_newline piece place first here =
    let inside = first.high in
    let there : position_or_len (λ b. b == 10) piece ≡ place = position_or_len_is (λ b. b == 10) piece place 0 (omega (arith, inside)) (none_at piece place first.before) (λ small. here) in
    record {
      has = rw there inside;
      before_is = rw there refl;
      after_is = rw there refl;
    }

pub no_newline : (piece : List ℕ) → Nowhere (Passes (is_byte 10) piece) 0 (length piece) → list_any is_newline piece ≡ false
no_newline piece none =
    no_cut 10 piece (position_or_len_is (λ b. b == 10) piece (length piece) 0 (omega arith) (none_at piece (length piece) none) (λ small. absurd (omega (arith, small))))

-- ---- the first line, where the search of a piece found its newline

module _ (limit : ℕ) (held piece searched : List ℕ) (on : IsUnfinished limit held) (same : searched ≡ piece) (place : ℕ) (found : IsFirstByte (is_byte 10) searched (Some place)) where
  inside : place < length piece
  inside = let high = found.0.high in rw (← same) high

  cut_there : IsCut 10 piece (take place piece) (drop (place + 1) piece)
  cut_there = rw (← same) (first_newline searched place found.0 found.1)

  front_size : length (take place piece) ≡ place
  front_size = let h = inside in length-take-le place piece (omega (arith, h))

  pub newline_too_far : limit ≤ length held + place → IsTooLong limit (held ++ piece)
  newline_too_far far = let size = front_size in line_too_long limit held piece (take place piece) (drop (place + 1) piece) on cut_there (omega (arith, far, size))

  pub not_unfinished : IsUnfinished limit (held ++ piece) → ⊥
  not_unfinished all = has_line limit held piece (take place piece) (drop (place + 1) piece) on cut_there all

  pub newline_within : length held + place + 1 ≤ limit → IsTooLong limit (held ++ piece) → ⊥
  newline_within near long = let size = front_size in not_long limit held piece (take place piece) (drop (place + 1) piece) on cut_there (omega (arith, near, size)) long

  pub newline_cuts : length held + place + 1 ≤ limit → length piece < 18446744073709551616 → (result : LineCut) (end new rest : List ℕ) → end ≡ take (place + 1) piece → rest ≡ drop (place + 1) piece
      → TakesLine (held ++ end) result new → Cuts limit held piece result new rest
  newline_cuts near small result end new rest end_is rest_is taken =
      let size = front_size in
      let front : take (place + 1) piece ≡ take place piece ++ 10 ∷ [] = rw size at (taken_front 10 piece (take place piece) (drop (place + 1) piece) cut_there) in
      line_cuts limit held piece (take place piece) (drop (place + 1) piece) on cut_there (omega (arith, near, size)) small result end new rest (end_is ∙ front) rest_is taken
