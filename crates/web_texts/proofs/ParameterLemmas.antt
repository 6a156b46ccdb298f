-- Parameters of a media type, piece by piece.
use Rattle.std.proofs.Common.{◌≡◌, ◌<◌, ◌==◌, ℕ, suc, ◌-◌, Bool, true, false, not, ◌&&◌, List, [], ◌∷◌, cond, length, get_or, Some, refl, arith}
use Rattle.std.specs.Borrow.{Bor}
use Rattle.std.specs.Option.{option_and_then}
use Rattle.std.proofs.lemmas.Bool.Decides.{nat_tests}
use Rattle.web_texts.specs.Blanks.{trimmed, without_end}
use Rattle.web_texts.specs.Pieces.{pieces, IsFirstPiece}
use Rattle.web_texts.specs.QuotedText.{is_closed}
use Rattle.web_texts.specs.ParameterPlaces.{semicolons}
use Rattle.web_texts.specs.MediaTypes.{parameter_of, and_parameters, parameters_of, with_parameters, media_type_of_pieces, media_type_of}
use Rattle.web_texts.specs.declared.grammar.parameters.Quoting.TheVariants.{Outside}
use Rattle.web_texts.proofs.PieceLemmas.{IsCons, pieces_cons}
use Rattle.web_texts.proofs.TestLemmas.{and_right}

abbrev EndsInQuote : List ℕ → Type 0
EndsInQuote text = (0 < length text) × (get_or text (length text - 1) 0 ≡ 34)

longer : (b : ℕ) (text : List ℕ) → EndsInQuote text → EndsInQuote (b ∷ text)
longer b [] e = absurd (omega (arith, e.0))
longer b (c ∷ rest) e =
    let place : length (b ∷ c ∷ rest) - 1 ≡ suc (length (c ∷ rest) - 1) = omega arith in
    (omega arith, rw place e.1)

step : (b c : ℕ) (rest : List ℕ) (escape : Bool) → cond escape (is_closed rest) (not (b == 34) && is_closed (c ∷ rest)) ≡ true
    → (is_closed rest ≡ true → EndsInQuote rest) → (is_closed (c ∷ rest) ≡ true → EndsInQuote (c ∷ rest)) → EndsInQuote (b ∷ c ∷ rest)
step b c rest true e escaped plain = longer b (c ∷ rest) (longer c rest (escaped e))
step b c rest false e escaped plain = longer b (c ∷ rest) (plain (and_right (not (b == 34)) (is_closed (c ∷ rest)) e))

-- the last byte of closed text is the quote
pub closed_last : (text : List ℕ) → is_closed text ≡ true → EndsInQuote text
closed_last [] e = absurd (cc)
closed_last (b ∷ []) e = (omega arith, grind (arith, nat_tests))
closed_last (b ∷ c ∷ rest) e = step b c rest (b == 92) e (closed_last rest) (closed_last (c ∷ rest))

pub parameters_more : (piece : List ℕ) (ps : List (List ℕ)) → IsCons ps → parameters_of (piece ∷ ps) ≡ and_parameters (parameter_of (trimmed piece)) (parameters_of ps)
parameters_more piece ps (first, more, is) = rw is refl

-- the first piece is not the last one
pub first_parameter : (text piece : List ℕ) (behind : Bor (List ℕ)) → IsFirstPiece semicolons text piece (Some behind)
    → parameters_of (pieces semicolons Outside text) ≡ and_parameters (parameter_of (trimmed piece)) (parameters_of (pieces semicolons Outside behind.now))
first_parameter text piece behind cut = rw cut (parameters_more piece (pieces semicolons Outside behind.now) (pieces_cons semicolons Outside behind.now))

pub pieces_more : (essence : List ℕ) (ps : List (List ℕ)) → IsCons ps → media_type_of_pieces (essence ∷ ps) ≡ option_and_then (with_parameters (without_end essence)) (parameters_of ps)
pieces_more essence ps (first, more, is) = rw is refl

-- there are pieces after the essence
pub behind_essence : (text essence : List ℕ) (behind : Bor (List ℕ)) → IsFirstPiece semicolons text essence (Some behind)
    → media_type_of text ≡ option_and_then (with_parameters (without_end essence)) (parameters_of (pieces semicolons Outside behind.now))
behind_essence text essence behind cut =
    rw cut (pieces_more essence (pieces semicolons Outside behind.now) (pieces_cons semicolons Outside behind.now))
