-- Quoted text with its closing quote.
use Rattle.std.proofs.Common.{◌≡◌, ℕ, List, ◌∷◌, Some, refl}
use Rattle.std.specs.Borrow.{Bor}
use Rattle.web_texts.specs.Pieces.{pieces, IsFirstPiece}
use Rattle.web_texts.proofs.PieceLemmas.{IsCons, pieces_cons}
use Rattle.web_entities.specs.DispositionPlaces.{in_quotes}
use Rattle.web_entities.specs.declared.disposition_places.Inside.TheVariants.{Plain}
use Rattle.web_texts.specs.QuotedText.{unescaped}
use Rattle.web_entities.specs.Dispositions.{before_quote, quoted_value_of}

two : (inner : List ℕ) (ps : List (List ℕ)) → IsCons ps → before_quote (inner ∷ ps) ≡ Some (unescaped inner)
two inner ps (first, more, is) = rw is refl

pub closed_from : (text inner : List ℕ) (rest : Bor (List ℕ)) → IsFirstPiece in_quotes text inner (Some rest) → quoted_value_of text ≡ Some (unescaped inner)
closed_from text inner rest cut = rw cut (two inner (pieces in_quotes Plain rest.now) (pieces_cons in_quotes Plain rest.now))
