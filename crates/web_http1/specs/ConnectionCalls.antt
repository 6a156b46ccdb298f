-- A connection that took pieces and answered, in any order of the calls.
use Rattle.std.specs.Prelude.{◌≡◌, ℕ, List, [], ◌∷◌, ◌++◌, Option, None, Some}
use Rattle.web_worker.specs.Setting.{Setting}
use Rattle.web_http1.specs.Connections.{ConnectionView, StepsFrom}
use Rattle.web_http1.specs.ConnectionSteps.{with_piece}

-- a call: of `feed` with a piece, or of `answer` or `answer_next`
abbrev pub Call : Type 0
Call = Option (List ℕ)

-- the bytes of all pieces
abbrev pub fed : List Call → List ℕ
fed [] = []
fed (Some piece ∷ calls) = piece ++ fed calls
fed (None ∷ calls) = fed calls

module _ {S L D C V K : Type 0} (s : Setting S L D C V K) where
  -- These calls led from `old` to `new`. `given` was written in all, whatever stood before it at
  -- each of them: the bytes that were written may have been sent and dropped between two calls.
  abbrev pub Called : ConnectionView → List Call → ConnectionView → List ℕ → Type 0
  Called old [] new given = (new ≡ old) × (given ≡ [])
  Called old (Some piece ∷ calls) new given = Called (with_piece old piece) calls new given
  Called old (None ∷ calls) new given =
      (mid : ConnectionView) × (before : List ℕ) × (first : List ℕ) × (others : List ℕ)
      × StepsFrom s old mid before (before ++ first)
      × (mid.limits ≡ old.limits)
      × Called mid calls new others × (given ≡ first ++ others)
