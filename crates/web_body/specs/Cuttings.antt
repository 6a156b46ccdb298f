-- One body in two cuttings.
use Rattle.std.specs.Prelude.{◌≡◌, List, ⊤}
use Rattle.web_request.specs.declared.source.Mark.{Mark}
use Rattle.web_request.specs.Body.{ends_in_fault, piece_bytes}
use Rattle.web_request.specs.Reading.{Content, Faulty, Over, Whole}

-- the same bytes, and both end in a fault or neither does; pieces and stalls are free
pub record SameBody (m n : List Mark) : Type 0 where
  pub bytes : piece_bytes m ≡ piece_bytes n
  pub ending : ends_in_fault m ≡ ends_in_fault n

-- the same content, but for how many bytes the pieces have that pass the limit
abbrev pub SameContent : Content → Content → Type 0
SameContent (Over a) (Over b) = ⊤
SameContent Faulty Faulty = ⊤
SameContent (Whole b) (Whole c) = b ≡ c
SameContent _ _ = ⊥
