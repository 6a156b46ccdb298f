-- Marks without empty pieces.
use Rattle.std.proofs.Common.{◌≡◌, true, false, List, [], ◌∷◌, ◌==◌, length, refl, arith, nat_lt}
use Rattle.std.proofs.lemmas.Bool.{and_parts}
use Rattle.std.proofs.lemmas.Bool.Decides.{nat_tests}
use Rattle.web_request.specs.declared.source.Mark.{Mark}
use Rattle.web_request.specs.declared.source.Mark.TheVariants.{Piece, Stall, Fault}
use Rattle.web_request.specs.Body.{is_body, piece_bytes}
use Rattle.web_body.specs.MemoryBodies.{without_empty}

-- empty pieces have no bytes
pub joined_same : (m : List Mark) → piece_bytes (without_empty m) ≡ piece_bytes m
joined_same [] = refl
joined_same (Piece [] ∷ m) = joined_same m
joined_same (Piece (x ∷ b) ∷ m) =
    let some : (length (x ∷ b) == 0) ≡ false = grind (arith, nat_tests) in
    rw (some, joined_same m) refl
joined_same (Stall ∷ m) = joined_same m
joined_same (Fault ∷ m) = joined_same m

-- a body has no empty piece
pub body_same : (m : List Mark) → is_body m ≡ true → without_empty m ≡ m
body_same [] body = refl
body_same (Piece b ∷ m) body =
    let parts = and_parts (nat_lt 0 (length b)) (is_body m) body in
    let some : (length b == 0) ≡ false = grind (arith, nat_tests, parts.0) in
    rw (some, body_same m parts.1) refl
body_same (Stall ∷ m) body = rw (body_same m body) refl
body_same (Fault ∷ []) body = refl
body_same (Fault ∷ x ∷ m) body = absurd (cc)
