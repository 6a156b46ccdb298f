-- Runs of pieces.
use Rattle.std.proofs.Common.{◌≡◌, ◌∙◌, ◌≤◌, ℕ, ◌+◌, List, [], ◌∷◌, ◌++◌, Option, None, Some, ap, sym, refl, length, take, append_assoc, length-append, arith, take_at, subst, flat_map}
use Rattle.std.specs.Io.KnownBytes.{Consumes}
use Rattle.std.proofs.lemmas.Option.{none-some, same_Some}
use Rattle.web_request.specs.declared.source.Turn.TheVariants.{End}
use Rattle.web_files.specs.Pieces.{GivesPieces, PiecesLeft, ReadsPiece, SendsAFront, SendsAll, bytes_of, pieces_of}

-- what is left where a reader's bytes were known
consumed : (old new : Option (List ℕ)) (xs bs : List ℕ) → old ≡ Some xs → Consumes old new bs → (ys : List ℕ) × (new ≡ Some ys) × (xs ≡ bs ++ ys)
consumed None new xs bs e h = absurd (none-some _ e)
consumed (Some zs) None xs bs e h = absurd h
consumed (Some zs) (Some ys) xs bs e h = (ys, refl, sym (same_Some _ _ e) ∙ h)

-- the pieces of a run are the front of the bytes, and the number that is left is lower by theirs
run : (old : PiecesLeft) (xs : List ℕ) (pieces : List (List ℕ)) (last : PiecesLeft) → old.left ≡ Some xs → GivesPieces old pieces last → (rest : List ℕ) × (xs ≡ bytes_of pieces ++ rest) × (old.feed.answers ≡ last.feed.answers + length (bytes_of pieces))
run old xs [] last e g = (xs, refl, omega (arith, ap (λ (s : PiecesLeft). s.feed.answers) g))
run old xs (piece ∷ more) last e g =
    let step = consumed old.left g.0.left xs piece e g.1.1 in
    let rest = run g.0 step.0 more last step.1 g.2 in
    (rest.0, step.2 ∙ ap (λ t. piece ++ t) rest.1 ∙ sym (append_assoc piece (bytes_of more) rest.0), omega (arith, g.1.2, rest.2, length-append piece (bytes_of more)))

pub sends_a_front : SendsAFront
sends_a_front count bytes pieces last g =
    let all = run (pieces_of count (Some bytes)) bytes pieces last refl g in
    (all.0, all.1, omega (arith, all.2))

pub sends_all : SendsAll
sends_all count bytes pieces last after g end =
    let all = run (pieces_of count (Some bytes)) bytes pieces last refl g in
    let long : length (bytes_of pieces) ≡ count = omega (arith, all.2, end.1) in
    (sym (ap (λ t. take count t) all.1 ∙ take_at (bytes_of pieces) all.0 count long), long)
