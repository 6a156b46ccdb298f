-- One of two arguments where each of them allows exactly one result.
use Rattle.std.specs.Prelude.{◌≡◌, ℕ, List, Result}
use Rattle.web_request.specs.declared.source.Mark.{Mark}
use Rattle.web_reply.specs.Replies.{Fault}
use Rattle.web_extract.specs.ListMeanings.{ArgumentMeaning, Meaning, Member}
use Rattle.web_extract.specs.ListResults.{DelayedResult}
use Rattle.web_extract_body.specs.EitherArgument.{ConvertsEither, MeansEither}
use Rattle.web_extract_body.specs.EitherArgument.{either_result}

-- it allows this result at this delay, and no other
abbrev pub Only : {T : Type 0} → (ℕ → Result T Fault → Type 0) → DelayedResult T → Type 0
Only {T} gives v =
    (n : ℕ) (x : Result T Fault) → gives n x → (n ≡ v.delay) × (x ≡ v.result)

-- of all marks, whatever is left of them
abbrev pub OnlyOf : {T : Type 0} → Meaning T → (List Mark → DelayedResult T) → Type 0
OnlyOf means result = (m rest : List Mark) → Only (means m rest) (result m)

-- where the buffering and both arguments allow one result each, with their errors converted, so
-- does the argument that is one of the two
abbrev pub DecidesEither :
    {V W E F : Type 0} → ArgumentMeaning (List ℕ) Fault → (E → Fault → Type 0)
    → ArgumentMeaning V E → (F → Fault → Type 0) → ArgumentMeaning W F → Type 0
DecidesEither {V} {W} body left_converts left right_converts right =
    (m rest : List Mark) (b : DelayedResult (List ℕ))
    (l : List Mark → DelayedResult V) (r : List Mark → DelayedResult W)
    → Only (body m rest) b → OnlyOf (Member left_converts left) l
    → OnlyOf (Member right_converts right) r
    → Only (Member (ConvertsEither left_converts) (MeansEither body left right) m rest)
    (either_result b l r)
