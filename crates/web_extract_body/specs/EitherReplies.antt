-- The response of one of two values.
use Rattle.web_extract_body.specs.declared.either.Either.{Either}
use Rattle.web_extract_body.specs.declared.either.Either.TheVariants.{Left, Right}

-- what the value of either side responds
abbrev pub RespondsEither : {V W Q P : Type 0} → (V → Q → P → Type 0) → (W → Q → P → Type 0)
    → Either V W → Q → P → Type 0
RespondsEither left right (Left v) q r = left v q r
RespondsEither left right (Right w) q r = right w q r

abbrev pub EitherReplyNeedsNoMemory :
    {V W : Type 0} → (V → Type 0) → (W → Type 0) → Either V W → Type 0
EitherReplyNeedsNoMemory left right (Left v) = left v
EitherReplyNeedsNoMemory left right (Right w) = right w
