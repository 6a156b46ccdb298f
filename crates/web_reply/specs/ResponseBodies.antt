-- Bodies of responses as plain values.
use Rattle.std.specs.Prelude.{ℕ, List, length, Option}
use Rattle.web_request.specs.declared.source.Mark.{Mark}
use Rattle.web_request.specs.Feed.{Feed}
use Rattle.web_body.specs.Payload.{payload_feed}
use Rattle.web_reply.specs.declared.body.BodySize.{BodySize}
use Rattle.web_reply.specs.declared.body.BodySize.TheVariants as size
use Rattle.web_reply.specs.declared.body.WholeBody.{WholeBody}
use Rattle.web_reply.specs.declared.body.WholeBody.TheVariants as whole
use Rattle.web_reply.specs.declared.body.BoxBody.{BoxBody}
use Rattle.web_reply.specs.declared.body.BoxBody.TheVariants as boxed
use Rattle.web_reply.specs.declared.body.EitherBody.{EitherBody}
use Rattle.web_reply.specs.declared.body.EitherBody.TheVariants.{Left, Right}

-- a body, with the marks of its payload where its source states them
pub data Plain : Type 0 where
  Empty : Plain
  Bytes : List ℕ → Plain
  Sized : ℕ → Option (List Mark) → Plain
  Stream : Option (List Mark) → Plain

abbrev pub size_of : Plain → BodySize
size_of Plain.Empty = size.Sized 0
size_of (Plain.Bytes b) = size.Sized (length b)
size_of (Plain.Sized n m) = size.Sized n
size_of (Plain.Stream m) = size.Stream

abbrev pub whole_plain : WholeBody → Plain
whole_plain whole.Empty = Plain.Empty
whole_plain (whole.Bytes b) = Plain.Bytes b

abbrev pub box_plain : {S : Type 0} → (S → Feed) → BoxBody S → Plain
box_plain feed boxed.Empty = Plain.Empty
box_plain feed (boxed.Bytes b) = Plain.Bytes b
box_plain feed (boxed.Sized n p) = Plain.Sized n (payload_feed feed p.value).marks
box_plain feed (boxed.Stream p) = Plain.Stream (payload_feed feed p.value).marks

-- the body as a plain value, by the function of its own side
abbrev pub either_plain :
    {L R : Type 0} → (L → Plain) → (R → Plain) → EitherBody L R → Plain
either_plain left right (Left b) = left b
either_plain left right (Right b) = right b

-- the fact of the body's own side
abbrev pub OnEither :
    {L R : Type 0} → (L → Type 0) → (R → Type 0) → EitherBody L R → Type 0
OnEither left right (Left b) = left b
OnEither left right (Right b) = right b
