-- What is picked of an argument.
use Rattle.std.specs.Prelude.{◌≡◌, ℕ, List, Result, refl}
use Rattle.web_request.specs.declared.source.Mark.{Mark}
use Rattle.web_reply.specs.declared.errors.cause.Cause.TheVariants.{Io, Parse}
use Rattle.web_reply.specs.declared.errors.cause.IoKind.TheVariants.{Other}
use Rattle.web_reply.specs.Replies.{Fault, fault_of}
use Rattle.web_texts.specs.declared.errors.ParseError.{ParseError}
use Rattle.web_extract.specs.ConvertedFutures.{GivesConverted, converts_by, means_converted_some}
use Rattle.web_extract.specs.Extracts.{AllowsSome}
use Rattle.web_extract.specs.ListMeanings.{ArgumentMeaning, Meaning}
use Rattle.web_extract.specs.SomeAnswer.{itself}
use Rattle.web_extract.specs.declared.never.Never.{Never}
use Rattle.web_extract_body.specs.EitherArgument.{ConvertsEither, either_converted}
use Rattle.web_extract_body.specs.declared.either.EitherExtractError.{EitherExtractError}
use Rattle.demo_picked.specs.declared.picked.Picked.{Picked}

-- the errors that refusals convert to
abbrev pub same_fault : Fault → Fault
same_fault e = e

abbrev pub never_fault : Never → Fault
never_fault e = fault_of (Io Other)

abbrev pub parse_fault : ParseError → Fault
parse_fault e = fault_of (Parse e)

-- a refusal converts to the error that a function gives
abbrev pub By : {E : Type 0} → (E → Fault) → E → Fault → Type 0
By error e f = f ≡ error e

pub converted_by : {E : Type 0} (error : E → Fault) (e : E) → (f : Fault) × By error e f
converted_by error e = (error e, refl)

-- the refusal of the body, or that of the left argument
abbrev pub ByEither : EitherExtractError Fault Fault → Fault → Type 0
ByEither = ConvertsEither (By same_fault)

pub converted_by_either : (e : EitherExtractError Fault Fault) → (f : Fault) × ByEither e f
converted_by_either = either_converted (By same_fault) itself

module _ {T E : Type 0} (value : T → Picked) (converts : E → Fault → Type 0)
    (means : ArgumentMeaning T E) where
  -- the value as what is picked, or the error that the refusal converts to
  abbrev pub Picks : Meaning Picked
  Picks m rest n x = GivesConverted (λ v w. w ≡ value v) converts (means m rest) n x

  pub picks_some : ((e : E) → (f : Fault) × converts e f) → (m : List Mark)
      → AllowsSome (means m) → AllowsSome (Picks m)
  picks_some converted m some =
      means_converted_some (λ v w. w ≡ value v) converts (converts_by value) converted (means m)
      some
