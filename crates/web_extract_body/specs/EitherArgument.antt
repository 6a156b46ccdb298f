-- What an argument means that is one of two.
use Rattle.std.specs.Prelude.{◌≡◌, ℕ, ◌+◌, List, Result, Ok, Err, refl}
use Rattle.web_request.specs.declared.source.Mark.{Mark}
use Rattle.web_request.specs.Body.{whole}
use Rattle.web_body.specs.PollSteps.{GivesSome}
use Rattle.web_reply.specs.Replies.{Fault}
use Rattle.web_extract.specs.Extracts.{AllowsSome}
use Rattle.web_extract.specs.ListResults.{DelayedResult}
use Rattle.web_extract.specs.ListMeanings.{ArgumentMeaning}
use Rattle.web_extract_body.specs.declared.either.Either.{Either}
use Rattle.web_extract_body.specs.declared.either.Either.TheVariants.{Left, Right}
use Rattle.web_extract_body.specs.declared.either.EitherExtractError.{EitherExtractError}
use Rattle.web_extract_body.specs.declared.either.EitherExtractError.TheVariants.{Bytes, Extract}
use Rattle.web_extract_body.specs.AddedDelays.{Then, then_some}

-- the error of the buffering, or what the left error converts into
abbrev pub ConvertsEither :
    {E F : Type 0} → (E → Fault → Type 0) → EitherExtractError E F → Fault → Type 0
ConvertsEither converts (Bytes f) x = x ≡ f
ConvertsEither converts (Extract e f) x = converts e x

pub either_converted :
    {E F : Type 0} (converts : E → Fault → Type 0) → ((e : E) → (x : Fault) × converts e x)
    → (e : EitherExtractError E F) → (x : Fault) × ConvertsEither converts e x
either_converted converts converted (Bytes f) = (f, refl)
either_converted converts converted (Extract e f) = converted e

abbrev pub EitherResult : Type 0 → Type 0 → Type 0 → Type 0 → Type 0
EitherResult V W E F = Result (Either V W) (EitherExtractError E F)

-- what may come of these marks, whatever is left of them
abbrev pub On : {T E : Type 0} → ArgumentMeaning T E → List Mark → ℕ → Result T E → Type 0
On means m n x = (rest : List Mark) × means m rest n x

-- the result of the right argument, where the left one had this error
abbrev pub right_result : {V W E F : Type 0} → E → Result W F → EitherResult V W E F
right_result e (Ok w) = Ok (Right w)
right_result e (Err f) = Err (Extract e f)

abbrev pub ComesRight :
    {V W E F : Type 0} → E → (ℕ → Result W F → Type 0) → ℕ → EitherResult V W E F → Type 0
ComesRight {V} {W} {E} {F} e right n x = (z : Result W F) × right n z × (x ≡ right_result e z)

-- after the result of the left argument: its value at once, or what comes of the right one
abbrev pub AfterLeft :
    {V W E F : Type 0} → (ℕ → Result W F → Type 0) → Result V E → ℕ → EitherResult V W E F
    → Type 0
AfterLeft right (Ok v) n x = (n ≡ 0) × (x ≡ Ok (Left v))
AfterLeft right (Err e) n x = ComesRight e right n x

-- after the bytes: their refusal at once; or the left argument, and where that refuses the right
-- one, both of the bytes as a whole body
abbrev pub AfterBytes :
    {V W E F : Type 0} → ArgumentMeaning V E → ArgumentMeaning W F → Result (List ℕ) Fault → ℕ
    → EitherResult V W E F → Type 0
AfterBytes left right (Err e) n x = (n ≡ 0) × (x ≡ Err (Bytes e))
AfterBytes left right (Ok b) n x = Then (On left (whole b)) (AfterLeft (On right (whole b))) n x

-- it leaves what the buffering leaves, and the delays add up
abbrev pub MeansEither :
    {V W E F : Type 0} → ArgumentMeaning (List ℕ) Fault → ArgumentMeaning V E
    → ArgumentMeaning W F → List Mark → List Mark → ℕ → EitherResult V W E F → Type 0
MeansEither body left right m rest n x = Then (body m rest) (AfterBytes left right) n x

pub on_some : {T E : Type 0} (means : ArgumentMeaning T E) (m : List Mark)
    → AllowsSome (means m) → GivesSome (On means m)
on_some means m some none = some (λ rest n x h. none n x (rest, h))

pub right_some : {V W E F : Type 0} (e : E) (right : ℕ → Result W F → Type 0)
    → GivesSome right → GivesSome (ComesRight {V = V} e right)
right_some e right some none = some (λ n z h. none n (right_result e z) (z, h, refl))

pub after_left_some : {V W E F : Type 0} (right : ℕ → Result W F → Type 0)
    → GivesSome right → (y : Result V E) → GivesSome (AfterLeft right y)
after_left_some right some (Ok v) none = none 0 (Ok (Left v)) (refl, refl)
after_left_some right some (Err e) none = right_some e right some none

pub after_bytes_some :
    {V W E F : Type 0} (left : ArgumentMeaning V E) (right : ArgumentMeaning W F)
    → ((m : List Mark) → AllowsSome (left m)) → ((m : List Mark) → AllowsSome (right m))
    → (y : Result (List ℕ) Fault) → GivesSome (AfterBytes left right y)
after_bytes_some left right lsome rsome (Err e) none = none 0 (Err (Bytes e)) (refl, refl)
after_bytes_some left right lsome rsome (Ok b) none =
    then_some (On left (whole b)) (AfterLeft (On right (whole b)))
    (on_some left (whole b) (lsome (whole b)))
    (after_left_some (On right (whole b)) (on_some right (whole b) (rsome (whole b)))) none

pub either_some :
    {V W E F : Type 0} (body : ArgumentMeaning (List ℕ) Fault) (left : ArgumentMeaning V E)
    (right : ArgumentMeaning W F)
    → ((m : List Mark) → AllowsSome (body m)) → ((m : List Mark) → AllowsSome (left m))
    → ((m : List Mark) → AllowsSome (right m))
    → (m : List Mark) → AllowsSome (MeansEither body left right m)
either_some body left right bsome lsome rsome m none =
    bsome m (λ rest k y h. after_bytes_some left right lsome rsome y
    (λ j x g. none rest _ x (k, j, y, h, g, refl)))

-- Where each of the three means one delay and one result, so does the argument, with its error as
-- the cause of a reply.

-- the value of the right argument, or the error of the left one
abbrev pub right_or : {V W : Type 0} → Fault → Result W Fault → Result (Either V W) Fault
right_or e (Ok w) = Ok (Right w)
right_or e (Err f) = Err e

abbrev pub after_left :
    {V W : Type 0} → DelayedResult W → Result V Fault → DelayedResult (Either V W)
after_left right (Ok v) = record { delay = 0; result = Ok (Left v) }
after_left right (Err e) = record { delay = right.delay; result = right_or e right.result }

-- the first delay and the second one together
abbrev pub added :
    {Y X : Type 0} → DelayedResult Y → (Result Y Fault → DelayedResult X) → DelayedResult X
added first after = record {
  delay = first.delay + (after first.result).delay;
  result = (after first.result).result;
}

abbrev pub after_bytes :
    {V W : Type 0} → (List Mark → DelayedResult V) → (List Mark → DelayedResult W)
    → Result (List ℕ) Fault → DelayedResult (Either V W)
after_bytes left right (Err e) = record { delay = 0; result = Err e }
after_bytes left right (Ok b) = added (left (whole b)) (after_left (right (whole b)))

abbrev pub either_result :
    {V W : Type 0} → DelayedResult (List ℕ) → (List Mark → DelayedResult V)
    → (List Mark → DelayedResult W) → DelayedResult (Either V W)
either_result body left right = added body (after_bytes left right)
