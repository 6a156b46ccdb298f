-- Arguments that are read from a body, whose refusals a configured handler may answer.
use Rattle.std.specs.Prelude.{◌≡◌, ℕ, Bool, List, [], if◌then◌else◌, ⊤, refl}
use Rattle.std.specs.Prelude.{Option, None, Some, Result, Ok, Err}
use Rattle.web_request.specs.declared.source.Mark.{Mark}
use Rattle.web_request.specs.Reading.{reading}
use Rattle.web_request.specs.Request.{Request, Record}
use Rattle.web_body.specs.Collector.{Read, StallsNext, read_of}
use Rattle.web_body.specs.PollSteps.{GivesSome, MatchStep}
use Rattle.web_body.specs.declared.poll.Step.{Step}
use Rattle.web_body.specs.declared.poll.Step.TheVariants.{Pending, Ready, NoMemory}
use Rattle.web_decoders.specs.Decoding.{DecodedReading, DecodesSome, RefusedOr}
use Rattle.web_reply.specs.Replies.{Fault}
use Rattle.web_extract.specs.ConvertedFutures.{GivesConverted, converted_result}
use Rattle.web_extract.specs.Extracts.{Possible}
use Rattle.web_extract.specs.ListResults.{DelayedResult}
use Rattle.web_extract.specs.Refusals.{Handler, RefusedBy, refused_some}

-- a collector under way, and the request, where a handler may have to answer its refusal
pub record HandledBody (B R : Type 0) : Type 0 where
  pub body : B
  pub request : Option R

-- it is kept where there is a handler
abbrev pub IsKept : {H L D C : Type 0}
    → Option H → Request L D C → Option (Record L D C) → Type 0
IsKept None q kept = kept ≡ None
IsKept {H} {L} {D} {C} (Some h) q kept =
    (r : Record L D C) × (kept ≡ Some r) × (r.request ≡ q)

module _ {H E L D C : Type 0}
    (refuses : Handler H E) (own : E → Fault) (handler : List L → Option H) where
  -- the error of a refusal, by the handler that counts for the request that is kept; where none is
  -- kept, its own
  abbrev pub KeptErrors : Option (Record L D C) → E → Fault → Type 0
  KeptErrors None e x = x ≡ own e
  KeptErrors (Some r) e x =
      RefusedBy refuses own (handler r.request.layers) e r.request.head x

  pub kept_some : (kept : Option (Record L D C)) (e : E)
      → Possible (KeptErrors kept e)
  kept_some None e none = none (own e) refl
  kept_some (Some r) e none =
      refused_some refuses own (handler r.request.layers) e r.request.head none

module _ {T V E : Type 0} (value : T → V) (errors : E → Fault → Type 0) where
  -- what is given, with the value as the argument and the refusal as its error
  abbrev pub GivesHandled : (ℕ → Result T E → Type 0) → ℕ → Result V Fault → Type 0
  GivesHandled gives n x = GivesConverted (λ v w. w ≡ value v) errors gives n x

  some_of : ((e : E) → Possible (errors e))
      → (gives : ℕ → Result T E → Type 0) (n : ℕ) (y : Result T E) → gives n y
      → GivesSome (GivesHandled gives)
  some_of some gives n (Ok v) h none = none n (Ok (value v)) (Ok v, h, (value v, refl, refl))
  some_of some gives n (Err e) h none = some e (λ f k. none n (Err f) (Err e, h, (f, k, refl)))

  pub handled_some : ((e : E) → Possible (errors e))
      → (gives : ℕ → Result T E → Type 0) → GivesSome gives → GivesSome (GivesHandled gives)
  handled_some some gives given none = given (λ n y h. some_of some gives n y h none)

  -- the same step, with the error of a refusal, for which memory may be lacking
  abbrev pub HandlesStep : Step (Result T E) → Step (Result V Fault) → Type 0
  HandlesStep Pending t = t ≡ Pending
  HandlesStep (Ready (Ok v)) t = t ≡ Ready (Ok (value v))
  HandlesStep (Ready (Err e)) t =
      MatchStep t ⊥ (λ x. (f : Fault) × errors e f × (x ≡ Err f)) ⊤
  HandlesStep NoMemory t = t ≡ NoMemory

-- the next poll allocates nothing: a stall is next, or a refusal that no handler answers
abbrev pub HandledNeedsNoMemory : {R E : Type 0}
    → Option R → Option E → Option (List Mark) → Type 0
HandledNeedsNoMemory request None marks = StallsNext marks
HandledNeedsNoMemory request (Some e) marks = request ≡ None

-- the marks that are left by an argument that takes them, or leaves them
abbrev pub rest_where : Bool → List Mark → List Mark
rest_where is_taken m = if is_taken then [] else m

-- the refusal by the head at once; where there is none, what reading the marks is decoded to
abbrev pub ReadsBody : {T E : Type 0} → (Read → Result T E → Type 0) → ℕ → Option E → List Mark
    → ℕ → Result T E → Type 0
ReadsBody decodes limit refusal m n x = RefusedOr refusal (DecodedReading decodes limit m) n x

pub reads_some : {T E : Type 0} (decodes : Read → Result T E → Type 0) → DecodesSome decodes
    → (limit : ℕ) (refusal : Option E) (m : List Mark)
    → GivesSome (ReadsBody decodes limit refusal m)
reads_some decodes some limit (Some e) m none = none 0 (Err e) (refl, refl)
reads_some decodes some limit None m none =
    let r = reading limit m in some (read_of r.content) (λ x h. none r.delay x (refl, h))

-- the same where the decoder is a function
abbrev pub delay_of_body : {E : Type 0} → ℕ → Option E → List Mark → ℕ
delay_of_body limit (Some e) m = 0
delay_of_body limit None m = (reading limit m).delay

abbrev pub result_of_body : {T E : Type 0} → (Read → Result T E) → ℕ → Option E → List Mark
    → Result T E
result_of_body decoded limit (Some e) m = Err e
result_of_body decoded limit None m = decoded (read_of ((reading limit m).content))

abbrev pub handled_result : {T V E : Type 0} → (T → V) → (E → Fault) → (Read → Result T E)
    → ℕ → Option E → List Mark → DelayedResult V
handled_result value error decoded limit refusal m = record {
  delay = delay_of_body limit refusal m;
  result = converted_result value error (result_of_body decoded limit refusal m);
}
