-- What collecting the parts of a stream comes to, and how many polls before it return `Pending`.
use Rattle.std.specs.Prelude.{◌≡◌, ℕ, suc, ◌++◌, Bool, List, [], Option, None, Some, IfSome, ⊤}
use Rattle.std.specs.Prelude.{Result, Ok, Err, refl}
use Rattle.std.specs.Option.{option_map}
use Rattle.web_request.specs.Feed.{Feed}
use Rattle.web_body.specs.PollSteps.{GivesSome, MatchStep}
use Rattle.web_body.specs.declared.poll.Step.{Step}
use Rattle.web_body.specs.declared.poll.Step.TheVariants as step
use Rattle.web_multipart_parts.specs.declared.part.Part.{Part}
use Rattle.web_reply.specs.Replies.{Fault}
use Rattle.web_multipart_stream.specs.MultipartErrors.{multipart_fault}
use Rattle.web_multipart_stream.specs.PartSchedules.{Closed, Failed, Outcome, Schedule}
use Rattle.web_multipart_stream.specs.PartStreams.{schedule_of}
use Rattle.web_multipart_stream.specs.ScheduleLaws.{parts_of_schedule}
use Rattle.web_multipart_stream.specs.StreamViews.{StreamView}
use Rattle.web_multipart_stream.specs.declared.error.MultipartError.{MultipartError}

-- all parts of a body, how they end, and after how many stalls
pub record Collection : Type 0 where
  pub delay : ℕ
  pub parts : List Part
  pub outcome : Outcome

-- these parts came, and then what is due
abbrev pub collection : List Part → Schedule → Collection
collection came s = record {
  delay = s.ends;
  parts = came ++ parts_of_schedule s;
  outcome = s.outcome;
}

abbrev pub one_later : Collection → Collection
one_later c = record c { delay = suc c.delay }

abbrev pub result_by : List Part → Outcome → Result (List Part) Fault
result_by parts Closed = Ok parts
result_by parts (Failed error) = Err (multipart_fault error)

-- all parts, or else the first error
abbrev pub result_of : Collection → Result (List Part) Fault
result_of c = result_by c.parts c.outcome

-- it ends now, with these parts or with an error
abbrev pub EndsNow : List Part → Result (Unit {0}) MultipartError → Collection → Type 0
EndsNow parts (Ok done) c = c ≡ record { delay = 0; parts = parts; outcome = Closed }
EndsNow parts (Err error) c = (c.delay ≡ 0) × (c.outcome ≡ Failed error)

-- what collecting on says of what was to come, and of what is to come then
abbrev pub Collects : Option Collection → Step (Result (Unit {0}) MultipartError)
    → List Part → Option Collection → Type 0
Collects old step.Pending parts new = old ≡ option_map one_later new
Collects old (step.Ready ended) parts new = IfSome old (EndsNow parts ended)
Collects old step.NoMemory parts new = ⊤

-- a refusal by this error, for which memory may be lacking
abbrev pub RefusesBy : {T : Type 0} → MultipartError → Step (Result T Fault) → Type 0
RefusesBy error s = MatchStep s ⊥ (λ x. x ≡ Err (multipart_fault error)) ⊤

pub record PartsFuture (S : Type 0) : Type 0 where
  pub stream : StreamView S
  -- the parts that came
  pub parts : List Part
  pub is_finished : Bool

-- the result comes after so many polls; where that is unknown, all is allowed
abbrev pub AllowsParts : Option Collection → ℕ → Result (List Part) Fault → Type 0
AllowsParts None n x = ⊤
AllowsParts (Some c) n x = (n ≡ c.delay) × (x ≡ result_of c)

some_parts : (c : Option Collection) → (n : ℕ) × (x : Result (List Part) Fault) × AllowsParts c n x
some_parts None = (0, Ok [], tt)
some_parts (Some c) = (c.delay, result_of c, (refl, refl))

module _ {S : Type 0} (feed : S → Feed) where
  abbrev pub collection_of : StreamView S → List Part → Option Collection
  collection_of stream came = option_map (collection came) (schedule_of feed stream)

  abbrev pub parts_gives : PartsFuture S → ℕ → Result (List Part) Fault → Type 0
  parts_gives f n x = AllowsParts (collection_of f.stream f.parts) n x

  pub parts_some : (f : PartsFuture S) → GivesSome (parts_gives f)
  parts_some f none = let h = some_parts (collection_of f.stream f.parts) in none h.0 h.1 h.2
