-- The argument `AllLines`: the lines of the body, or the first error that ends them.
use Rattle.std.specs.Prelude.{◌≡◌, ℕ, suc, Bool, List, [], ◌∷◌, ◌++◌, Option, None, Some, Result}
use Rattle.std.specs.Prelude.{Ok, Err, codes, refl, unwrap_or, ⊤}
use Rattle.web_texts.specs.declared.errors.ContentTypeError.{ContentTypeError}
use Rattle.web_texts.specs.Pairs.{Pair}
use Rattle.web_request.specs.declared.source.Mark.{Mark}
use Rattle.web_request.specs.MessageFields.{encoding_of}
use Rattle.web_request.specs.Request.{Request}
use Rattle.web_body.specs.declared.errors.lines_error.ReadlinesError.{ReadlinesError}
use Rattle.web_body.specs.declared.errors.lines_error.ReadlinesError.TheVariants as error
use Rattle.web_body.specs.declared.poll.Step.{Step}
use Rattle.web_body.specs.declared.poll.Step.TheVariants as step
use Rattle.web_body.specs.PollSteps.{GivesSome}
use Rattle.web_lines.specs.Lines.{Answer}
use Rattle.web_lines.specs.LineReader.{LineReader}
use Rattle.web_body.specs.MessageBody.{default_limit}
use Rattle.web_lines.specs.LineSchedules.{Due, Schedule, error_due, schedule}
use Rattle.web_reply.specs.declared.errors.cause.Cause.TheVariants as cause
use Rattle.web_reply.specs.Replies.{Fault, fault_of}
use Rattle.web_extract.specs.Extracts.{AllowsSome}
use Rattle.web_extract.specs.ListResults.{DelayedResult}
use Rattle.demo_arguments.specs.LateAndWait.{number_in}

-- each with its newline
abbrev pub Lines : Type 0
Lines = List (List ℕ)

-- The limit of a line: the parameter `limit`, if it is a number of at most 2^64 - 1, else the
-- default.
abbrev pub limit_in : List Pair → ℕ
limit_in params = unwrap_or (number_in (codes "limit") 18446744073709551615 params) default_limit

abbrev pub onto_answer : Answer → Result Lines ReadlinesError → Result Lines ReadlinesError
onto_answer (Err e) rest = Err e
onto_answer (Ok line) (Err e) = Err e
onto_answer (Ok line) (Ok lines) = Ok (line ∷ lines)

-- the lines that are answered, or the first error
abbrev pub gathered : List Due → Result Lines ReadlinesError
gathered [] = Ok []
gathered (d ∷ ds) = onto_answer d.answer (gathered ds)

abbrev pub lines_or_fault : Result Lines ReadlinesError → Result Lines Fault
lines_or_fault (Ok lines) = Ok lines
lines_or_fault (Err e) = Err (fault_of (cause.Lines e))

-- after the stalls before the first error or, without one, before the end
abbrev pub gathered_result : Schedule → DelayedResult Lines
gathered_result s = record { delay = s.ends; result = lines_or_fault (gathered s.answers) }

abbrev pub result_by : Result (Unit {0}) ContentTypeError → ℕ → List Mark → DelayedResult Lines
result_by (Ok done) limit m = gathered_result (schedule limit [] m)
result_by (Err e) limit m = gathered_result (error_due (error.ContentTypeError e))

-- a content type that is refused leaves the marks
abbrev pub rest_by : Result (Unit {0}) ContentTypeError → List Mark → List Mark
rest_by (Ok done) m = []
rest_by (Err e) m = m

module _ {L D C : Type 0} (q : Request L D C) where
  abbrev pub lines_result : List Mark → DelayedResult Lines
  lines_result m = result_by (encoding_of q.head.headers) (limit_in q.params) m

  abbrev pub lines_rest : List Mark → List Mark
  lines_rest m = rest_by (encoding_of q.head.headers) m

  abbrev pub MeansLines : List Mark → List Mark → ℕ → Result Lines Fault → Type 0
  MeansLines m rest n x =
      (rest ≡ lines_rest m) × (n ≡ (lines_result m).delay) × (x ≡ (lines_result m).result)

  pub lines_some : (m : List Mark) → AllowsSome (MeansLines m)
  lines_some m none =
      none (lines_rest m) ((lines_result m).delay) ((lines_result m).result) (refl, refl, refl)

-- a future of them

pub record LinesFutureView (S : Type 0) : Type 0 where
  pub reader : LineReader S
  -- the lines that came
  pub lines : Lines
  pub is_finished : Bool

-- the lines that came, and these after them
abbrev pub behind : Lines → Result Lines ReadlinesError → Result Lines ReadlinesError
behind came (Ok lines) = Ok (came ++ lines)
behind came (Err e) = Err e

-- where the answers that are due are stated, only their lines after those that came are allowed
abbrev pub AllowsLines : Lines → Option Schedule → ℕ → Result Lines Fault → Type 0
AllowsLines came None n x = ⊤
AllowsLines came (Some s) n x =
    (n ≡ s.ends) × (x ≡ lines_or_fault (behind came (gathered s.answers)))

pub allows_lines_some : (came : Lines) (due : Option Schedule) → GivesSome (AllowsLines came due)
allows_lines_some came None none = none 0 (Ok []) tt
allows_lines_some came (Some s) none =
    none s.ends (lines_or_fault (behind came (gathered s.answers))) (refl, refl)

-- lines were added until a stall, the end or an error
abbrev pub Gathers :
    Option Schedule → Lines → Step (Result (Unit {0}) ReadlinesError) → Option Schedule → Lines
    → Type 0
Gathers old came step.Pending new lines =
    (n : ℕ) (x : Result Lines Fault) → AllowsLines lines new n x → AllowsLines came old (suc n) x
Gathers old came (step.Ready (Ok done)) new lines = AllowsLines came old 0 (Ok lines)
Gathers old came (step.Ready (Err e)) new lines =
    AllowsLines came old 0 (Err (fault_of (cause.Lines e)))
Gathers old came step.NoMemory new lines = ⊤
