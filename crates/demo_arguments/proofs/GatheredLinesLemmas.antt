-- What gathering lines one by one comes to.
use Rattle.std.proofs.Common.{◌≡◌, ◌⊎◌, inl, inr, ℕ, suc, List, [], ◌∷◌, ◌++◌, Option, Some, None, Ok, Err, refl, sym, ◌∙◌, ap, map, append_assoc, subst}
use Rattle.std.specs.Prelude.{IfSome, Result}
use Rattle.std.specs.Option.{option_map}
use Rattle.std.proofs.lemmas.List.{append-nil}
use Rattle.web_texts.specs.declared.errors.ContentTypeError.{ContentTypeError}
use Rattle.web_request.specs.declared.source.Mark.{Mark}
use Rattle.web_request.specs.Feed.{Feed}
use Rattle.web_request.specs.MessageFields.{encoding_of}
use Rattle.web_request.specs.Request.{Request}
use Rattle.web_body.specs.declared.errors.lines_error.ReadlinesError.{ReadlinesError}
use Rattle.web_body.specs.declared.errors.lines_error.ReadlinesError.TheVariants as error
use Rattle.web_body.specs.declared.payload.Payload.{Payload}
use Rattle.web_body.specs.declared.payload.Payload.TheVariants as payload
use Rattle.web_body.specs.Payload.{payload_feed}
use Rattle.web_reply.specs.declared.errors.cause.Cause.TheVariants as cause
use Rattle.web_reply.specs.Replies.{Fault, fault_of}
use Rattle.web_lines.specs.LineReader.{LineReader}
use Rattle.web_lines.specs.LineReading.{new_reader, schedule_of, taken_from}
use Rattle.web_lines.specs.LineSchedules.{Due, Schedule, error_due, later, line_due, nothing_due, one_later, schedule}
use Rattle.web_extract.specs.Extracts.{Extracts}
use Rattle.web_service.specs.Services.{Service}
use Rattle.demo_arguments.specs.LinesArgument.{AllowsLines, Lines, MeansLines, limit_in, behind, gathered, lines_or_fault, onto_answer, rest_by, result_by}

-- what is allowed now was allowed at first
abbrev pub GoesOnWith : Option Schedule → Lines → Option Schedule → Lines → Type 0
GoesOnWith first came0 now came = (n : ℕ) (x : Result Lines Fault) → AllowsLines came now n x → AllowsLines came0 first n x

pub nothing_yet : (first : Option Schedule) (came : Lines) → GoesOnWith first came first came
nothing_yet first came n x allowed = allowed

line_behind : (came : Lines) (line : List ℕ) (r : Result Lines ReadlinesError) → behind (came ++ line ∷ []) r ≡ behind came (onto_answer (Ok line) r)
line_behind came line (Ok lines) = ap Ok (append_assoc came (line ∷ []) lines)
line_behind came line (Err e) = refl

one_line : (came : Lines) (line : List ℕ) (next : Option Schedule) (n : ℕ) (x : Result Lines Fault) → AllowsLines (came ++ line ∷ []) next n x → AllowsLines came (option_map (line_due line) next) n x
one_line came line None n x allowed = tt
one_line came line (Some s) n x allowed = (allowed.0, allowed.1 ∙ ap lines_or_fault (line_behind came line (gathered s.answers)))

later_same : (ds : List Due) → gathered (map later ds) ≡ gathered ds
later_same [] = refl
later_same (d ∷ ds) = ap (onto_answer d.answer) (later_same ds)

one_stall : (came : Lines) (next : Option Schedule) (n : ℕ) (x : Result Lines Fault) → AllowsLines came next n x → AllowsLines came (option_map one_later next) (suc n) x
one_stall came None n x allowed = tt
one_stall came (Some s) n x allowed = (ap suc allowed.0, allowed.1 ∙ ap (λ r. lines_or_fault (behind came r)) (sym (later_same s.answers)))

at_end : (came : Lines) (now : Option Schedule) → IfSome now (λ s. s ≡ nothing_due) → AllowsLines came now 0 (Ok came)
at_end came None none = tt
at_end came (Some s) none = rw none (refl, ap Ok (sym (append-nil came)))

at_error : (came : Lines) (now : Option Schedule) (e : ReadlinesError) → IfSome now (λ s. s ≡ error_due e) → AllowsLines came now 0 (Err (fault_of (cause.Lines e)))
at_error came None e is = tt
at_error came (Some s) e is = rw is (refl, refl)

module _ (first : Option Schedule) (came0 : Lines) (now : Option Schedule) (came : Lines) (on : GoesOnWith first came0 now came) where
  pub line_more : (line : List ℕ) (next : Option Schedule) (lines : Lines) → now ≡ option_map (line_due line) next → lines ≡ came ++ line ∷ [] → GoesOnWith first came0 next lines
  line_more line next lines is added n x allowed =
      let more : AllowsLines (came ++ line ∷ []) next n x = subst (λ (l : Lines). AllowsLines l next n x) added allowed in
      on n x (rw is (one_line came line next n x more))

  pub stalled : (next : Option Schedule) → now ≡ option_map one_later next → (n : ℕ) (x : Result Lines Fault) → AllowsLines came next n x → AllowsLines came0 first (suc n) x
  stalled next is n x allowed = on (suc n) x (rw is (one_stall came next n x allowed))

  pub ended : IfSome now (λ s. s ≡ nothing_due) → AllowsLines came0 first 0 (Ok came)
  ended none = on 0 (Ok came) (at_end came now none)

  pub failed : (e : ReadlinesError) → IfSome now (λ s. s ≡ error_due e) → AllowsLines came0 first 0 (Err (fault_of (cause.Lines e)))
  failed e is = on 0 (Err (fault_of (cause.Lines e))) (at_error came now e is)

-- ---- what a reader of all lines gives

behind_none : (r : Result Lines ReadlinesError) → behind [] r ≡ r
behind_none (Ok lines) = refl
behind_none (Err e) = refl

-- the payload that is left, as the content type says
abbrev pub left_by : {S : Type 0} → Result (Unit {0}) ContentTypeError → Payload S → Payload S
left_by (Ok done) p = payload.None
left_by (Err e) p = p

abbrev pub MeansBy : Result (Unit {0}) ContentTypeError → ℕ → List Mark → List Mark → ℕ → Result Lines Fault → Type 0
MeansBy encoding limit m rest n x = (rest ≡ rest_by encoding m) × (n ≡ (result_by encoding limit m).delay) × (x ≡ (result_by encoding limit m).result)

module _ {S : Type 0} (feed : S → Feed) (limit : ℕ) where
  read_marks : (m : List Mark) (n : ℕ) (x : Result Lines Fault) → AllowsLines [] (Some (schedule limit [] m)) n x → MeansBy (Ok tt) limit m [] n x
  read_marks m n x allowed = (refl, allowed.0, allowed.1 ∙ ap lines_or_fault (behind_none (gathered (schedule limit [] m).answers)))

  of_marks : (marks : Option (List Mark)) → Extracts (MeansBy (Ok tt) limit) (AllowsLines [] (option_map (schedule limit []) marks)) marks (Some [])
  of_marks None = tt
  of_marks (Some m) = ([], refl, read_marks m)

  refused_marks : (e : ContentTypeError) (marks : Option (List Mark)) → Extracts (MeansBy (Err e) limit) (AllowsLines [] (Some (error_due (error.ContentTypeError e)))) marks marks
  refused_marks e None = tt
  refused_marks e (Some m) = (m, refl, λ n x allowed. (refl, allowed.0, allowed.1))

  of_reader : (encoding : Result (Unit {0}) ContentTypeError) (p : Payload S)
      → Extracts (MeansBy encoding limit) (AllowsLines [] (schedule_of feed (record (new_reader encoding p) { limit = limit }))) (payload_feed feed p).marks (payload_feed feed (left_by encoding p)).marks
  of_reader (Ok done) p = of_marks (payload_feed feed p).marks
  of_reader (Err e) p = refused_marks e (payload_feed feed p).marks

  pub reads_lines : (encoding : Result (Unit {0}) ContentTypeError) (p new : Payload S) (reader : LineReader S) → reader ≡ record (new_reader encoding p) { limit = limit } → new ≡ left_by encoding p
      → Extracts (MeansBy encoding limit) (AllowsLines [] (schedule_of feed reader)) (payload_feed feed p).marks (payload_feed feed new).marks
  reads_lines encoding p new reader is left = rw (is, left) (of_reader encoding p)

taken_payload : {L D C S : Type 0} (encoding : Result (Unit {0}) ContentTypeError) (old new : Service L D C S) → new ≡ taken_from encoding (record old { payload = payload.None }) old → new.payload ≡ left_by encoding old.payload
taken_payload {L} {D} {C} {S} (Ok done) old new e = ap (λ (s : Service L D C S). s.payload) e
taken_payload {L} {D} {C} {S} (Err error) old new e = ap (λ (s : Service L D C S). s.payload) e

left_one : {S : Type 0} (encoding : Result (Unit {0}) ContentTypeError) (p left : Payload S) → left ≡ left_by encoding p → (left ≡ p) ⊎ (left ≡ payload.None)
left_one (Ok done) p left e = inr e
left_one (Err error) p left e = inl e

module _ {L D C S : Type 0} (feed : S → Feed) (q : Request L D C) (p left : Payload S) (old new : Service L D C S) (of_request : old.request.request ≡ q) (of_payload : old.payload ≡ p)
    (taken : new ≡ taken_from (encoding_of old.request.request.head.headers) (record old { payload = payload.None }) old) (rest : left ≡ new.payload) where
  left_is : left ≡ left_by (encoding_of old.request.request.head.headers) old.payload
  left_is = rest ∙ taken_payload (encoding_of old.request.request.head.headers) old new taken

  pub payload_left : (left ≡ p) ⊎ (left ≡ payload.None)
  payload_left = rw (← of_payload) (left_one (encoding_of old.request.request.head.headers) old.payload left left_is)

  pub lines_extracted : (first reader : LineReader S) (limit : ℕ) → first ≡ new_reader (encoding_of old.request.request.head.headers) old.payload → reader ≡ record first { limit = limit } → limit ≡ limit_in q.params
      → Extracts (MeansLines q) (AllowsLines [] (schedule_of feed reader)) (payload_feed feed p).marks (payload_feed feed left).marks
  lines_extracted first reader limit made limited asked =
      let asks : limit ≡ limit_in old.request.request.params = asked ∙ ap (λ (r : Request L D C). limit_in r.params) (sym of_request) in
      let is : reader ≡ record (new_reader (encoding_of old.request.request.head.headers) old.payload) { limit = limit_in old.request.request.params } =
      limited ∙ (ap (λ (r : LineReader S). record r { limit = limit }) made ∙ ap (λ (n : ℕ). record (new_reader (encoding_of old.request.request.head.headers) old.payload) { limit = n }) asks) in
      rw (← of_request, ← of_payload) (reads_lines feed (limit_in old.request.request.params) (encoding_of old.request.request.head.headers) old.payload left reader is left_is)
