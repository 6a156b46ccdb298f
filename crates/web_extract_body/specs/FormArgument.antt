-- Forms as arguments.
use Rattle.std.specs.Prelude.{◌≡◌, ℕ, List, Option, None, Result, codes, min, refl}
use Rattle.http_header.specs.FieldValue.{FieldValue}
use Rattle.http_header.specs.HeaderMap.{Entries}
use Rattle.web_texts.specs.Pairs.{Pair}
use Rattle.web_request.specs.declared.source.Mark.{Mark}
use Rattle.web_request.specs.Feed.{Feed}
use Rattle.web_request.specs.Head.{Head}
use Rattle.web_request.specs.MessageFields.{first_content_type}
use Rattle.web_codec.specs.declared.faults.ReadFault.{ReadFault}
use Rattle.web_codec.specs.DecodedForms.{PairReader}
use Rattle.web_body.specs.declared.errors.form_error.UrlencodedError.{UrlencodedError}
use Rattle.web_body.specs.declared.poll.Step.{Step}
use Rattle.web_body.specs.DecoderSettings.{FormSettings}
use Rattle.web_decoders.specs.FormBodies.{FormAnswer, FormBody, PollsFormBody, form_answer}
use Rattle.web_decoders.specs.FormBodies.{form_answer_some}
use Rattle.web_decoders.specs.FormHeads.{form_head, form_refusal, takes_form}
use Rattle.web_decoders.specs.WrittenTypes.{NeedsNoReading}
use Rattle.web_reply.specs.Replies.{Fault}
use Rattle.web_extract.specs.Extracts.{AllowsSome}
use Rattle.web_extract.specs.LayerConfigurations.{Configurations, form_settings}
use Rattle.web_extract.specs.ListResults.{DelayedResult}
use Rattle.web_extract.specs.Refusals.{Handler, RefusedBy, form_fault, refused_by, refused_some}
use Rattle.web_extract_body.specs.HandledBodies.{GivesHandled, ReadsBody, handled_result}
use Rattle.web_extract_body.specs.HandledBodies.{handled_some}
use Rattle.web_extract_body.specs.HandledBodies.{reads_some, rest_where}
use Rattle.web_extract_body.specs.declared.form_value.Form.{Form}

abbrev pub form_of : {T : Type 0} → T → Form T
form_of v = record { 0 = v }

-- the same settings under the lesser of their limit and this cap
abbrev pub capped_form : {H : Type 0} → ℕ → FormSettings H → FormSettings H
capped_form cap settings = record settings { limit = min settings.limit cap }

-- the handler of refusals that counts for these layers
abbrev pub form_handler : {L J F P Q T : Type 0}
    → (L → Configurations J F P Q T) → List L → Option F
form_handler of_layer layers = (form_settings of_layer layers).handler

-- to begin allocates nothing: no handler is configured, and no media type is read
abbrev pub FormNeedsNoMemory : {H : Type 0} → FormSettings H → Entries FieldValue → Type 0
FormNeedsNoMemory settings headers =
    (settings.handler ≡ None)
    × NeedsNoReading (codes "application/x-www-form-urlencoded") (first_content_type headers)

-- the marks that are left: a head that names no form or no readable length leaves them
abbrev pub form_rest : Entries FieldValue → List Mark → List Mark
form_rest headers m = rest_where (takes_form (form_head headers)) m

module _ {T : Type 0} (limit : ℕ) (reads : PairReader T) (headers : Entries FieldValue) where
  -- After the tests of the head, the body is read and decoded.
  abbrev pub MeansFormBody : List Mark → List Mark → ℕ → Result T UrlencodedError → Type 0
  MeansFormBody m rest n y =
      (rest ≡ form_rest headers m)
      × ReadsBody (FormAnswer reads limit) limit
      (form_refusal (form_head headers) limit) m n y

  pub form_body_some : (m : List Mark) → AllowsSome (MeansFormBody m)
  form_body_some m none =
      reads_some (FormAnswer reads limit) (form_answer_some reads limit)
      limit (form_refusal (form_head headers) limit) m (λ n y k.
      none (form_rest headers m) n y (refl, k))

module _ {H T : Type 0} (settings : FormSettings H) (refuses : Handler H UrlencodedError)
    (reads : PairReader T) (head : Head) where
  -- the error of a refusal
  abbrev pub FormErrors : UrlencodedError → Fault → Type 0
  FormErrors e x = RefusedBy refuses form_fault settings.handler e head x

  -- A refusal goes through the configured handler, where there is one.
  abbrev pub MeansForm : List Mark → List Mark → ℕ → Result (Form T) Fault → Type 0
  MeansForm m rest n x =
      GivesHandled form_of FormErrors (MeansFormBody settings.limit reads head.headers m rest) n x

  pub form_some : (m : List Mark) → AllowsSome (MeansForm m)
  form_some m none =
      form_body_some settings.limit reads head.headers m (λ rest n y h.
      handled_some form_of FormErrors
      (λ e. refused_some refuses form_fault settings.handler e head)
      (MeansFormBody settings.limit reads head.headers m rest)
      (λ without. without n y h) (λ k x g. none rest k x g))

-- the result with its delay, where the handler and the reader are functions
abbrev pub form_result : {H T : Type 0} → FormSettings H → (H → UrlencodedError → Head → Fault)
    → (List Pair → Result T ReadFault) → Head → List Mark → DelayedResult (Form T)
form_result settings answer read head m =
    handled_result form_of (λ e. refused_by answer form_fault settings.handler e head)
    (form_answer read settings.limit) settings.limit
    (form_refusal (form_head head.headers) settings.limit) m

-- a poll of the collector, of whose step this holds, and what it says of its payload, whether or
-- not its marks are stated
abbrev pub PollsForm : {S T : Type 0} → (S → Feed) → PairReader T
    → (Step (Result T UrlencodedError) → Type 0) → FormBody S → FormBody S → Type 0
PollsForm {S} {T} feed reads holds old new =
    (s : Step (Result T UrlencodedError))
    × PollsFormBody feed reads old s new
    × holds s
