-- Where handlers, predicates and readers are functions, exactly one result is allowed.
use Rattle.std.proofs.Common.{◌≡◌, ℕ, Bool, true, false, List, refl, ap, subst, ◌∙◌, inl}
use Rattle.std.specs.Prelude.{◌||◌, Option, None, Some, Result, Ok, Err}
use Rattle.http_header.specs.FieldValue.{FieldValue}
use Rattle.http_header.specs.HeaderMap.{Entries}
use Rattle.serde_json.specs.Data.{Data}
use Rattle.serde_json.specs.Written.{has_float}
use Rattle.web_texts.specs.MediaTypes.{MediaType}
use Rattle.web_texts.specs.declared.errors.ContentTypeError.{ContentTypeError}
use Rattle.web_texts.specs.Pairs.{Pair}
use Rattle.web_request.specs.declared.source.Mark.{Mark}
use Rattle.web_request.specs.Head.{Head}
use Rattle.web_request.specs.MessageFields.{mime_type_of}
use Rattle.web_request.specs.Reading.{reading}
use Rattle.web_codec.specs.declared.faults.ReadFault.{ReadFault}
use Rattle.web_codec.specs.DecodedForms.{PairReader}
use Rattle.web_codec.specs.DecodedJson.{DecodesData, DecodesValue, JsonReader, as_target, decoded_data, decoded_value}
use Rattle.web_codec.specs.FormPairs.{form_pairs}
use Rattle.web_codec.specs.JsonValues.{body_value}
use Rattle.web_body.specs.declared.collecting.Unread.TheVariants.{TooLong, Failed}
use Rattle.web_body.specs.declared.errors.json_error.JsonPayloadError.{JsonPayloadError}
use Rattle.web_body.specs.declared.errors.form_error.UrlencodedError.{UrlencodedError}
use Rattle.web_body.specs.Collector.{Read, read_of}
use Rattle.web_decoders.specs.FormBodies.{FormAnswer, as_parse, form_answer}
use Rattle.web_decoders.specs.FormHeads.{form_head, form_refusal}
use Rattle.web_decoders.specs.JsonBodies.{JsonAnswer, as_deserialize, json_answer}
use Rattle.web_decoders.specs.TypePredicates.{AllowsBy, AllowsOther, AllowsRead, Predicate, ReadsType, is_json_type}
use Rattle.web_reply.specs.Replies.{Fault}
use Rattle.web_extract.specs.ConvertedFutures.{ConvertsResult, converted_result}
use Rattle.web_extract.specs.Extracts.{AllowsOnly}
use Rattle.web_extract.specs.LayerConfigurations.{Configurations, form_settings, json_settings}
use Rattle.web_extract.specs.Refusals.{Handler, RefusedBy, form_fault, json_fault, refused_by}
use Rattle.web_extract.proofs.RefusalsLemmas.{or_all_only}
use Rattle.web_body.specs.DecoderSettings.{FormSettings, JsonSettings}
use Rattle.web_extract_body.specs.HandledBodies.{ReadsBody, delay_of_body, rest_where, result_of_body}
use Rattle.web_extract_body.specs.FormArgument.{MeansForm, form_of, form_rest, form_result}
use Rattle.web_extract_body.specs.JsonArgument.{MeansJson, json_head_refusal, json_of, json_rest, json_result}
use Rattle.web_extract_body.specs.ReadTypes.{allows_other, allows_read, reads_type}
use Rattle.web_extract_body.specs.TypeFunctions.{DecidesForm, DecidesJson, IsHandler, IsPairReader, IsPredicate, IsReader}

module _ {H E : Type 0} (refuses : Handler H E) (answer : H → E → Head → Fault) (is : IsHandler refuses answer)
    (own : E → Fault) (head : Head) where
  pub refused_only : (handler : Option H) (e : E)
      → AllowsOnly (RefusedBy refuses own handler e head) (refused_by answer own handler e head)
  refused_only None e = (refl, λ x h. h)
  refused_only (Some k) e = (inl (is k e head).0, λ x h. or_all_only (refuses k e head) (answer k e head) (is k e head) x h)

-- the value or the error of what was read
module _ {T V E : Type 0} (value : T → V) (errors : E → Fault → Type 0) (error : E → Fault)
    (only : (e : E) → AllowsOnly (errors e) (error e)) where
  converts_only : (y : Result T E) (x : Result V Fault)
      → ConvertsResult (λ v w. w ≡ value v) errors y x → x ≡ converted_result value error y
  converts_only (Ok v) x h = h.2 ∙ ap Ok h.1
  converts_only (Err e) x h = h.2 ∙ ap Err ((only e).1 h.0 h.1)

  converts_there : (y : Result T E) → ConvertsResult (λ v w. w ≡ value v) errors y (converted_result value error y)
  converts_there (Ok v) = (value v, refl, refl)
  converts_there (Err e) = (error e, (only e).0, refl)

-- what is read of the marks
module _ {T E : Type 0} (decodes : Read → Result T E → Type 0) (decoded : Read → Result T E)
    (only : (r : Read) → AllowsOnly (decodes r) (decoded r)) (limit : ℕ) where
  reads_only : (refusal : Option E) (m : List Mark) (n : ℕ) (y : Result T E) → ReadsBody decodes limit refusal m n y
      → (n ≡ delay_of_body limit refusal m) × (y ≡ result_of_body decoded limit refusal m)
  reads_only (Some e) m n y h = h
  reads_only None m n y h = (h.0, (only (read_of ((reading limit m).content))).1 y h.1)

  reads_there : (refusal : Option E) (m : List Mark)
      → ReadsBody decodes limit refusal m (delay_of_body limit refusal m) (result_of_body decoded limit refusal m)
  reads_there (Some e) m = (refl, refl)
  reads_there None m = (refl, (only (read_of ((reading limit m).content))).0)

module _ {T : Type 0} (reads : JsonReader T) (read : Data → Result T ReadFault) (is : IsReader reads read) where
  data_only : (has : Bool) (d : Data) → AllowsOnly (DecodesData reads has d) (decoded_data read has d)
  data_only true d = (refl, λ x h. h)
  data_only false d = (
    (read d, inl (is d).0, refl),
    λ x h. h.2 ∙ ap as_target (or_all_only (reads d) (read d) (is d) h.0 h.1),
  )

  value_only : (d : Option Data) → AllowsOnly (DecodesValue reads d) (decoded_value read d)
  value_only None = (refl, λ x h. h)
  value_only (Some d) = data_only (has_float d) d

  json_only : (limit : ℕ) (r : Read) → AllowsOnly (JsonAnswer reads limit r) (json_answer read limit r)
  json_only limit (Err (TooLong size)) = (refl, λ x h. h)
  json_only limit (Err Failed) = (refl, λ x h. h)
  json_only limit (Ok b) =
      let v = value_only (body_value b) in
      ((decoded_value read (body_value b), v.0, refl), λ x h. h.2 ∙ ap as_deserialize (v.1 h.0 h.1))

module _ {T : Type 0} (reads : PairReader T) (read : List Pair → Result T ReadFault) (is : IsPairReader reads read) where
  form_only : (limit : ℕ) (r : Read) → AllowsOnly (FormAnswer reads limit r) (form_answer read limit r)
  form_only limit (Err (TooLong size)) = (refl, λ x h. h)
  form_only limit (Err Failed) = (refl, λ x h. h)
  form_only limit (Ok b) =
      let pairs = form_pairs b in (
        (read pairs, inl (is pairs).0, refl),
        λ x h. h.2 ∙ ap as_parse (or_all_only (reads pairs) (read pairs) (is pairs) h.0 h.1),
      )

module _ {P : Type 0} (allows : Predicate P) (allowed : P → MediaType → Bool) (is : IsPredicate allows allowed) where
  other_only : (p : Option P) (m : MediaType) → AllowsOnly (AllowsOther allows p m) (allows_other allowed p m)
  other_only None m = (refl, λ x h. h)
  other_only (Some p) m = (inl (is p m).0, λ x h. or_all_only (allows p m) (allowed p m) (is p m) x h)

  by_only : (p : Option P) (m : MediaType) (json : Bool)
      → AllowsOnly (AllowsBy allows p m json) (json || allows_other allowed p m)
  by_only p m true = (refl, λ x h. h)
  by_only p m false = other_only p m

  read_only : (p : Option P) (x : Result (Option MediaType) ContentTypeError)
      → AllowsOnly (AllowsRead allows p x) (allows_read allowed p x)
  read_only p (Ok (Some m)) = by_only p m (is_json_type m)
  read_only p (Ok None) = (refl, λ x h. h)
  read_only p (Err e) = (refl, λ x h. h)

  type_only : (p : Option P) (required : Bool) (headers : Entries FieldValue)
      → AllowsOnly (ReadsType allows p required headers) (reads_type allowed p required headers)
  type_only p false headers = (refl, λ x h. h)
  type_only p true headers = read_only p (mime_type_of headers)

module _ {H P T : Type 0} (settings : JsonSettings H P) (refuses : Handler H JsonPayloadError) (allows : Predicate P)
    (reads : JsonReader T) (head : Head)
    (answer : H → JsonPayloadError → Head → Fault) (handles : IsHandler refuses answer)
    (allowed : P → MediaType → Bool) (predicts : IsPredicate allows allowed)
    (read : Data → Result T ReadFault) (is_reader : IsReader reads read) (m : List Mark) where
  abbrev error : JsonPayloadError → Fault
  error e = refused_by answer json_fault settings.handler e head

  abbrev is_read : Bool
  is_read = reads_type allowed settings.predicate settings.type_required head.headers

  pub json_to : (left : List Mark) (n : ℕ) (x : Result _ Fault) → MeansJson settings refuses allows reads head m left n x
      → (left ≡ json_rest settings answer allowed read head m)
      × (n ≡ (json_result settings answer allowed read head m).delay)
      × (x ≡ (json_result settings answer allowed read head m).result)
  json_to left n x (y, (b, type, rest, body), converts) =
      let same = (type_only allows allowed predicts settings.predicate settings.type_required head.headers).1 b type in
      let at = reads_only (JsonAnswer reads settings.limit) (json_answer read settings.limit)
      (json_only reads read is_reader settings.limit) settings.limit
      (json_head_refusal settings.limit is_read head.headers) m n y
      (subst (λ (k : Bool). ReadsBody (JsonAnswer reads settings.limit) settings.limit
      (json_head_refusal settings.limit k head.headers) m n y) same body) in (
        rest ∙ ap (λ (k : Bool). rest_where k m) same,
        at.0,
        converts_only json_of (λ e f. RefusedBy refuses json_fault settings.handler e head f) error
            (refused_only refuses answer handles json_fault head settings.handler) y x converts
            ∙ ap (converted_result json_of error) at.1,
      )

  json_there : MeansJson settings refuses allows reads head m (json_rest settings answer allowed read head m)
      (json_result settings answer allowed read head m).delay (json_result settings answer allowed read head m).result
  json_there =
      let refusal = json_head_refusal settings.limit is_read head.headers in
      let y = result_of_body (json_answer read settings.limit) settings.limit refusal m in (
        y,
        (
          is_read,
          (type_only allows allowed predicts settings.predicate settings.type_required head.headers).0,
          refl,
          reads_there (JsonAnswer reads settings.limit) (json_answer read settings.limit)
              (json_only reads read is_reader settings.limit) settings.limit refusal m,
        ),
        converts_there json_of (λ e f. RefusedBy refuses json_fault settings.handler e head f) error
            (refused_only refuses answer handles json_fault head settings.handler) y,
      )

module _ {H T : Type 0} (settings : FormSettings H) (refuses : Handler H UrlencodedError)
    (reads : PairReader T) (head : Head)
    (answer : H → UrlencodedError → Head → Fault) (handles : IsHandler refuses answer)
    (read : List Pair → Result T ReadFault) (is_reader : IsPairReader reads read) (m : List Mark) where
  abbrev form_error : UrlencodedError → Fault
  form_error e = refused_by answer form_fault settings.handler e head

  abbrev form_refused : Option UrlencodedError
  form_refused = form_refusal (form_head head.headers) settings.limit

  form_to : (left : List Mark) (n : ℕ) (x : Result _ Fault) → MeansForm settings refuses reads head m left n x
      → (left ≡ form_rest head.headers m)
      × (n ≡ (form_result settings answer read head m).delay)
      × (x ≡ (form_result settings answer read head m).result)
  form_to left n x (y, (rest, body), converts) =
      let at = reads_only (FormAnswer reads settings.limit) (form_answer read settings.limit)
      (form_only reads read is_reader settings.limit) settings.limit form_refused m n y body in (
        rest,
        at.0,
        converts_only form_of (λ e f. RefusedBy refuses form_fault settings.handler e head f) form_error
            (refused_only refuses answer handles form_fault head settings.handler) y x converts
            ∙ ap (converted_result form_of form_error) at.1,
      )

  form_there : MeansForm settings refuses reads head m (form_rest head.headers m)
      (form_result settings answer read head m).delay (form_result settings answer read head m).result
  form_there =
      let y = result_of_body (form_answer read settings.limit) settings.limit form_refused m in (
        y,
        (
          refl,
          reads_there (FormAnswer reads settings.limit) (form_answer read settings.limit)
              (form_only reads read is_reader settings.limit) settings.limit form_refused m,
        ),
        converts_there form_of (λ e f. RefusedBy refuses form_fault settings.handler e head f) form_error
            (refused_only refuses answer handles form_fault head settings.handler) y,
      )

pub decides_json : {L D C J F P Q B T : Type 0} (of_layer : L → Configurations J F P Q B)
    (refuses : Handler J JsonPayloadError) (allows : Predicate B) (reads : JsonReader T)
    → DecidesJson {D = D} {C = C} of_layer refuses allows reads
    (λ q m rest n x. MeansJson (json_settings of_layer q.layers) refuses allows reads q.head m rest n x)
decides_json of_layer refuses allows reads answer handles allowed predicts read is_reader q m left n x = (
  json_to (json_settings of_layer q.layers) refuses allows reads q.head answer handles allowed predicts read is_reader m left n x,
  λ e. rw (e.0, e.1, e.2) (json_there (json_settings of_layer q.layers) refuses allows reads q.head answer handles allowed predicts read is_reader m),
)

pub decides_form : {L D C J F P Q B T : Type 0} (of_layer : L → Configurations J F P Q B)
    (refuses : Handler F UrlencodedError) (reads : PairReader T)
    → DecidesForm {D = D} {C = C} of_layer refuses reads
    (λ q m rest n x. MeansForm (form_settings of_layer q.layers) refuses reads q.head m rest n x)
decides_form of_layer refuses reads answer handles read is_reader q m left n x = (
  form_to (form_settings of_layer q.layers) refuses reads q.head answer handles read is_reader m left n x,
  λ e. rw (e.0, e.1, e.2) (form_there (form_settings of_layer q.layers) refuses reads q.head answer handles read is_reader m),
)
