-- The arguments that are picked come at the first poll, where the body is in one piece and there
-- are no parameters; and the handler replies to them at its first poll.
use Rattle.std.proofs.Common.{◌≡◌, ℕ, List, [], ◌∷◌, ◌+◌, refl, arith}
use Rattle.std.specs.Prelude.{Result, Ok, Err, ⊤}
use Rattle.web_texts.specs.Pairs.{Pair}
use Rattle.web_request.specs.declared.source.Mark.{Mark}
use Rattle.web_request.specs.Body.{whole}
use Rattle.web_request.specs.MessageFields.{encoding_of}
use Rattle.web_cookies.specs.declared.cookie_parse_error.CookieParseError.{CookieParseError}
use Rattle.web_reply.specs.Replies.{Fault}
use Rattle.web_reply.specs.ResponseBodies.{whole_plain}
use Rattle.web_reply.specs.declared.body.WholeBody.{WholeBody}
use Rattle.web_reply.specs.declared.body.WholeBody.TheVariants as body
use Rattle.web_extract.specs.BodyArguments.{type_refusal}
use Rattle.web_extract.specs.CollectedResults.{map_value}
use Rattle.web_extract.specs.ListResults.{DelayedResult, greatest, with_value}
use Rattle.web_extract.specs.StringArgument.{string_refusal}
use Rattle.web_extract_body.specs.ReadTypes.{reads_type}
use Rattle.web_extract_body.specs.EitherArgument.{after_bytes, after_left, either_result}
use Rattle.web_multipart.specs.MultipartArgument.{limit_of}
use Rattle.web_multipart_stream.specs.FormBoundaries.{boundary_of}
use Rattle.web_multipart_stream.specs.StreamViews.{is_coded}
use Rattle.web_http1.specs.Answers.{StatesMarks}
use Rattle.demo_app.specs.DemoRequests.{DemoRequest}
use Rattle.demo_app.specs.Teapots.{is_vendor_type}
use Rattle.demo_arguments.specs.DemoArguments.{seen_data}
use Rattle.demo_arguments.specs.LateAndWait.{delay_in}
use Rattle.demo_arguments.specs.LinesArgument.{limit_in, lines_result}
use Rattle.demo_arguments.specs.declared.choice.Choice.{Choice}
use Rattle.demo_arguments.specs.declared.choice.Choice.TheVariants as choice
use Rattle.demo_arguments.specs.declared.choice.DecodedChoice.{DecodedChoice}
use Rattle.demo_arguments.specs.declared.choice.DecodedChoice.TheVariants as decoded
use Rattle.demo_arguments.specs.declared.choice.HeadChoice.{HeadChoice}
use Rattle.demo_arguments.specs.declared.choice.HeadChoice.TheVariants as head
use Rattle.demo_arguments.specs.declared.choice.ReadChoice.{ReadChoice}
use Rattle.demo_arguments.specs.declared.choice.ReadChoice.TheVariants as read
use Rattle.demo_arguments.specs.declared.choice.RequestChoice.{RequestChoice}
use Rattle.demo_arguments.specs.declared.choice.RequestChoice.TheVariants as request
use Rattle.demo_content.specs.AnswerReplies.{text_or_refusal}
use Rattle.demo_picked.specs.ArgumentMeanings.{numbers_result, optional_result, both_result, accept_result, who_result, cookies_result, as_value}
use Rattle.demo_picked.specs.BodyArguments.{body_result, capped_result, capped_settings_of, settings_of, text_result}
use Rattle.demo_picked.specs.ItemArguments.{capped_item_result, either_item_result, form_item_result, json_item_rest, json_item_result, json_settings_of, path_item_result, query_item_result}
use Rattle.demo_picked.specs.PartsArgument.{parts_result}
use Rattle.demo_picked.specs.PickedArguments.{choice_result, decoded_result, head_result, read_result, request_result}
use Rattle.demo_picked.specs.declared.picked.Picked.{Picked}
use Rattle.demo_picked.specs.declared.picked.Picked.TheVariants as picked
use Rattle.demo_handler.specs.DemoReplies.{demo_reply, wait_of}
use Rattle.rothveng.proofs.WholeBodiesLemmas.{body_left, body_whole, decoded_whole, lines_whole, parts_whole}

-- replied to at the first poll of the handler, with stated marks; or refused
abbrev pub RepliesNow : Result Picked Fault → Type 0
RepliesNow (Ok v) = (wait_of v ≡ 0) × StatesMarks (demo_reply v).body
RepliesNow (Err e) = ⊤

pub record ComesNow (r : DelayedResult Picked) : Type 0 where
  pub now : r.delay ≡ 0
  pub replies : RepliesNow r.result

-- an argument that comes at the first poll, of whose every value the same holds

value_now : {T : Type 0} (f : T → Picked) (x : Result T Fault) → ((v : T) → RepliesNow (Ok (f v))) → RepliesNow (map_value f x)
value_now f (Ok v) each = each v
value_now f (Err e) each = tt

comes : {T : Type 0} (f : T → Picked) (r : DelayedResult T) → r.delay ≡ 0 → ((v : T) → RepliesNow (Ok (f v))) → ComesNow (with_value f r)
comes f r now each = record { now = now; replies = value_now f r.result each }

both_now : (m n : ℕ) → m ≡ 0 → n ≡ 0 → greatest (m ∷ n ∷ []) ≡ 0
both_now m n e f = rw (e, f) refl

sum_now : (m n : ℕ) → m ≡ 0 → n ≡ 0 → m + n ≡ 0
sum_now m n e f = omega arith

no_delay : (params : List Pair) → params ≡ [] → delay_in params ≡ 0
no_delay params none = rw none refl

-- the marks of a body in memory are stated
pub states_whole : (w : WholeBody) → StatesMarks (whole_plain w)
states_whole body.Empty = tt
states_whole (body.Bytes b) = tt

states_cookies : (x : Result (List ℕ) CookieParseError) → StatesMarks (text_or_refusal x).body
states_cookies (Ok text) = tt
states_cookies (Err e) = tt

-- of the argument that is one of two

right_now : {V W : Type 0} (right : DelayedResult W) (x : Result V Fault) → right.delay ≡ 0 → (after_left right x).delay ≡ 0
right_now right (Ok v) now = refl
right_now right (Err e) now = now

module _ {V W : Type 0} (left : List Mark → DelayedResult V) (right : List Mark → DelayedResult W)
    (left_now : (b : List ℕ) → (left (whole b)).delay ≡ 0) (then_now : (b : List ℕ) → (right (whole b)).delay ≡ 0) where
  bytes_now : (x : Result (List ℕ) Fault) → (after_bytes left right x).delay ≡ 0
  bytes_now (Ok b) = sum_now _ _ (left_now b) (right_now (right (whole b)) (left (whole b)).result (then_now b))
  bytes_now (Err e) = refl

  either_now : (r : DelayedResult (List ℕ)) → r.delay ≡ 0 → (either_result r left right).delay ≡ 0
  either_now r now = sum_now _ _ now (bytes_now r.result)

json_now : (q : DemoRequest) (b : List ℕ) → (json_item_result q (whole b)).delay ≡ 0
json_now q b = decoded_whole _ _ b

form_now : (q : DemoRequest) (b : List ℕ) → (form_item_result q (whole b)).delay ≡ 0
form_now q b = decoded_whole _ _ b

-- of the other arguments that read the body

bytes_taken : (q : DemoRequest) (b : List ℕ) → (body_result q (whole b)).delay ≡ 0
bytes_taken q b = body_whole (type_refusal (settings_of q).required_type q.head.headers) (settings_of q).limit q.head.headers b

bytes_left : (q : DemoRequest) (b : List ℕ) → (body_result q (json_item_rest q (whole b))).delay ≡ 0
bytes_left q b =
    body_left (reads_type is_vendor_type (json_settings_of q).predicate (json_settings_of q).type_required q.head.headers)
    (type_refusal (settings_of q).required_type q.head.headers) (settings_of q).limit q.head.headers b

text_now : (q : DemoRequest) (b : List ℕ) → (text_result q (whole b)).delay ≡ 0
text_now q b = body_whole (string_refusal (settings_of q) q.head.headers) (settings_of q).limit q.head.headers b

capped_now : (q : DemoRequest) (b : List ℕ) → (capped_result q (whole b)).delay ≡ 0
capped_now q b =
    body_whole (type_refusal (capped_settings_of q).required_type q.head.headers) (capped_settings_of q).limit q.head.headers b

-- every choice

module _ (q : DemoRequest) (b : List ℕ) (none : q.params ≡ []) where
  decoded_now : (c : DecodedChoice) → ComesNow (decoded_result c q (whole b))
  decoded_now decoded.Json = comes (λ v. picked.Json v) (json_item_result q (whole b)) (json_now q b) (λ v. (refl, tt))
  decoded_now decoded.CappedJson = comes (λ v. picked.CappedJson v) (capped_item_result q (whole b)) (decoded_whole _ _ b) (λ v. (refl, tt))
  decoded_now decoded.Form = comes (λ v. picked.Form v) (form_item_result q (whole b)) (form_now q b) (λ v. (refl, tt))
  decoded_now decoded.Either =
      comes (λ v. picked.Either v) (either_item_result q (whole b))
      (either_now (json_item_result q) (form_item_result q) (json_now q) (form_now q) (body_result q (whole b)) (bytes_taken q b)) (λ v. (refl, tt))
  decoded_now decoded.Option =
      comes (λ v. picked.Option v.0 v.1) (optional_result q (whole b)) (both_now _ _ (json_now q b) (bytes_left q b)) (λ v. (refl, tt))
  decoded_now decoded.Result = comes (λ v. picked.Result v) (as_value (json_item_result q (whole b))) (json_now q b) (λ v. (refl, tt))
  decoded_now decoded.Parts =
      comes (λ v. picked.Parts v) (parts_result q (whole b)) (parts_whole (boundary_of q.head.headers) (is_coded q.head.headers) (limit_of 65536) b) (λ v. (refl, tt))

  read_now : (c : ReadChoice) → ComesNow (read_result c q (whole b))
  read_now read.Path = comes (λ v. picked.Path v) (path_item_result q) refl (λ v. (refl, tt))
  read_now read.Query = comes (λ v. picked.Query v) (query_item_result q) refl (λ v. (refl, tt))
  read_now read.Header = comes (λ v. picked.Header v) (accept_result q) refl (λ v. (refl, tt))
  read_now read.Raw = record { now = refl; replies = (refl, refl) }

  request_now : (c : RequestChoice) → ComesNow (request_result c q)
  request_now request.Cookies = comes (λ v. picked.Cookies v) (cookies_result q) refl (λ v. (refl, states_cookies _))
  request_now request.Document = record { now = refl; replies = (refl, states_whole _) }
  request_now request.Variant = record { now = refl; replies = (refl, states_whole _) }

  head_now : (c : HeadChoice) → ComesNow (head_result c q (whole b))
  head_now head.Who = comes (λ v. picked.Who v) (who_result q) refl (λ v. (refl, tt))
  head_now (head.Request c) = request_now c
  head_now head.Wait = record { now = refl; replies = (no_delay q.params none, tt) }
  head_now head.Other = record { now = refl; replies = (refl, tt) }

  pub choice_now : (c : Choice) → ComesNow (choice_result c q (whole b))
  choice_now choice.Bytes = comes (λ v. picked.Bytes v) (body_result q (whole b)) (bytes_taken q b) (λ v. (refl, tt))
  choice_now choice.Text = comes (λ v. picked.Text v) (text_result q (whole b)) (text_now q b) (λ v. (refl, tt))
  choice_now choice.Both =
      comes (λ v. picked.Both v.0 v.1) (both_result q (whole b)) (both_now _ _ (text_now q b) (no_delay q.params none)) (λ v. (refl, tt))
  choice_now choice.Capped = comes (λ v. picked.Capped v) (capped_result q (whole b)) (capped_now q b) (λ v. (refl, tt))
  choice_now choice.Data = comes (λ v. picked.Data (seen_data v)) (numbers_result q) refl (λ v. (refl, tt))
  choice_now choice.Lines =
      comes (λ v. picked.Lines v) (lines_result q (whole b)) (lines_whole (encoding_of q.head.headers) (limit_in q.params) b) (λ v. (refl, tt))
  choice_now (choice.Decoded c) = decoded_now c
  choice_now (choice.Read c) = read_now c
  choice_now (choice.Head c) = head_now c
