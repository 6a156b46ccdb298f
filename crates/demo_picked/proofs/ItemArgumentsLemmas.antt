-- The arguments that read an item allow one rest, one delay and one result.
use Rattle.std.proofs.Common.{◌≡◌, ℕ, List, refl, sym, ◌∙◌}
use Rattle.std.specs.Prelude.{Result, Ok, Err}
use Rattle.web_request.specs.declared.source.Mark.{Mark}
use Rattle.web_request.specs.Head.{Head, head_query}
use Rattle.web_body.specs.declared.errors.path_error.PathError.TheVariants as path
use Rattle.web_body.specs.declared.errors.query_error.QueryPayloadError.TheVariants as query
use Rattle.web_codec.specs.FormPairs.{form_pairs}
use Rattle.web_reply.specs.Replies.{Fault}
use Rattle.web_extract.specs.CollectedResults.{map_value}
use Rattle.web_extract.specs.Refusals.{path_fault, query_fault, refused_by}
use Rattle.web_extract.specs.SomeAnswer.{itself}
use Rattle.web_extract.specs.ListMeanings.{Member}
use Rattle.web_extract_body.specs.EitherLaw.{Only, OnlyOf}
use Rattle.web_extract_body.specs.TypeFunctions.{IsHandler, IsPairReader, IsPredicate, IsReader}
use Rattle.web_extract_body.specs.declared.either.Either.{Either}
use Rattle.web_extract_body.specs.declared.form_value.Form.{Form}
use Rattle.web_extract_body.specs.declared.json_value.Json.{Json}
use Rattle.web_extract_body.proofs.EitherLawLemmas.{either_decides}
use Rattle.web_extract_body.specs.JsonArgument.{MeansJson, json_result}
use Rattle.web_extract_body.proofs.TypeFunctionsLemmas.{decides_form, decides_json, json_to, refused_only}
use Rattle.web_extract_head.specs.PathArgument.{PathRefused, decoded_parameters}
use Rattle.web_extract_head.specs.QueryArgument.{QueryRefused}
use Rattle.web_extract_head.proofs.ReadArgumentsLemmas.{only_read}
use Rattle.demo_app.specs.DemoLayers.{demo_configurations}
use Rattle.demo_app.specs.Items.{item_of_json, item_of_pairs}
use Rattle.demo_app.specs.Teapots.{form_teapot, is_vendor_type, json_teapot}
use Rattle.demo_app.specs.Teapots.{path_teapot, query_teapot}
use Rattle.demo_app.specs.declared.item.Item.{Item}
use Rattle.demo_app.specs.declared.teapot.Teapot.{Teapot}
use Rattle.demo_picked.specs.Picking.{By, ByEither, same_fault}
use Rattle.demo_picked.specs.BodyArguments.{MeansBody, body_rest, body_result}
use Rattle.demo_app.specs.DemoRequests.{DemoRequest}
use Rattle.demo_picked.specs.ItemArguments.{ByHandler, IsVendorType, ItemOfJson, ItemOfPairs}
use Rattle.demo_picked.specs.ItemArguments.{MeansCappedItem, capped_item_rest, capped_item_result}
use Rattle.demo_picked.specs.ItemArguments.{capped_json_settings}
use Rattle.demo_picked.specs.ItemArguments.{MeansEitherItem, MeansFormItem, MeansJsonItem}
use Rattle.demo_picked.specs.ItemArguments.{MeansPathItem, MeansQueryItem, as_query}
use Rattle.demo_picked.specs.ItemArguments.{either_item_result, form_item_rest, form_item_result}
use Rattle.demo_picked.specs.ItemArguments.{json_item_rest, json_item_result, path_handler_of}
use Rattle.demo_picked.specs.ItemArguments.{path_item_result, query_handler_of, query_item_result}
use Rattle.demo_picked.proofs.SeenArgumentsLemmas.{Seen, SeenAlone, capped_alone, converted_same, listed_seen}

-- the handlers, the predicate and the readers are functions

is_handler : {E : Type 0} (answer : Teapot → E → Head → Fault) → IsHandler (ByHandler answer) answer
is_handler answer handler e head = (refl, λ x k. k)

is_vendor : IsPredicate IsVendorType is_vendor_type
is_vendor predicate media_type = (refl, λ x k. k)

is_reader : IsReader ItemOfJson item_of_json
is_reader d = (refl, λ x k. k)

is_pair_reader : IsPairReader ItemOfPairs item_of_pairs
is_pair_reader pairs = (refl, λ x k. k)

-- of a body

pub json_seen : (q : DemoRequest)
    → SeenAlone (λ v. v) same_fault (MeansJsonItem q) (json_item_rest q) (json_item_result q)
json_seen q m left n y h =
    let is = (decides_json demo_configurations (ByHandler json_teapot) IsVendorType ItemOfJson
    json_teapot (is_handler json_teapot) is_vendor_type is_vendor item_of_json is_reader
    q m left n y).0 h in
    (is.0, is.1, converted_same y ∙ is.2)

capped_read : (q : DemoRequest) → SeenAlone (λ v. v) same_fault
    (MeansJson (capped_json_settings q) (ByHandler json_teapot) IsVendorType ItemOfJson q.head) (capped_item_rest q)
    (λ m. json_result (capped_json_settings q) json_teapot is_vendor_type item_of_json q.head m)
capped_read q m left n y h =
    let is = json_to (capped_json_settings q) (ByHandler json_teapot) IsVendorType ItemOfJson q.head
    json_teapot (is_handler json_teapot) is_vendor_type is_vendor item_of_json is_reader m left n y h in
    (is.0, is.1, converted_same y ∙ is.2)

pub capped_item_seen : (q : DemoRequest)
    → SeenAlone (λ v. v) same_fault (MeansCappedItem q) (capped_item_rest q) (capped_item_result q)
capped_item_seen q =
    capped_alone 16 (MeansJson (capped_json_settings q) (ByHandler json_teapot) IsVendorType ItemOfJson q.head) (capped_item_rest q)
    (λ m. json_result (capped_json_settings q) json_teapot is_vendor_type item_of_json q.head m) (capped_read q)

pub form_seen : (q : DemoRequest)
    → SeenAlone (λ v. v) same_fault (MeansFormItem q) (form_item_rest q) (form_item_result q)
form_seen q m left n y h =
    let is = (decides_form demo_configurations (ByHandler form_teapot) ItemOfPairs
    form_teapot (is_handler form_teapot) item_of_pairs is_pair_reader q m left n y).0 h in
    (is.0, is.1, converted_same y ∙ is.2)

same_value : {T : Type 0} (x : Result T Fault) → map_value (λ v. v) x ≡ x
same_value (Ok v) = refl
same_value (Err e) = refl

body_only : (q : DemoRequest) (m left : List Mark) → Only (MeansBody q m left) (body_result q m)
body_only q m left n x h = (h.1, h.2)

json_only : (q : DemoRequest)
    → OnlyOf (Member (By same_fault) (MeansJsonItem q)) (json_item_result q)
json_only q m left n x h =
    let is = listed_seen (λ v. v) (By same_fault) same_fault (λ e f k. k) (MeansJsonItem q)
    (json_item_rest q) (json_item_result q) (json_seen q) m left n x h in
    (is.1, sym (same_value x) ∙ is.2)

form_only : (q : DemoRequest)
    → OnlyOf (Member (By same_fault) (MeansFormItem q)) (form_item_result q)
form_only q m left n x h =
    let is = listed_seen (λ v. v) (By same_fault) same_fault (λ e f k. k) (MeansFormItem q)
    (form_item_rest q) (form_item_result q) (form_seen q) m left n x h in
    (is.1, sym (same_value x) ∙ is.2)

-- the marks that are left are those that the buffering leaves
either_left : (q : DemoRequest) (m left : List Mark) (n : ℕ)
    (x : Result (Either (Json Item) (Form Item)) Fault)
    → Member ByEither (MeansEitherItem q) m left n x → left ≡ body_rest q m
either_left q m left n (Ok v) h = h.3.0
either_left q m left n (Err f) h = h.1.3.0

pub either_seen : (q : DemoRequest)
    → Seen (λ v. v) (Member ByEither (MeansEitherItem q)) (body_rest q) (either_item_result q)
either_seen q m left n x h =
    let is = either_decides (MeansBody q) (By same_fault) (MeansJsonItem q) (By same_fault)
    (MeansFormItem q) itself itself m left (body_result q m) (json_item_result q)
    (form_item_result q) (body_only q m left) (json_only q) (form_only q) n x h in
    (either_left q m left n x h, is.0, same_value x ∙ is.1)

-- of the path and the query

pub path_seen : (q : DemoRequest)
    → SeenAlone (λ v. v) same_fault (MeansPathItem q) (λ m. m) (λ m. path_item_result q)
path_seen q m left n y h =
    let is = (only_read (λ v. v)
    (PathRefused (ByHandler path_teapot) (path_handler_of q) q.head)
    (ItemOfPairs (decoded_parameters q.params)) (item_of_pairs (decoded_parameters q.params))
    (λ e. refused_by path_teapot path_fault (path_handler_of q) (path.Deserialize e) q.head) m
    (refl, λ x k. k)
    (λ e. refused_only (ByHandler path_teapot) path_teapot (is_handler path_teapot) path_fault q.head
    (path_handler_of q) (path.Deserialize e))
    left n y).0 h in
    (is.0, is.1, converted_same y ∙ is.2)

pub query_seen : (q : DemoRequest)
    → SeenAlone (λ v. v) same_fault (MeansQueryItem q) (λ m. m) (λ m. query_item_result q)
query_seen q m left n y h =
    let is = (only_read as_query
    (QueryRefused (ByHandler query_teapot) (query_handler_of q) q.head)
    (ItemOfPairs (form_pairs (head_query q.head))) (item_of_pairs (form_pairs (head_query q.head)))
    (λ e. refused_by query_teapot query_fault (query_handler_of q) (query.Deserialize e) q.head) m
    (refl, λ x k. k)
    (λ e. refused_only (ByHandler query_teapot) query_teapot (is_handler query_teapot) query_fault q.head
    (query_handler_of q) (query.Deserialize e))
    left n y).0 h in
    (is.0, is.1, converted_same y ∙ is.2)
