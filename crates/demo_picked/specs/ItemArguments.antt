-- The demo's arguments that read an item.
use Rattle.std.specs.Prelude.{◌≡◌, List, Option}
use Rattle.web_request.specs.declared.source.Mark.{Mark}
use Rattle.web_request.specs.Head.{Head, head_query}
use Rattle.web_body.specs.DecoderSettings.{FormSettings, JsonSettings}
use Rattle.web_decoders.specs.TypePredicates.{Predicate}
use Rattle.web_codec.specs.DecodedForms.{PairReader}
use Rattle.web_codec.specs.DecodedJson.{JsonReader}
use Rattle.web_codec.specs.FormPairs.{form_pairs}
use Rattle.web_reply.specs.Replies.{Fault}
use Rattle.web_extract.specs.CappedArguments.{GivesCapped, as_capped, means_capped_some}
use Rattle.web_extract.specs.Extracts.{AllowsSome}
use Rattle.web_extract.specs.LayerConfigurations.{form_settings, json_settings, path_settings}
use Rattle.web_extract.specs.LayerConfigurations.{query_settings}
use Rattle.web_extract.specs.ListResults.{DelayedResult, with_value}
use Rattle.web_extract.specs.Refusals.{Handler}
use Rattle.web_extract.specs.declared.body.capped_argument.Capped.{Capped}
use Rattle.web_extract.specs.ListMeanings.{ArgumentMeaning}
use Rattle.web_extract_body.specs.EitherArgument.{MeansEither, either_result, either_some}
use Rattle.web_extract_body.specs.FormArgument.{MeansForm, form_rest, form_result, form_some}
use Rattle.web_extract_body.specs.JsonArgument.{MeansJson, capped_json, json_rest, json_result}
use Rattle.web_extract_body.specs.JsonArgument.{json_some}
use Rattle.web_extract_body.specs.declared.either.Either.{Either}
use Rattle.web_extract_body.specs.declared.either.EitherExtractError.{EitherExtractError}
use Rattle.web_extract_body.specs.declared.form_value.Form.{Form}
use Rattle.web_extract_body.specs.declared.json_value.Json.{Json}
use Rattle.web_extract_head.specs.PathArgument.{PathRefused, decoded_parameters, path_refused_some}
use Rattle.web_extract_head.specs.PathArgument.{path_result}
use Rattle.web_extract_head.specs.QueryArgument.{QueryRefused, query_refused_some, query_result}
use Rattle.web_extract_head.specs.ReadArguments.{MeansRead, read_some}
use Rattle.web_extract_head.specs.declared.query_argument.Query.{Query}
use Rattle.demo_app.specs.DemoLayers.{demo_configurations}
use Rattle.demo_app.specs.Items.{item_of_json, item_of_pairs}
use Rattle.demo_app.specs.Teapots.{form_teapot, is_vendor_type, json_teapot}
use Rattle.demo_app.specs.Teapots.{path_teapot, query_teapot}
use Rattle.demo_app.specs.declared.item.Item.{Item}
use Rattle.demo_app.specs.declared.teapot.Teapot.{Teapot}
use Rattle.demo_app.specs.declared.teapot.VendorType.{VendorType}
use Rattle.demo_picked.specs.BodyArguments.{MeansBody, body_result, body_some}
use Rattle.demo_app.specs.DemoRequests.{DemoRequest}

-- a handler, a predicate and readers that are functions, as relations

abbrev pub ByHandler : {E : Type 0} → (Teapot → E → Head → Fault) → Handler Teapot E
ByHandler answer handler fault head x = x ≡ answer handler fault head

abbrev pub IsVendorType : Predicate VendorType
IsVendorType predicate media_type answer = answer ≡ is_vendor_type predicate media_type

abbrev pub ItemOfJson : JsonReader Item
ItemOfJson d x = x ≡ item_of_json d

abbrev pub ItemOfPairs : PairReader Item
ItemOfPairs pairs x = x ≡ item_of_pairs pairs

-- of a JSON body

abbrev pub json_settings_of : DemoRequest → JsonSettings Teapot VendorType
json_settings_of q = json_settings demo_configurations q.layers

abbrev pub MeansJsonItem : DemoRequest → ArgumentMeaning (Json Item) Fault
MeansJsonItem q =
    MeansJson (json_settings_of q) (ByHandler json_teapot) IsVendorType ItemOfJson q.head

pub json_item_some : (q : DemoRequest) (m : List Mark) → AllowsSome (MeansJsonItem q m)
json_item_some q =
    json_some (json_settings_of q) (ByHandler json_teapot) IsVendorType ItemOfJson q.head

abbrev pub json_item_rest : DemoRequest → List Mark → List Mark
json_item_rest q m =
    json_rest (json_settings_of q) json_teapot is_vendor_type item_of_json q.head m

abbrev pub json_item_result : DemoRequest → List Mark → DelayedResult (Json Item)
json_item_result q m =
    json_result (json_settings_of q) json_teapot is_vendor_type item_of_json q.head m

-- of a JSON body of at most 16 bytes

abbrev pub capped_json_settings : DemoRequest → JsonSettings Teapot VendorType
capped_json_settings q = capped_json 16 (json_settings_of q)

abbrev pub MeansCappedItem : DemoRequest → ArgumentMeaning (Capped (Json Item) 16) Fault
MeansCappedItem q m rest n x =
    GivesCapped (MeansJson (capped_json_settings q) (ByHandler json_teapot) IsVendorType
    ItemOfJson q.head m rest) n x

pub capped_item_some : (q : DemoRequest) (m : List Mark) → AllowsSome (MeansCappedItem q m)
capped_item_some q m =
    means_capped_some (MeansJson (capped_json_settings q) (ByHandler json_teapot) IsVendorType
    ItemOfJson q.head m) (json_some (capped_json_settings q) (ByHandler json_teapot)
    IsVendorType ItemOfJson q.head m)

abbrev pub capped_item_rest : DemoRequest → List Mark → List Mark
capped_item_rest q m =
    json_rest (capped_json_settings q) json_teapot is_vendor_type item_of_json q.head m

abbrev pub capped_item_result : DemoRequest → List Mark → DelayedResult (Capped (Json Item) 16)
capped_item_result q m = with_value as_capped
    (json_result (capped_json_settings q) json_teapot is_vendor_type item_of_json q.head m)

-- of a form

abbrev pub form_settings_of : DemoRequest → FormSettings Teapot
form_settings_of q = form_settings demo_configurations q.layers

abbrev pub MeansFormItem : DemoRequest → ArgumentMeaning (Form Item) Fault
MeansFormItem q = MeansForm (form_settings_of q) (ByHandler form_teapot) ItemOfPairs q.head

pub form_item_some : (q : DemoRequest) (m : List Mark) → AllowsSome (MeansFormItem q m)
form_item_some q = form_some (form_settings_of q) (ByHandler form_teapot) ItemOfPairs q.head

abbrev pub form_item_rest : DemoRequest → List Mark → List Mark
form_item_rest q m = form_rest q.head.headers m

abbrev pub form_item_result : DemoRequest → List Mark → DelayedResult (Form Item)
form_item_result q m = form_result (form_settings_of q) form_teapot item_of_pairs q.head m

-- of a JSON body, and where that is refused of a form

abbrev pub MeansEitherItem :
    DemoRequest → ArgumentMeaning (Either (Json Item) (Form Item)) (EitherExtractError Fault Fault)
MeansEitherItem q = MeansEither (MeansBody q) (MeansJsonItem q) (MeansFormItem q)

pub either_item_some : (q : DemoRequest) (m : List Mark) → AllowsSome (MeansEitherItem q m)
either_item_some q =
    either_some (MeansBody q) (MeansJsonItem q) (MeansFormItem q) (body_some q)
    (json_item_some q) (form_item_some q)

abbrev pub either_item_result :
    DemoRequest → List Mark → DelayedResult (Either (Json Item) (Form Item))
either_item_result q m =
    either_result (body_result q m) (json_item_result q) (form_item_result q)

-- of the parameters of the path

abbrev pub path_handler_of : DemoRequest → Option Teapot
path_handler_of q = (path_settings demo_configurations q.layers).handler

abbrev pub MeansPathItem : DemoRequest → ArgumentMeaning Item Fault
MeansPathItem q =
    MeansRead (λ v. v) (PathRefused (ByHandler path_teapot) (path_handler_of q) q.head)
    (ItemOfPairs (decoded_parameters q.params))

pub path_item_some : (q : DemoRequest) (m : List Mark) → AllowsSome (MeansPathItem q m)
path_item_some q =
    read_some (λ v. v) (PathRefused (ByHandler path_teapot) (path_handler_of q) q.head)
    (path_refused_some (ByHandler path_teapot) (path_handler_of q) q.head)
    (ItemOfPairs (decoded_parameters q.params))

abbrev pub path_item_result : DemoRequest → DelayedResult Item
path_item_result q = path_result item_of_pairs path_teapot (path_handler_of q) q.head q.params

-- of the query

abbrev pub query_handler_of : DemoRequest → Option Teapot
query_handler_of q = (query_settings demo_configurations q.layers).handler

abbrev pub as_query : Item → Query Item
as_query item = record { 0 = item }

abbrev pub MeansQueryItem : DemoRequest → ArgumentMeaning (Query Item) Fault
MeansQueryItem q =
    MeansRead as_query (QueryRefused (ByHandler query_teapot) (query_handler_of q) q.head)
    (ItemOfPairs (form_pairs (head_query q.head)))

pub query_item_some : (q : DemoRequest) (m : List Mark) → AllowsSome (MeansQueryItem q m)
query_item_some q =
    read_some as_query (QueryRefused (ByHandler query_teapot) (query_handler_of q) q.head)
    (query_refused_some (ByHandler query_teapot) (query_handler_of q) q.head)
    (ItemOfPairs (form_pairs (head_query q.head)))

abbrev pub query_item_result : DemoRequest → DelayedResult (Query Item)
query_item_result q = query_result item_of_pairs query_teapot (query_handler_of q) q.head
