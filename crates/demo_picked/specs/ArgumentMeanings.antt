-- What the demo's arguments mean, alone and in lists.
use Rattle.std.specs.Prelude.{◌≡◌, ℕ, List, Option, None, Some, Result, Ok, Err, String}
use Rattle.std.specs.Prelude.{codes}
use Rattle.std.specs.Global.{Global}
use Rattle.std.specs.Option.{option_map}
use Rattle.web_texts.specs.MediaTypes.{MediaType}
use Rattle.web_texts.specs.declared.errors.ParseError.{ParseError}
use Rattle.web_texts.specs.declared.errors.ParseError.TheVariants as refusal
use Rattle.web_texts.specs.declared.media.quality_item.QualityItem.{QualityItem}
use Rattle.web_texts.specs.Pairs.{Pair}
use Rattle.web_headers.specs.ListHeaders.{accept_of}
use Rattle.web_headers.specs.declared.accepts.accept_header.Accept.{Accept}
use Rattle.web_request.specs.declared.source.Mark.{Mark}
use Rattle.web_request.specs.Connections.{Connection, connection_of}
use Rattle.web_request.specs.KeptValues.{CookiesSaid, known_cookies}
use Rattle.web_request.specs.Request.{Record, record_of}
use Rattle.web_reply.specs.declared.errors.cause.Cause.TheVariants.{Parse}
use Rattle.web_reply.specs.Replies.{Fault, fault_of}
use Rattle.web_extract.specs.DataArguments.{data_result, request_data_result}
use Rattle.web_extract.specs.Extracts.{AllowsSome}
use Rattle.web_extract.specs.HeadArguments.{AllowsNow, IsRequest, MeansNow, immediate, now_some}
use Rattle.web_extract.specs.HeadArguments.{request_some}
use Rattle.web_extract.specs.ListMeanings.{ArgumentMeaning, Meaning, Means2, Means3, Member}
use Rattle.web_extract.specs.ListResults.{DelayedResult, list2, list3}
use Rattle.web_extract.specs.OptionArgument.{GivesOption, means_option_some}
use Rattle.web_extract.specs.ResultArgument.{GivesResult, means_result_some}
use Rattle.web_extract.specs.SomeAnswer.{itself, means2_some, means3_some, member_some}
use Rattle.web_extract.specs.declared.never.Never.{Never}
use Rattle.web_extract_head.specs.HeaderArgument.{MeansHeader, header_some, request_values}
use Rattle.web_extract_head.specs.declared.header_argument.Header.{Header}
use Rattle.web_extract_body.specs.declared.json_value.Json.{Json}
use Rattle.demo_app.specs.declared.app.DemoConn.{DemoConn}
use Rattle.demo_app.specs.declared.app.DemoLocal.{DemoLocal}
use Rattle.demo_app.specs.declared.item.Item.{Item}
use Rattle.demo_app.specs.declared.layer.DemoLayer.{DemoLayer}
use Rattle.demo_picked.specs.BodyArguments.{MeansBody, MeansText, body_result, body_some}
use Rattle.demo_picked.specs.BodyArguments.{text_result, text_some}
use Rattle.demo_app.specs.DemoRequests.{DemoRequest}
use Rattle.demo_picked.specs.ItemArguments.{MeansJsonItem, json_item_rest, json_item_result}
use Rattle.demo_picked.specs.ItemArguments.{json_item_some}
use Rattle.demo_picked.specs.Picking.{By, converted_by, never_fault, same_fault}
use Rattle.demo_arguments.specs.LateAndWait.{MeansLate, delay_in, late_result, late_some}
use Rattle.demo_arguments.specs.declared.late.Late.{Late}

module _ {T E : Type 0} (converts : E → Fault → Type 0)
    (converted : (e : E) → (f : Fault) × converts e f) (means : ArgumentMeaning T E)
    (some : (m : List Mark) → AllowsSome (means m)) where
  pub in_list_some : (m : List Mark) → AllowsSome (Member converts means m)
  in_list_some = member_some converts converted means some

-- the header Accept

abbrev pub SaysAccept : DemoRequest → Option Accept → Type 0
SaysAccept q said =
    option_map (λ header. header.0) said ≡ accept_of (request_values (codes "accept") q)

abbrev pub MeansAccept : DemoRequest → ArgumentMeaning (Header Accept) ParseError
MeansAccept q = MeansHeader (SaysAccept q)

pub accept_some : (q : DemoRequest) (m : List Mark) → AllowsSome (MeansAccept q m)
accept_some q = header_some (SaysAccept q)

abbrev pub header_or_fault : Option (List (QualityItem MediaType)) → Result (Header Accept) Fault
header_or_fault None = Err (fault_of (Parse refusal.Header))
header_or_fault (Some items) = Ok (record { 0 = record { 0 = items } })

abbrev pub accept_result : DemoRequest → DelayedResult (Header Accept)
accept_result q = immediate (header_or_fault (accept_of (request_values (codes "accept") q)))

-- the whole body as a text, and the argument that comes late

abbrev pub delayed_late : List Pair → DelayedResult Late
delayed_late params = record { delay = delay_in params; result = late_result params }

abbrev pub MeansBoth : DemoRequest → Meaning (String Global × Late)
MeansBoth q =
    Means2 (Member (By same_fault) (MeansText q)) (Member (By same_fault) (MeansLate q.params))

pub both_some : (q : DemoRequest) (m : List Mark) → AllowsSome (MeansBoth q m)
both_some q =
    means2_some (Member (By same_fault) (MeansText q)) (Member (By same_fault) (MeansLate q.params))
    (in_list_some (By same_fault) (converted_by same_fault) (MeansText q) (text_some q))
    (in_list_some (By same_fault) (converted_by same_fault) (MeansLate q.params)
    (late_some q.params))

abbrev pub both_result : DemoRequest → List Mark → DelayedResult (List ℕ × Late)
both_result q m = list2 (text_result q m) (delayed_late q.params)

-- the number of the nearest layer, that of the request, and the request

abbrev pub number_result : DemoRequest → DelayedResult ℕ
number_result q = data_result (λ layer. layer.number) q.layers

abbrev pub local_result : DemoRequest → DelayedResult DemoLocal
local_result q = request_data_result (λ local. Some local) q.local

abbrev pub MeansNumber : DemoRequest → ArgumentMeaning ℕ Fault
MeansNumber q = MeansNow (number_result q).result

abbrev pub MeansLocal : DemoRequest → ArgumentMeaning DemoLocal Fault
MeansLocal q = MeansNow (local_result q).result

abbrev pub MeansRequest : DemoRequest → ArgumentMeaning (Record DemoLayer DemoLocal DemoConn) Fault
MeansRequest q = AllowsNow (IsRequest q)

abbrev pub MeansData :
    DemoRequest → Meaning (ℕ × DemoLocal × Record DemoLayer DemoLocal DemoConn)
MeansData q =
    Means3 (Member (By same_fault) (MeansNumber q)) (Member (By same_fault) (MeansLocal q))
    (Member (By same_fault) (MeansRequest q))

pub data_some : (q : DemoRequest) (m : List Mark) → AllowsSome (MeansData q m)
data_some q =
    means3_some (Member (By same_fault) (MeansNumber q)) (Member (By same_fault) (MeansLocal q))
    (Member (By same_fault) (MeansRequest q))
    (in_list_some (By same_fault) (converted_by same_fault) (MeansNumber q)
    (now_some (number_result q).result))
    (in_list_some (By same_fault) (converted_by same_fault) (MeansLocal q)
    (now_some (local_result q).result))
    (in_list_some (By same_fault) (converted_by same_fault) (MeansRequest q) (request_some q))

abbrev pub numbers_result : DemoRequest → DelayedResult (ℕ × DemoLocal × DemoRequest)
numbers_result q = list3 (number_result q) (local_result q) (immediate (Ok q))

-- an item of the body as JSON, where it is not refused, and what is left of the body

abbrev pub MeansOptional : DemoRequest → Meaning (Option (Json Item) × List ℕ)
MeansOptional q =
    Means2 (Member (By never_fault) (λ m rest. GivesOption (MeansJsonItem q m rest)))
    (Member (By same_fault) (MeansBody q))

pub optional_some : (q : DemoRequest) (m : List Mark) → AllowsSome (MeansOptional q m)
optional_some q =
    means2_some (Member (By never_fault) (λ m rest. GivesOption (MeansJsonItem q m rest)))
    (Member (By same_fault) (MeansBody q))
    (in_list_some (By never_fault) (converted_by never_fault)
    (λ m rest. GivesOption (MeansJsonItem q m rest))
    (λ m. means_option_some (MeansJsonItem q m) (json_item_some q m)))
    (in_list_some (By same_fault) (converted_by same_fault) (MeansBody q) (body_some q))

-- an item or nothing, without a refusal
abbrev pub or_none : {T : Type 0} → Result T Fault → Result (Option T) Fault
or_none (Ok v) = Ok (Some v)
or_none (Err e) = Ok None

abbrev pub without_refusal : {T : Type 0} → DelayedResult T → DelayedResult (Option T)
without_refusal v = record { delay = v.delay; result = or_none v.result }

abbrev pub optional_result :
    DemoRequest → List Mark → DelayedResult (Option (Json Item) × List ℕ)
optional_result q m =
    list2 (without_refusal (json_item_result q m)) (body_result q (json_item_rest q m))

-- an item of the body as JSON, or its refusal

abbrev pub MeansItemOrRefusal : DemoRequest → ArgumentMeaning (Result (Json Item) Fault) Never
MeansItemOrRefusal q m rest = GivesResult (By same_fault) (MeansJsonItem q m rest)

pub item_or_refusal_some : (q : DemoRequest) (m : List Mark) → AllowsSome (MeansItemOrRefusal q m)
item_or_refusal_some q m =
    means_result_some (By same_fault) itself (MeansJsonItem q m) (json_item_some q m)

-- the result as a value
abbrev pub as_value : {T : Type 0} → DelayedResult T → DelayedResult (Result T Fault)
as_value v = record { delay = v.delay; result = Ok v.result }

-- where the request came from and was sent to

abbrev pub demo_connection : DemoRequest → Connection
demo_connection q = connection_of q.head q.config

abbrev pub MeansWho : DemoRequest → ArgumentMeaning Connection Never
MeansWho q = MeansNow (Ok (demo_connection q))

pub who_some : (q : DemoRequest) (m : List Mark) → AllowsSome (MeansWho q m)
who_some q = now_some (Ok (demo_connection q))

abbrev pub who_result : DemoRequest → DelayedResult Connection
who_result q = immediate (Ok (demo_connection q))

-- what the head says of cookies

abbrev pub demo_cookies : DemoRequest → CookiesSaid
demo_cookies q = known_cookies (record_of q)

abbrev pub cookies_result : DemoRequest → DelayedResult CookiesSaid
cookies_result q = immediate (Ok (demo_cookies q))
