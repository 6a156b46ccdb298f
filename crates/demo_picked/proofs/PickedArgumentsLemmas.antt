-- The arguments that the first segment of a path asks for.
use Rattle.std.proofs.Common.{◌≡◌, ℕ, List, [], refl, sym, ap, ◌∙◌}
use Rattle.std.specs.Prelude.{Option, None, Some, Result, Ok, Err, String, string_bytes, codes}
use Rattle.std.specs.Global.{Global}
use Rattle.std.specs.Option.{option_map}
use Rattle.web_texts.specs.MediaTypes.{MediaType}
use Rattle.web_texts.specs.declared.media.quality_item.QualityItem.{QualityItem}
use Rattle.web_headers.specs.ListHeaders.{accept_of}
use Rattle.web_headers.specs.declared.accepts.accept_header.Accept.{Accept}
use Rattle.web_request.specs.declared.source.Mark.{Mark}
use Rattle.web_request.specs.Feed.{Feed}
use Rattle.web_request.specs.Head.{head_path}
use Rattle.web_request.specs.KeptValues.{known_cookies}
use Rattle.web_request.specs.Request.{Record, nothing_kept}
use Rattle.web_body.specs.MemoryBodies.{marks_feed}
use Rattle.web_body.specs.declared.payload.Payload.{Payload}
use Rattle.web_body.specs.declared.payload.Payload.TheVariants as payload
use Rattle.web_reply.specs.Replies.{Fault}
use Rattle.web_extract.specs.BytesArgument.{MeansBytes, bytes_result}
use Rattle.web_extract.specs.CollectedResults.{map_value}
use Rattle.web_extract.specs.ConvertedFutures.{ConvertsResult, GivesConverted, converted_result}
use Rattle.web_extract.specs.Extracts.{Extracts}
use Rattle.web_extract.specs.HeadArguments.{IsRequest, immediate as at_once, seen_request}
use Rattle.web_extract.specs.ListMeanings.{ArgumentMeaning, Meaning, Member}
use Rattle.web_extract.specs.ListResults.{DelayedResult}
use Rattle.web_extract.specs.OptionArgument.{GivesOption, as_option}
use Rattle.web_extract.specs.PayloadArgument.{payload_result, seen_payload}
use Rattle.web_extract.specs.ReadyFuture.{GivesHeld, MeansUnit}
use Rattle.web_extract.specs.ResultArgument.{AsResult}
use Rattle.web_extract.specs.StringArgument.{decoded}
use Rattle.web_extract.specs.declared.never.Never.{Never}
use Rattle.web_extract.proofs.ConvertedFuturesLemmas.{GivesOnly, converted_only}
use Rattle.web_extract.proofs.HeadArgumentsLemmas.{only_payload, only_request}
use Rattle.web_headers.specs.HeaderLaws.{SaysOnly}
use Rattle.web_extract_head.specs.HeaderArgument.{header_result, request_values}
use Rattle.web_extract_head.proofs.HeaderArgumentLemmas.{gives_only}
use Rattle.demo_app.specs.declared.app.DemoConn.{DemoConn}
use Rattle.demo_app.specs.declared.app.DemoLocal.{DemoLocal}
use Rattle.demo_app.specs.declared.layer.DemoLayer.{DemoLayer}
use Rattle.demo_arguments.specs.Choices.{choice_of}
use Rattle.demo_arguments.specs.DemoArguments.{raw_view, seen_data}
use Rattle.demo_app.specs.DemoRequests.{DemoRequest}
use Rattle.demo_arguments.specs.LateAndWait.{MeansLate, MeansWait}
use Rattle.demo_picked.specs.BodyArguments.{MeansBody, MeansRaw, MeansText, body_rest, body_result}
use Rattle.demo_picked.specs.BodyArguments.{MeansCapped, capped_rest, capped_result, capped_settings_of}
use Rattle.demo_picked.specs.BodyArguments.{text_rest, text_result}
use Rattle.demo_picked.specs.ArgumentMeanings.{MeansAccept, accept_result, header_or_fault}
use Rattle.demo_picked.specs.ArgumentMeanings.{MeansBoth, both_result, delayed_late}
use Rattle.demo_picked.specs.ArgumentMeanings.{MeansData, MeansLocal, MeansNumber, MeansRequest}
use Rattle.demo_picked.specs.ArgumentMeanings.{local_result, number_result, numbers_result}
use Rattle.demo_picked.specs.ArgumentMeanings.{MeansOptional, optional_result, or_none}
use Rattle.demo_picked.specs.ArgumentMeanings.{without_refusal}
use Rattle.demo_picked.specs.ArgumentMeanings.{MeansItemOrRefusal, as_value}
use Rattle.demo_picked.specs.ArgumentMeanings.{MeansWho, cookies_result, demo_cookies, who_result}
use Rattle.demo_picked.specs.ItemArguments.{MeansEitherItem, MeansFormItem, MeansJsonItem}
use Rattle.demo_picked.specs.ItemArguments.{MeansCappedItem, capped_item_rest, capped_item_result}
use Rattle.demo_picked.specs.ItemArguments.{MeansPathItem, MeansQueryItem}
use Rattle.demo_picked.specs.ItemArguments.{either_item_result, form_item_result}
use Rattle.demo_picked.specs.ItemArguments.{form_item_rest, json_item_rest, json_item_result}
use Rattle.demo_picked.specs.ItemArguments.{path_item_result, query_item_result}
use Rattle.demo_picked.specs.PartsArgument.{MeansParts, parts_rest, parts_result}
use Rattle.demo_picked.specs.PickedArguments.{MeansChoice, MeansDecoded, MeansHead, MeansPicked, MeansRead, MeansRequestAs}
use Rattle.demo_picked.specs.PickedArguments.{choice_result, decoded_result, head_result, read_result, request_result}
use Rattle.demo_picked.specs.PickedArguments.{picked_delay, picked_result}
use Rattle.demo_picked.specs.Picking.{By, ByEither, Picks, never_fault, parse_fault, same_fault}
use Rattle.demo_arguments.specs.declared.choice.Choice.{Choice}
use Rattle.demo_arguments.specs.declared.choice.Choice.TheVariants as choice
use Rattle.demo_arguments.specs.declared.choice.DecodedChoice.{DecodedChoice}
use Rattle.demo_arguments.specs.declared.choice.DecodedChoice.TheVariants as decoded
use Rattle.demo_arguments.specs.declared.choice.HeadChoice.{HeadChoice}
use Rattle.demo_arguments.specs.declared.choice.HeadChoice.TheVariants as head
use Rattle.demo_arguments.specs.declared.choice.ReadChoice.{ReadChoice}
use Rattle.demo_arguments.specs.declared.choice.ReadChoice.TheVariants as read
use Rattle.demo_arguments.specs.declared.choice.RequestChoice.{RequestChoice}
use Rattle.demo_arguments.specs.declared.choice.RequestChoice.TheVariants as request
use Rattle.demo_arguments.specs.LinesArgument.{MeansLines, lines_rest, lines_result}
use Rattle.demo_picked.specs.declared.picked.Picked.{Picked}
use Rattle.demo_picked.specs.declared.picked.Picked.TheVariants as picked
use Rattle.demo_picked.proofs.ItemArgumentsLemmas.{capped_item_seen, either_seen, form_seen, json_seen, path_seen, query_seen}
use Rattle.demo_picked.proofs.SeenArgumentsLemmas.{Seen, SeenAlone, capped_alone, chosen_only, converted_same, listed_seen, pair_seen, three_seen}

-- each argument

body_seen : (q : DemoRequest) → SeenAlone (λ v. v) same_fault (MeansBody q) (body_rest q) (body_result q)
body_seen q m left n y h = (h.0, h.1, converted_same y ∙ h.2)

capped_seen : (q : DemoRequest) → SeenAlone (λ v. v) same_fault (MeansCapped q) (capped_rest q) (capped_result q)
capped_seen q =
    capped_alone 4 (MeansBytes (capped_settings_of q) q.head.headers) (capped_rest q)
    (λ m. bytes_result (capped_settings_of q) q.head.headers m) (λ m left n y h. (h.0, h.1, converted_same y ∙ h.2))

text_value : (y : Result (String Global) Fault) → converted_result string_bytes same_fault y ≡ map_value string_bytes y
text_value (Ok v) = refl
text_value (Err e) = refl

text_seen : (q : DemoRequest) → SeenAlone string_bytes same_fault (MeansText q) (text_rest q) (text_result q)
text_seen q m left n y h = (h.1.0, h.1.1, text_value y ∙ h.2 ∙ ap decoded h.1.2)

raw_value : (y : Result (Payload Feed) Fault) → converted_result raw_view same_fault y ≡ seen_payload (λ feed. feed) y
raw_value (Ok p) = refl
raw_value (Err e) = refl

raw_seen : SeenAlone raw_view same_fault MeansRaw (λ m. []) payload_result
raw_seen m left n y h =
    let once = only_payload (λ feed. feed) (payload.Stream (record (marks_feed m) { marks = Some m })) m refl left n y h in
    (once.0, once.1, raw_value y ∙ once.2)

late_seen : (q : DemoRequest) → SeenAlone (λ v. v) same_fault (MeansLate q.params) (λ m. m) (λ m. delayed_late q.params)
late_seen q m left n y h = (h.0, h.1, converted_same y ∙ h.2)

number_seen : (q : DemoRequest) → SeenAlone (λ v. v) same_fault (MeansNumber q) (λ m. m) (λ m. number_result q)
number_seen q m left n y h = (h.0, h.1, converted_same y ∙ h.2)

local_seen : (q : DemoRequest) → SeenAlone (λ v. v) same_fault (MeansLocal q) (λ m. m) (λ m. local_result q)
local_seen q m left n y h = (h.0, h.1, converted_same y ∙ h.2)

request_value : (y : Result (Record DemoLayer DemoLocal DemoConn) Fault) → converted_result (λ r. r.request) same_fault y ≡ seen_request y
request_value (Ok r) = refl
request_value (Err e) = refl

request_seen : (q : DemoRequest) → SeenAlone (λ r. r.request) same_fault (MeansRequest q) (λ m. m) (λ m. at_once (Ok q))
request_seen q m left n y h =
    let once = only_request q m left n y h in
    (once.0, once.1, request_value y ∙ once.2)

-- where the request came from, its cookies, and its lines

who_seen : (q : DemoRequest) → SeenAlone (λ v. v) never_fault (MeansWho q) (λ m. m) (λ m. who_result q)
who_seen q m left n y h = (h.0, h.1, ap (converted_result (λ v. v) never_fault) h.2)

cookies_known : (q : DemoRequest) (r : Record DemoLayer DemoLocal DemoConn) → r.request ≡ q → r.kept ≡ nothing_kept → known_cookies r ≡ demo_cookies q
cookies_known q r is none = rw (is, none) refl

cookies_value : (q : DemoRequest) (y : Result (Record DemoLayer DemoLocal DemoConn) Fault) → IsRequest q y → converted_result known_cookies same_fault y ≡ Ok (demo_cookies q)
cookies_value q (Ok r) h = ap Ok (cookies_known q r h.0 h.1)
cookies_value q (Err e) h = absurd h

cookies_seen : (q : DemoRequest) → SeenAlone known_cookies same_fault (MeansRequest q) (λ m. m) (λ m. cookies_result q)
cookies_seen q m left n y h = (h.0, h.1, cookies_value q y h.2)

lines_seen : (q : DemoRequest) → SeenAlone (λ v. v) same_fault (MeansLines q) (lines_rest q) (lines_result q)
lines_seen q m left n y h = (h.0, h.1, converted_same y ∙ h.2)

parts_seen : (q : DemoRequest) → SeenAlone (λ v. v) same_fault (MeansParts q) (parts_rest q) (parts_result q)
parts_seen q m left n y h = (h.0, h.1, converted_same y ∙ h.2)

-- the header Accept

abbrev accept_said : Option (List (QualityItem MediaType)) → Option Accept
accept_said items = option_map (λ i. record { 0 = i }) items

none_said : (other : Option Accept) → option_map (λ (header : Accept). header.0) other ≡ None → other ≡ None
none_said None says = refl
none_said (Some header) says = absurd (cc)

some_said : (i : List (QualityItem MediaType)) (other : Option Accept) → option_map (λ (header : Accept). header.0) other ≡ Some i → other ≡ Some (record { 0 = i })
some_said i None says = absurd (cc)
some_said i (Some header) says =
    let same : header.0 ≡ i = cc in
    ap (λ (l : List (QualityItem MediaType)). Some (record { 0 = l })) same

only_said : (items : Option (List (QualityItem MediaType))) → SaysOnly (λ said. option_map (λ (header : Accept). header.0) said ≡ items) (accept_said items)
only_said None = (refl, λ other says. none_said other says)
only_said (Some i) = (refl, λ other says. some_said i other says)

accept_value : (items : Option (List (QualityItem MediaType))) → converted_result (λ v. v) parse_fault (header_result (accept_said items)) ≡ header_or_fault items
accept_value None = refl
accept_value (Some i) = refl

accept_seen : (q : DemoRequest) → SeenAlone (λ v. v) parse_fault (MeansAccept q) (λ m. m) (λ m. accept_result q)
accept_seen q m left n y h =
    let items = accept_of (request_values (codes "accept") q) in
    let once = (gives_only (λ said. option_map (λ (header : Accept). header.0) said ≡ items) (accept_said items) (only_said items) m).1 left n y h in
    (once.0, once.1, ap (converted_result (λ v. v) parse_fault) once.2 ∙ accept_value items)

-- an argument whose refusal is no refusal

option_value : {T : Type 0} (y : Result T Fault) → converted_result (λ v. v) never_fault (as_option y) ≡ or_none y
option_value (Ok v) = refl
option_value (Err e) = refl

option_seen : (q : DemoRequest) → SeenAlone (λ v. v) never_fault (λ m rest. GivesOption (MeansJsonItem q m rest)) (json_item_rest q) (λ m. without_refusal (json_item_result q m))
option_seen q m left n x h =
    let once = json_seen q m left n h.0 h.1 in
    (once.0, once.1, ap (converted_result (λ v. v) never_fault) h.2 ∙ option_value h.0 ∙ ap or_none (sym (converted_same h.0) ∙ once.2))

result_value : {T : Type 0} (y : Result T Fault) (x : Result (Result T Fault) Never) → AsResult (By same_fault) y x
    → converted_result (λ v. v) never_fault x ≡ Ok y
result_value (Ok v) x h = rw h refl
result_value (Err e) x h = rw (h.2, h.1) refl

result_seen : (q : DemoRequest) → SeenAlone (λ v. v) never_fault (MeansItemOrRefusal q) (json_item_rest q) (λ m. as_value (json_item_result q m))
result_seen q m left n x h =
    let once = json_seen q m left n h.0 h.1 in
    (once.0, once.1, result_value h.0 x h.2 ∙ ap Ok (sym (converted_same h.0) ∙ once.2))

-- lists of arguments

by_only : {E : Type 0} (error : E → Fault) (e : E) (f : Fault) → By error e f → f ≡ error e
by_only error e f h = h

listed : {T E V : Type 0} (f : T → V) (error : E → Fault) (means : ArgumentMeaning T E) (rest : List Mark → List Mark) (a : List Mark → DelayedResult V)
    → SeenAlone f error means rest a → Seen f (Member (By error) means) rest a
listed f error means rest a seen = listed_seen f (By error) error (by_only error) means rest a seen

both_seen : (q : DemoRequest) → Seen (λ v. (string_bytes v.0, v.1)) (MeansBoth q) (text_rest q) (both_result q)
both_seen q =
    pair_seen string_bytes (λ v. v) (Member (By same_fault) (MeansText q)) (Member (By same_fault) (MeansLate q.params))
    (text_rest q) (λ m. m) (text_result q) (λ m. delayed_late q.params)
    (listed string_bytes same_fault (MeansText q) (text_rest q) (text_result q) (text_seen q))
    (listed (λ v. v) same_fault (MeansLate q.params) (λ m. m) (λ m. delayed_late q.params) (late_seen q))

optional_seen : (q : DemoRequest) → Seen (λ v. (v.0, v.1)) (MeansOptional q) (λ m. body_rest q (json_item_rest q m)) (optional_result q)
optional_seen q =
    pair_seen (λ v. v) (λ v. v) (Member (By never_fault) (λ m rest. GivesOption (MeansJsonItem q m rest))) (Member (By same_fault) (MeansBody q))
    (json_item_rest q) (body_rest q) (λ m. without_refusal (json_item_result q m)) (body_result q)
    (listed (λ v. v) never_fault (λ m rest. GivesOption (MeansJsonItem q m rest)) (json_item_rest q) (λ m. without_refusal (json_item_result q m)) (option_seen q))
    (listed (λ v. v) same_fault (MeansBody q) (body_rest q) (body_result q) (body_seen q))

data_seen : (q : DemoRequest) → Seen (λ v. (v.0, v.1, v.2.request)) (MeansData q) (λ m. m) (λ m. numbers_result q)
data_seen q =
    three_seen (λ v. v) (λ v. v) (λ r. r.request)
    (Member (By same_fault) (MeansNumber q)) (Member (By same_fault) (MeansLocal q)) (Member (By same_fault) (MeansRequest q))
    (λ m. m) (λ m. m) (λ m. m) (λ m. number_result q) (λ m. local_result q) (λ m. at_once (Ok q))
    (listed (λ v. v) same_fault (MeansNumber q) (λ m. m) (λ m. number_result q) (number_seen q))
    (listed (λ v. v) same_fault (MeansLocal q) (λ m. m) (λ m. local_result q) (local_seen q))
    (listed (λ r. r.request) same_fault (MeansRequest q) (λ m. m) (λ m. at_once (Ok q)) (request_seen q))

-- what is picked of an argument that is seen by a function
module _ {T E V : Type 0} (f : T → V) (converts : E → Fault → Type 0) (value : V → Picked) (means : ArgumentMeaning T E)
    (rest : List Mark → List Mark) (a : List Mark → DelayedResult V) where
  as_listed : (m left : List Mark) (n : ℕ) (y : Result T E) (x : Result Picked Fault) → means m left n y
      → ConvertsResult (λ v w. w ≡ value (f v)) converts y x
      → (z : Result T Fault) × Member converts means m left n z × (x ≡ map_value value (map_value f z))
  as_listed m left n (Ok v) x h c = (Ok v, h, c.2 ∙ ap Ok c.1)
  as_listed m left n (Err e) x h c = (Err c.0, (e, h, c.1), c.2)

  pick_listed : Seen f (Member converts means) rest a → (m left : List Mark)
      → GivesOnly (λ n x. Picks (λ v. value (f v)) converts means m left n x) (a m).delay (map_value value (a m).result)
  pick_listed seen m left n x h =
      let z = as_listed m left n h.0 x h.1 h.2 in
      let once = seen m left n z.0 z.1 in
      (once.1, z.2 ∙ ap (map_value value) once.2)

pick : {T E V : Type 0} (f : T → V) (error : E → Fault) (value : V → Picked) (means : ArgumentMeaning T E)
    (rest : List Mark → List Mark) (a : List Mark → DelayedResult V) → SeenAlone f error means rest a → (m left : List Mark)
    → GivesOnly (λ n x. Picks (λ v. value (f v)) (By error) means m left n x) (a m).delay (map_value value (a m).result)
pick f error value means rest a seen = pick_listed f (By error) value means rest a (listed f error means rest a seen)

-- one delay and one result for each choice

decoded_only : (c : DecodedChoice) (q : DemoRequest) (m rest : List Mark)
    → GivesOnly (λ n x. MeansDecoded c q m rest n x) (decoded_result c q m).delay (decoded_result c q m).result
decoded_only decoded.Json q m rest = pick (λ v. v) same_fault (λ v. picked.Json v) (MeansJsonItem q) (json_item_rest q) (json_item_result q) (json_seen q) m rest
decoded_only decoded.CappedJson q m rest = pick (λ v. v) same_fault (λ v. picked.CappedJson v) (MeansCappedItem q) (capped_item_rest q) (capped_item_result q) (capped_item_seen q) m rest
decoded_only decoded.Form q m rest = pick (λ v. v) same_fault (λ v. picked.Form v) (MeansFormItem q) (form_item_rest q) (form_item_result q) (form_seen q) m rest
decoded_only decoded.Either q m rest = pick_listed (λ v. v) ByEither (λ v. picked.Either v) (MeansEitherItem q) (body_rest q) (either_item_result q) (either_seen q) m rest
decoded_only decoded.Option q m rest =
    chosen_only (λ v. (v.0, v.1)) (λ v. picked.Option v.0 v.1) (MeansOptional q) (λ m. body_rest q (json_item_rest q m)) (optional_result q) (optional_seen q) m rest
decoded_only decoded.Result q m rest = pick (λ v. v) never_fault (λ v. picked.Result v) (MeansItemOrRefusal q) (json_item_rest q) (λ m. as_value (json_item_result q m)) (result_seen q) m rest
decoded_only decoded.Parts q m rest = pick (λ v. v) same_fault (λ v. picked.Parts v) (MeansParts q) (parts_rest q) (parts_result q) (parts_seen q) m rest

read_only : (c : ReadChoice) (q : DemoRequest) (m rest : List Mark)
    → GivesOnly (λ n x. MeansRead c q m rest n x) (read_result c q m).delay (read_result c q m).result
read_only read.Path q m rest = pick (λ v. v) same_fault (λ v. picked.Path v) (MeansPathItem q) (λ m. m) (λ m. path_item_result q) (path_seen q) m rest
read_only read.Query q m rest = pick (λ v. v) same_fault (λ v. picked.Query v) (MeansQueryItem q) (λ m. m) (λ m. query_item_result q) (query_seen q) m rest
read_only read.Header q m rest = pick (λ v. v) parse_fault (λ v. picked.Header v) (MeansAccept q) (λ m. m) (λ m. accept_result q) (accept_seen q) m rest
read_only read.Raw q m rest = pick raw_view same_fault (λ v. picked.Raw v) MeansRaw (λ m. []) payload_result raw_seen m rest

request_only : (c : RequestChoice) (q : DemoRequest) (m rest : List Mark)
    → GivesOnly (λ n x. MeansRequestAs c q m rest n x) (request_result c q).delay (request_result c q).result
request_only request.Cookies q m rest = pick known_cookies same_fault (λ v. picked.Cookies v) (MeansRequest q) (λ m. m) (λ m. cookies_result q) (cookies_seen q) m rest
request_only request.Document q m rest = pick (λ r. r.request) same_fault (λ v. picked.Document v) (MeansRequest q) (λ m. m) (λ m. at_once (Ok q)) (request_seen q) m rest
request_only request.Variant q m rest = pick (λ r. r.request) same_fault (λ v. picked.Variant v) (MeansRequest q) (λ m. m) (λ m. at_once (Ok q)) (request_seen q) m rest

head_only : (c : HeadChoice) (q : DemoRequest) (m rest : List Mark)
    → GivesOnly (λ n x. MeansHead c q m rest n x) (head_result c q m).delay (head_result c q m).result
head_only head.Who q m rest = pick (λ v. v) never_fault (λ v. picked.Who v) (MeansWho q) (λ m. m) (λ m. who_result q) (who_seen q) m rest
head_only (head.Request c) q m rest = request_only c q m rest
head_only head.Wait q m rest =
    converted_only (λ v. picked.Wait v) never_fault (MeansWait q.params m rest) _ _ (λ k y g. (g.1, g.2))
head_only head.Other q m rest =
    converted_only (λ _. picked.Other) never_fault (MeansUnit m rest) _ _ (λ k y g. (g.1, g.2))

choice_only : (c : Choice) (q : DemoRequest) (m rest : List Mark)
    → GivesOnly (λ n x. MeansChoice c q m rest n x) (choice_result c q m).delay (choice_result c q m).result
choice_only choice.Bytes q m rest = pick (λ v. v) same_fault (λ v. picked.Bytes v) (MeansBody q) (body_rest q) (body_result q) (body_seen q) m rest
choice_only choice.Text q m rest = pick string_bytes same_fault (λ v. picked.Text v) (MeansText q) (text_rest q) (text_result q) (text_seen q) m rest
choice_only choice.Capped q m rest = pick (λ v. v) same_fault (λ v. picked.Capped v) (MeansCapped q) (capped_rest q) (capped_result q) (capped_seen q) m rest
choice_only choice.Both q m rest = chosen_only (λ v. (string_bytes v.0, v.1)) (λ v. picked.Both v.0 v.1) (MeansBoth q) (text_rest q) (both_result q) (both_seen q) m rest
choice_only choice.Data q m rest =
    chosen_only (λ v. (v.0, v.1, v.2.request)) (λ v. picked.Data (seen_data v)) (MeansData q) (λ m. m) (λ m. numbers_result q) (data_seen q) m rest
choice_only choice.Lines q m rest = pick (λ v. v) same_fault (λ v. picked.Lines v) (MeansLines q) (lines_rest q) (lines_result q) (lines_seen q) m rest
choice_only (choice.Decoded c) q m rest = decoded_only c q m rest
choice_only (choice.Read c) q m rest = read_only c q m rest
choice_only (choice.Head c) q m rest = head_only c q m rest

-- the future of a choice's arguments, where this choice was made
pub extracts_chosen : {C : Type 0} (means : C → Meaning Picked) (made chosen : C)
    (gives : ℕ → Result Picked Fault → Type 0) (old new : Option (List Mark))
    → made ≡ chosen
    → Extracts (means chosen) gives old new → Extracts (means made) gives old new
extracts_chosen means made chosen gives old new e h = rw e h

-- of a value that is there, what is picked of it
pub extracts_now : {T E : Type 0} (value : T → Picked) (converts : E → Fault → Type 0) (means : ArgumentMeaning T E)
    (gives : ℕ → Result T E → Type 0) (now : ℕ → Result Picked Fault → Type 0) (old new : Option (List Mark))
    → ((n : ℕ) (x : Result Picked Fault) → now n x → GivesConverted (λ v w. w ≡ value v) converts gives n x)
    → Extracts means gives old new → Extracts (λ m rest n x. Picks value converts means m rest n x) now old new
extracts_now value converts means gives now None new within h = tt
extracts_now value converts means gives now (Some m) new within h =
    (h.0, h.1, λ n x g. let y = within n x g in (y.0, h.2 n y.0 y.1, y.2))

pub extracts_choice : (q : DemoRequest) (c : Choice) (gives : ℕ → Result Picked Fault → Type 0) (old new : Option (List Mark))
    → choice_of (head_path q.head) ≡ c
    → Extracts (λ m rest n x. MeansChoice c q m rest n x) gives old new
    → Extracts (λ m rest n x. MeansPicked q m rest n x) gives old new
extracts_choice q c gives old new e h =
    extracts_chosen (λ d m rest n x. MeansChoice d q m rest n x) (choice_of (head_path q.head)) c gives old new e h

-- what is picked of a value that is held
pub held_now : {T E : Type 0} (value : T → Picked) (converts : E → Fault → Type 0) (held : Option (Result T E))
    (y : Result T E) (x : Result Picked Fault) → held ≡ Some y → ConvertsResult (λ v w. w ≡ value v) converts y x
    → (n : ℕ) (z : Result Picked Fault) → GivesHeld (Some x) n z
    → GivesConverted (λ v w. w ≡ value v) converts (GivesHeld held) n z
held_now value converts held y x is c n z g = (y, rw is (g.0, refl), rw g.1 c)

-- one delay and one result for a request and its marks
pub picked_only : (q : DemoRequest) (m rest : List Mark)
    → GivesOnly (λ n x. MeansPicked q m rest n x) (picked_delay q m) (picked_result q m)
picked_only q m rest n x h = choice_only (choice_of (head_path q.head)) q m rest n x h
