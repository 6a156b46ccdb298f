-- The argument `Picked`, which the first segment of the path decides.
use Rattle.std.specs.Prelude.{◌≡◌, ℕ, List, None, Result, Ok, string_bytes, ⊤}
use Rattle.web_request.specs.declared.source.Mark.{Mark}
use Rattle.web_request.specs.Head.{head_path}
use Rattle.web_reply.specs.Replies.{Fault}
use Rattle.web_extract.specs.Extracts.{AllowsSome}
use Rattle.web_extract.specs.HeadArguments.{immediate as at_once, request_some}
use Rattle.web_extract.specs.ListMeanings.{Meaning}
use Rattle.web_extract.specs.ListResults.{DelayedResult, with_value}
use Rattle.web_extract.specs.PayloadArgument.{payload_result}
use Rattle.web_extract.specs.ReadyFuture.{MeansUnit, unit_some}
use Rattle.demo_picked.specs.ArgumentMeanings.{MeansAccept, accept_result, accept_some}
use Rattle.demo_picked.specs.ArgumentMeanings.{MeansBoth, both_result, both_some}
use Rattle.demo_picked.specs.ArgumentMeanings.{MeansData, data_some, numbers_result}
use Rattle.demo_picked.specs.ArgumentMeanings.{MeansItemOrRefusal, as_value}
use Rattle.demo_picked.specs.ArgumentMeanings.{MeansOptional, optional_result, optional_some}
use Rattle.demo_picked.specs.ArgumentMeanings.{MeansRequest, cookies_result}
use Rattle.demo_picked.specs.ArgumentMeanings.{MeansWho, who_result, who_some}
use Rattle.demo_picked.specs.ArgumentMeanings.{item_or_refusal_some}
use Rattle.demo_picked.specs.BodyArguments.{MeansBody, body_result, body_some, settings_of}
use Rattle.demo_picked.specs.BodyArguments.{MeansCapped, capped_result, capped_some}
use Rattle.demo_picked.specs.BodyArguments.{MeansRaw, raw_some}
use Rattle.demo_picked.specs.BodyArguments.{MeansText, text_result, text_some}
use Rattle.demo_picked.specs.ItemArguments.{MeansCappedItem, capped_item_result}
use Rattle.demo_picked.specs.ItemArguments.{MeansEitherItem, either_item_result}
use Rattle.demo_picked.specs.ItemArguments.{MeansFormItem, form_item_result, form_item_some}
use Rattle.demo_picked.specs.ItemArguments.{MeansJsonItem, json_item_result, json_item_some}
use Rattle.demo_picked.specs.ItemArguments.{MeansPathItem, path_item_result, path_item_some}
use Rattle.demo_picked.specs.ItemArguments.{MeansQueryItem, query_item_result, query_item_some}
use Rattle.demo_picked.specs.ItemArguments.{capped_item_some, either_item_some}
use Rattle.demo_picked.specs.PartsArgument.{MeansParts, parts_result, parts_some}
use Rattle.demo_picked.specs.Picking.{By, ByEither, Picks, converted_by, converted_by_either}
use Rattle.demo_picked.specs.Picking.{never_fault, parse_fault, picks_some, same_fault}
use Rattle.demo_arguments.specs.Choices.{choice_of}
use Rattle.demo_arguments.specs.DemoArguments.{data_view, raw_view, seen_data}
use Rattle.demo_arguments.specs.LateAndWait.{MeansWait, delay_in, wait_some}
use Rattle.demo_arguments.specs.LinesArgument.{MeansLines, lines_result, lines_some}
use Rattle.demo_arguments.specs.declared.choice.Choice.{Choice}
use Rattle.demo_arguments.specs.declared.choice.Choice.TheVariants as choice
use Rattle.demo_arguments.specs.declared.choice.DecodedChoice.{DecodedChoice}
use Rattle.demo_arguments.specs.declared.choice.DecodedChoice.TheVariants as decoded
use Rattle.demo_arguments.specs.declared.choice.HeadChoice.{HeadChoice}
use Rattle.demo_arguments.specs.declared.choice.HeadChoice.TheVariants as head
use Rattle.demo_arguments.specs.declared.choice.ReadChoice.{ReadChoice}
use Rattle.demo_arguments.specs.declared.choice.ReadChoice.TheVariants as read
use Rattle.demo_arguments.specs.declared.choice.RequestChoice.{RequestChoice}
use Rattle.demo_arguments.specs.declared.choice.RequestChoice.TheVariants as request
use Rattle.demo_picked.specs.PickedRequests.{picked_request}
use Rattle.demo_picked.specs.declared.picked.Picked.{Picked}
use Rattle.demo_picked.specs.declared.picked.Picked.TheVariants as picked
use Rattle.demo_app.specs.DemoRequests.{DemoRequest}

-- what the arguments that decode the body mean, as what was picked
abbrev pub MeansDecoded : DecodedChoice → DemoRequest → Meaning Picked
MeansDecoded decoded.Json q m rest n x =
    Picks (λ v. picked.Json v) (By same_fault) (MeansJsonItem q) m rest n x
MeansDecoded decoded.CappedJson q m rest n x =
    Picks (λ v. picked.CappedJson v) (By same_fault) (MeansCappedItem q) m rest n x
MeansDecoded decoded.Form q m rest n x =
    Picks (λ v. picked.Form v) (By same_fault) (MeansFormItem q) m rest n x
MeansDecoded decoded.Either q m rest n x =
    Picks (λ v. picked.Either v) ByEither (MeansEitherItem q) m rest n x
MeansDecoded decoded.Option q m rest n x =
    Picks (λ v. picked.Option v.0 v.1) (By same_fault) (MeansOptional q) m rest n x
MeansDecoded decoded.Result q m rest n x =
    Picks (λ v. picked.Result v) (By never_fault) (MeansItemOrRefusal q) m rest n x
MeansDecoded decoded.Parts q m rest n x =
    Picks (λ v. picked.Parts v) (By same_fault) (MeansParts q) m rest n x

decoded_some : (c : DecodedChoice) (q : DemoRequest) (m : List Mark)
    → AllowsSome (MeansDecoded c q m)
decoded_some decoded.Json q m =
    picks_some (λ v. picked.Json v) (By same_fault) (MeansJsonItem q)
    (converted_by same_fault) m (json_item_some q m)
decoded_some decoded.CappedJson q m =
    picks_some (λ v. picked.CappedJson v) (By same_fault) (MeansCappedItem q)
    (converted_by same_fault) m (capped_item_some q m)
decoded_some decoded.Form q m =
    picks_some (λ v. picked.Form v) (By same_fault) (MeansFormItem q)
    (converted_by same_fault) m (form_item_some q m)
decoded_some decoded.Either q m =
    picks_some (λ v. picked.Either v) ByEither (MeansEitherItem q)
    converted_by_either m (either_item_some q m)
decoded_some decoded.Option q m =
    picks_some (λ v. picked.Option v.0 v.1) (By same_fault) (MeansOptional q)
    (converted_by same_fault) m (optional_some q m)
decoded_some decoded.Result q m =
    picks_some (λ v. picked.Result v) (By never_fault) (MeansItemOrRefusal q)
    (converted_by never_fault) m (item_or_refusal_some q m)
decoded_some decoded.Parts q m =
    picks_some (λ v. picked.Parts v) (By same_fault) (MeansParts q)
    (converted_by same_fault) m (parts_some q m)

-- what is picked, and after how many polls
abbrev pub decoded_result : DecodedChoice → DemoRequest → List Mark → DelayedResult Picked
decoded_result decoded.Json q m = with_value (λ v. picked.Json v) (json_item_result q m)
decoded_result decoded.CappedJson q m =
    with_value (λ v. picked.CappedJson v) (capped_item_result q m)
decoded_result decoded.Form q m = with_value (λ v. picked.Form v) (form_item_result q m)
decoded_result decoded.Either q m = with_value (λ v. picked.Either v) (either_item_result q m)
decoded_result decoded.Option q m = with_value (λ v. picked.Option v.0 v.1) (optional_result q m)
decoded_result decoded.Result q m =
    with_value (λ v. picked.Result v) (as_value (json_item_result q m))
decoded_result decoded.Parts q m = with_value (λ v. picked.Parts v) (parts_result q m)

-- the same of those that are read at once
abbrev pub MeansRead : ReadChoice → DemoRequest → Meaning Picked
MeansRead read.Path q m rest n x =
    Picks (λ v. picked.Path v) (By same_fault) (MeansPathItem q) m rest n x
MeansRead read.Query q m rest n x =
    Picks (λ v. picked.Query v) (By same_fault) (MeansQueryItem q) m rest n x
MeansRead read.Header q m rest n x =
    Picks (λ v. picked.Header v) (By parse_fault) (MeansAccept q) m rest n x
MeansRead read.Raw q m rest n x =
    Picks (λ v. picked.Raw (raw_view v)) (By same_fault) MeansRaw m rest n x

read_some : (c : ReadChoice) (q : DemoRequest) (m : List Mark)
    → AllowsSome (MeansRead c q m)
read_some read.Path q m =
    picks_some (λ v. picked.Path v) (By same_fault) (MeansPathItem q)
    (converted_by same_fault) m (path_item_some q m)
read_some read.Query q m =
    picks_some (λ v. picked.Query v) (By same_fault) (MeansQueryItem q)
    (converted_by same_fault) m (query_item_some q m)
read_some read.Header q m =
    picks_some (λ v. picked.Header v) (By parse_fault) (MeansAccept q)
    (converted_by parse_fault) m (accept_some q m)
read_some read.Raw q m =
    picks_some (λ v. picked.Raw (raw_view v)) (By same_fault) MeansRaw
    (converted_by same_fault) m (raw_some m)

-- what is picked, and after how many polls
abbrev pub read_result : ReadChoice → DemoRequest → List Mark → DelayedResult Picked
read_result read.Path q m = with_value (λ v. picked.Path v) (path_item_result q)
read_result read.Query q m = with_value (λ v. picked.Query v) (query_item_result q)
read_result read.Header q m = with_value (λ v. picked.Header v) (accept_result q)
read_result read.Raw q m = with_value (λ v. picked.Raw v) (payload_result m)

-- the same of the request itself
abbrev pub MeansRequestAs : RequestChoice → DemoRequest → Meaning Picked
MeansRequestAs c q m rest n x =
    Picks (picked_request c) (By same_fault) (MeansRequest q) m rest n x

-- what is picked, and after how many polls
abbrev pub request_result : RequestChoice → DemoRequest → DelayedResult Picked
request_result request.Cookies q = with_value (λ v. picked.Cookies v) (cookies_result q)
request_result request.Document q = at_once (Ok (picked.Document q))
request_result request.Variant q = at_once (Ok (picked.Variant q))

-- the same of further ones that are there at once
abbrev pub MeansHead : HeadChoice → DemoRequest → Meaning Picked
MeansHead head.Who q m rest n x =
    Picks (λ v. picked.Who v) (By never_fault) (MeansWho q) m rest n x
MeansHead (head.Request c) q m rest n x = MeansRequestAs c q m rest n x
MeansHead head.Wait q m rest n x =
    Picks (λ v. picked.Wait v) (By never_fault) (MeansWait q.params) m rest n x
MeansHead head.Other q m rest n x =
    Picks (λ _. picked.Other) (By never_fault) MeansUnit m rest n x

head_some : (c : HeadChoice) (q : DemoRequest) (m : List Mark)
    → AllowsSome (MeansHead c q m)
head_some head.Who q m =
    picks_some (λ v. picked.Who v) (By never_fault) (MeansWho q)
    (converted_by never_fault) m (who_some q m)
head_some (head.Request c) q m =
    picks_some (picked_request c) (By same_fault) (MeansRequest q)
    (converted_by same_fault) m (request_some q m)
head_some head.Wait q m =
    picks_some (λ v. picked.Wait v) (By never_fault) (MeansWait q.params)
    (converted_by never_fault) m (wait_some q.params m)
head_some head.Other q m =
    picks_some (λ _. picked.Other) (By never_fault) MeansUnit
    (converted_by never_fault) m (unit_some m)

-- what is picked, and after how many polls
abbrev pub head_result : HeadChoice → DemoRequest → List Mark → DelayedResult Picked
head_result head.Who q m = with_value (λ v. picked.Who v) (who_result q)
head_result (head.Request c) q m = request_result c q
head_result head.Wait q m = at_once (Ok (picked.Wait (record { 0 = delay_in q.params })))
head_result head.Other q m = at_once (Ok picked.Other)

-- the same for every choice
abbrev pub MeansChoice : Choice → DemoRequest → Meaning Picked
MeansChoice choice.Bytes q m rest n x =
    Picks (λ v. picked.Bytes v) (By same_fault) (MeansBody q) m rest n x
MeansChoice choice.Text q m rest n x =
    Picks (λ v. picked.Text (string_bytes v)) (By same_fault) (MeansText q) m rest n x
MeansChoice choice.Both q m rest n x =
    Picks (λ v. picked.Both (string_bytes v.0) v.1) (By same_fault) (MeansBoth q) m rest n x
MeansChoice choice.Capped q m rest n x =
    Picks (λ v. picked.Capped v) (By same_fault) (MeansCapped q) m rest n x
MeansChoice choice.Data q m rest n x =
    Picks (λ v. picked.Data (data_view v)) (By same_fault) (MeansData q) m rest n x
MeansChoice choice.Lines q m rest n x =
    Picks (λ v. picked.Lines v) (By same_fault) (MeansLines q) m rest n x
MeansChoice (choice.Decoded c) q m rest n x = MeansDecoded c q m rest n x
MeansChoice (choice.Read c) q m rest n x = MeansRead c q m rest n x
MeansChoice (choice.Head c) q m rest n x = MeansHead c q m rest n x

choice_some : (c : Choice) (q : DemoRequest) (m : List Mark)
    → AllowsSome (MeansChoice c q m)
choice_some choice.Bytes q m =
    picks_some (λ v. picked.Bytes v) (By same_fault) (MeansBody q)
    (converted_by same_fault) m (body_some q m)
choice_some choice.Text q m =
    picks_some (λ v. picked.Text (string_bytes v)) (By same_fault) (MeansText q)
    (converted_by same_fault) m (text_some q m)
choice_some choice.Both q m =
    picks_some (λ v. picked.Both (string_bytes v.0) v.1) (By same_fault) (MeansBoth q)
    (converted_by same_fault) m (both_some q m)
choice_some choice.Capped q m =
    picks_some (λ v. picked.Capped v) (By same_fault) (MeansCapped q)
    (converted_by same_fault) m (capped_some q m)
choice_some choice.Data q m =
    picks_some (λ v. picked.Data (data_view v)) (By same_fault) (MeansData q)
    (converted_by same_fault) m (data_some q m)
choice_some choice.Lines q m =
    picks_some (λ v. picked.Lines v) (By same_fault) (MeansLines q)
    (converted_by same_fault) m (lines_some q m)
choice_some (choice.Decoded c) q m = decoded_some c q m
choice_some (choice.Read c) q m = read_some c q m
choice_some (choice.Head c) q m = head_some c q m

-- what is picked, and after how many polls
abbrev pub choice_result : Choice → DemoRequest → List Mark → DelayedResult Picked
choice_result choice.Bytes q m = with_value (λ v. picked.Bytes v) (body_result q m)
choice_result choice.Text q m = with_value (λ v. picked.Text v) (text_result q m)
choice_result choice.Both q m = with_value (λ v. picked.Both v.0 v.1) (both_result q m)
choice_result choice.Capped q m = with_value (λ v. picked.Capped v) (capped_result q m)
choice_result choice.Data q m = with_value (λ v. picked.Data (seen_data v)) (numbers_result q)
choice_result choice.Lines q m = with_value (λ v. picked.Lines v) (lines_result q m)
choice_result (choice.Decoded c) q m = decoded_result c q m
choice_result (choice.Read c) q m = read_result c q m
choice_result (choice.Head c) q m = head_result c q m

-- to begin with the arguments of this choice allocates nothing
abbrev pub HeadNeedsNoMemory : HeadChoice → Type 0
HeadNeedsNoMemory head.Wait = ⊤
HeadNeedsNoMemory head.Other = ⊤
HeadNeedsNoMemory _ = ⊥

abbrev pub ChoiceNeedsNoMemory : Choice → DemoRequest → Type 0
ChoiceNeedsNoMemory choice.Bytes q = (settings_of q).required_type ≡ None
ChoiceNeedsNoMemory (choice.Head c) q = HeadNeedsNoMemory c
ChoiceNeedsNoMemory _ q = ⊥

abbrev pub PickedNeedsNoMemory : DemoRequest → Type 0
PickedNeedsNoMemory q = ChoiceNeedsNoMemory (choice_of (head_path q.head)) q

-- the first segment of the path chooses
abbrev pub MeansPicked : DemoRequest → List Mark → List Mark → ℕ → Result Picked Fault → Type 0
MeansPicked q m rest n x = MeansChoice (choice_of (head_path q.head)) q m rest n x

pub picked_some : (q : DemoRequest) (m : List Mark) → AllowsSome (MeansPicked q m)
picked_some q m = choice_some (choice_of (head_path q.head)) q m

-- after how many polls the arguments come or are refused, and what they are
abbrev pub picked_delay : DemoRequest → List Mark → ℕ
picked_delay q m = (choice_result (choice_of (head_path q.head)) q m).delay

abbrev pub picked_result : DemoRequest → List Mark → Result Picked Fault
picked_result q m = (choice_result (choice_of (head_path q.head)) q m).result
