-- The demo's arguments that take the body as it is.
use Rattle.std.specs.Prelude.{ℕ, List, [], String}
use Rattle.std.specs.Global.{Global}
use Rattle.web_request.specs.declared.source.Mark.{Mark}
use Rattle.web_request.specs.Feed.{Feed}
use Rattle.web_body.specs.PayloadSettings.{PayloadSettings}
use Rattle.web_body.specs.declared.payload.Payload.{Payload}
use Rattle.web_reply.specs.Replies.{Fault}
use Rattle.web_extract.specs.BytesArgument.{MeansBytes, bytes_rest, bytes_result, bytes_some}
use Rattle.web_extract.specs.CappedArguments.{GivesCapped, as_capped, capped_settings}
use Rattle.web_extract.specs.CappedArguments.{means_capped_some}
use Rattle.web_extract.specs.DataArguments.{internal_error}
use Rattle.web_extract.specs.Extracts.{AllowsSome}
use Rattle.web_extract.specs.LayerConfigurations.{payload_settings}
use Rattle.web_extract.specs.ListResults.{DelayedResult, with_value}
use Rattle.web_extract.specs.PayloadArgument.{MeansPayload, payload_some}
use Rattle.web_extract.specs.declared.body.capped_argument.Capped.{Capped}
use Rattle.web_extract.specs.StringArgument.{MeansString, string_rest, string_result, string_some}
use Rattle.web_extract.specs.ListMeanings.{ArgumentMeaning}
use Rattle.demo_app.specs.DemoLayers.{demo_configurations}
use Rattle.demo_app.specs.DemoRequests.{DemoRequest}

-- the whole body, its bytes and as a text

abbrev pub settings_of : DemoRequest → PayloadSettings
settings_of q = payload_settings demo_configurations q.layers

abbrev pub MeansBody : DemoRequest → ArgumentMeaning (List ℕ) Fault
MeansBody q = MeansBytes (settings_of q) q.head.headers

pub body_some : (q : DemoRequest) (m : List Mark) → AllowsSome (MeansBody q m)
body_some q = bytes_some (settings_of q) q.head.headers

abbrev pub body_rest : DemoRequest → List Mark → List Mark
body_rest q m = bytes_rest (settings_of q) q.head.headers m

abbrev pub body_result : DemoRequest → List Mark → DelayedResult (List ℕ)
body_result q m = bytes_result (settings_of q) q.head.headers m

abbrev pub MeansText : DemoRequest → ArgumentMeaning (String Global) Fault
MeansText q = MeansString (settings_of q) q.head.headers

pub text_some : (q : DemoRequest) (m : List Mark) → AllowsSome (MeansText q m)
text_some q = string_some (settings_of q) q.head.headers

abbrev pub text_rest : DemoRequest → List Mark → List Mark
text_rest q m = string_rest (settings_of q) q.head.headers m

abbrev pub text_result : DemoRequest → List Mark → DelayedResult (List ℕ)
text_result q m = string_result (settings_of q) q.head.headers m

-- the whole body, of at most 4 bytes

abbrev pub capped_settings_of : DemoRequest → PayloadSettings
capped_settings_of q = capped_settings 4 (settings_of q)

abbrev pub MeansCapped : DemoRequest → ArgumentMeaning (Capped (List ℕ) 4) Fault
MeansCapped q m rest n x =
    GivesCapped (MeansBytes (capped_settings_of q) q.head.headers m rest) n x

pub capped_some : (q : DemoRequest) (m : List Mark) → AllowsSome (MeansCapped q m)
capped_some q m =
    means_capped_some (MeansBytes (capped_settings_of q) q.head.headers m)
    (bytes_some (capped_settings_of q) q.head.headers m)

abbrev pub capped_rest : DemoRequest → List Mark → List Mark
capped_rest q m = bytes_rest (capped_settings_of q) q.head.headers m

abbrev pub capped_result : DemoRequest → List Mark → DelayedResult (Capped (List ℕ) 4)
capped_result q m =
    with_value as_capped (bytes_result (capped_settings_of q) q.head.headers m)

-- the body, unread

abbrev pub MeansRaw : ArgumentMeaning (Payload Feed) Fault
MeansRaw = MeansPayload (λ feed. feed)

pub raw_some : (m : List Mark) → AllowsSome (MeansRaw m)
raw_some = payload_some (λ feed. feed) (internal_error [])
