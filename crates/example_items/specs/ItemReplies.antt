-- The replies of three routes: from the parameters of the path and the body to the one reply.
use Rattle.std.specs.Prelude.{ℕ, List, ◌++◌, codes, decimal}
use Rattle.http_header.specs.FieldValue.{FieldValue}
use Rattle.http_header.specs.HeaderMap.{Entries}
use Rattle.web_texts.specs.Pairs.{Pair}
use Rattle.web_codec.specs.FieldReaders.{only_field}
use Rattle.web_codec.specs.WholeNumbers.{u32_field}
use Rattle.web_request.specs.declared.source.Mark.{Mark}
use Rattle.web_body.specs.PayloadSettings.{default_payload_settings}
use Rattle.web_body.specs.declared.errors.path_error.PathError.TheVariants as path
use Rattle.web_reply.specs.ResponseBodies.{Plain}
use Rattle.web_reply.specs.Replies.{Reply}
use Rattle.web_reply.specs.Responders.{text_reply}
use Rattle.web_extract.specs.HeadArguments.{immediate}
use Rattle.web_extract.specs.ListResults.{DelayedResult, list2}
use Rattle.web_extract.specs.Refusals.{path_fault}
use Rattle.web_extract.specs.StringArgument.{string_result}
use Rattle.web_extract_head.specs.PathArgument.{decoded_parameters}
use Rattle.web_extract_head.specs.ReadArguments.{read_as}
use Rattle.web_worker.specs.AnsweredExchanges.{reply_or_error}
use Rattle.web_worker.specs.ServicePromises.{Once, Promise}

-- a reply, and the number of polls that return Pending before it
pub record DelayedReply : Type 0 where
  pub delay : ℕ
  pub reply : Reply Plain

-- this reply after this delay is promised, and no other
abbrev pub RepliesOnce : {V : Type 0} → Promise V → DelayedReply → Type 0
RepliesOnce p r = Once p r.delay r.reply

abbrev pub reply_now : Reply Plain → DelayedReply
reply_now r = record { delay = 0; reply = r }

-- the reply to what the extractors give, or to the error in its place
abbrev pub reply_after : {V : Type 0} → (V → Reply Plain) → DelayedResult V → DelayedReply
reply_after reply v = record { delay = v.delay; reply = reply_or_error reply v.result }

-- the number in the path: the only parameter, percent-decoded; refused with 404 and the reason
abbrev pub item_id : List Pair → DelayedResult ℕ
item_id params =
    immediate (read_as (λ n. n) (λ e. path_fault (path.Deserialize e))
    (only_field u32_field (decoded_parameters params)))

-- the body as a text, under the default limit
abbrev pub item_note : Entries FieldValue → List Mark → DelayedResult (List ℕ)
item_note headers m = string_result default_payload_settings headers m

-- ---- the three routes

-- GET /
abbrev pub list_reply : DelayedReply
list_reply = reply_now (text_reply (codes "items"))

-- GET /items/{id}
abbrev pub item_text : ℕ → List ℕ
item_text id = codes "item " ++ decimal id

abbrev pub show_reply : List Pair → DelayedReply
show_reply params = reply_after (λ id. text_reply (item_text id)) (item_id params)

-- POST /items/{id}
abbrev pub note_text : ℕ × List ℕ → List ℕ
note_text v = decimal v.0 ++ (codes ": " ++ v.1)

abbrev pub note_reply : List Pair → Entries FieldValue → List Mark → DelayedReply
note_reply params headers m =
    reply_after (λ v. text_reply (note_text v)) (list2 (item_id params) (item_note headers m))
