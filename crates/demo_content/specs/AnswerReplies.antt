-- The replies of what the handler responds with.
use Rattle.std.specs.Prelude.{ℕ, ⊤, List, Option, Result, Ok, Err, codes}
use Rattle.serde_json.specs.Written.{compact_text}
use Rattle.web_cookies.specs.CookieTexts.{cookie_error_text}
use Rattle.web_cookies.specs.declared.cookie_parse_error.CookieParseError.{CookieParseError}
use Rattle.web_request.specs.Feed.{Feed}
use Rattle.web_request.specs.KeptValues.{CookiesSaid}
use Rattle.web_request.specs.declared.source.Mark.{Mark}
use Rattle.web_codec.specs.FormPairs.{pairs_text}
use Rattle.web_reply.specs.ResponseBodies.{Plain, Plain.Bytes, Plain.Stream, box_plain}
use Rattle.web_reply.specs.ResponseBodies.{whole_plain}
use Rattle.web_reply.specs.declared.errors.cause.Cause.TheVariants.{Custom}
use Rattle.web_reply.specs.Replies.{Fault, Reply, error_reply, fault_of, plain_reply, typed_reply}
use Rattle.web_reply.specs.Responders.{bytes_reply, empty_reply, text_reply}
use Rattle.web_docs.specs.DocumentFunctions.{document_reply}
use Rattle.web_variants.specs.VariantReplies.{variant_reply}
use Rattle.demo_app.specs.DemoRequests.{DemoRequest}
use Rattle.demo_app.specs.Items.{json_of_item, pairs_of_item}
use Rattle.demo_app.specs.declared.item.Item.{Item}
use Rattle.demo_content.specs.DemoTexts.{printed_cookies}
use Rattle.demo_content.specs.StoredDocuments.{found_document}
use Rattle.demo_content.specs.StoredVariants.{demo_variants}
use Rattle.demo_content.specs.declared.answer.Answer.{Answer}
use Rattle.demo_content.specs.declared.answer.Answer.TheVariants as answer

-- 200 with the item as JSON
abbrev pub json_reply : Item → Reply Plain
json_reply item =
    typed_reply 200 (codes "application/json") (Bytes (compact_text (json_of_item item)))

-- 200 with the item as a form
abbrev pub form_reply : Item → Reply Plain
form_reply item =
    typed_reply 200 (codes "application/x-www-form-urlencoded")
    (Bytes (pairs_text (pairs_of_item item)))

-- 200 with what is left of a body, as a stream of bytes
abbrev pub raw_reply : Option (List Mark) → Reply Plain
raw_reply marks = typed_reply 200 (codes "application/octet-stream") (Stream marks)

-- 200 with the bytes, the text or the item, an empty 204, an empty 404, or the response that was
-- made; `feed` says what a source states of itself
abbrev pub answer_reply : {S : Type 0} → (S → Feed) → Answer S → Reply Plain
answer_reply feed (answer.Bytes bytes) = bytes_reply bytes
answer_reply feed (answer.Text text) = text_reply text
answer_reply feed (answer.Json item) = json_reply item
answer_reply feed (answer.Form item) = form_reply item
answer_reply feed answer.Done = empty_reply 204
answer_reply feed answer.None = empty_reply 404
answer_reply feed (answer.Response response) = plain_reply (box_plain feed) response.value

-- status 400 with the text of the error
abbrev pub cookie_error : CookieParseError → Fault
cookie_error error = fault_of (Custom 400 (cookie_error_text error))

abbrev pub cookies_refusal : CookieParseError → Reply Plain
cookies_refusal error = plain_reply whole_plain (error_reply (cookie_error error))

abbrev pub text_or_refusal : Result (List ℕ) CookieParseError → Reply Plain
text_or_refusal (Ok text) = text_reply text
text_or_refusal (Err error) = cookies_refusal error

-- 200 with the cookies, or the reply to the error where they cannot be read
abbrev pub cookies_reply : CookiesSaid → Reply Plain
cookies_reply said = text_or_refusal (printed_cookies said)

-- the document of the request's path, by the conditions of the request
abbrev pub demo_document_reply : DemoRequest → Reply Plain
demo_document_reply q = plain_reply whole_plain (document_reply (found_document q.head) q.head)

-- the variant that the request accepts most
abbrev pub demo_variant_reply : DemoRequest → Reply Plain
demo_variant_reply q =
    plain_reply whole_plain (variant_reply q.head.headers demo_variants)

-- an empty reply, and one that was made, allocate nothing
abbrev pub AnswerNeedsNoMemory : {S : Type 0} → Answer S → Type 0
AnswerNeedsNoMemory answer.Done = ⊤
AnswerNeedsNoMemory answer.None = ⊤
AnswerNeedsNoMemory (answer.Response response) = ⊤
AnswerNeedsNoMemory _ = ⊥

-- the reply of an answer of the handler
abbrev pub output_reply : Answer Feed → Reply Plain
output_reply = answer_reply (λ feed. feed)
