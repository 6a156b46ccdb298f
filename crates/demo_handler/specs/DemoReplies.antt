-- The replies of the program's handler.
use Rattle.std.specs.Prelude.{◌≡◌, ℕ, ⊤, length}
use Rattle.web_request.specs.Feed.{Feed}
use Rattle.web_reply.specs.ResponseBodies.{Plain}
use Rattle.web_reply.specs.Replies.{Reply}
use Rattle.web_reply.specs.Responders.{bytes_reply, empty_reply, text_reply}
use Rattle.demo_app.specs.Items.{item_text}
use Rattle.demo_content.specs.AnswerReplies.{cookies_reply, demo_document_reply, demo_variant_reply}
use Rattle.demo_content.specs.AnswerReplies.{form_reply, json_reply, output_reply, raw_reply}
use Rattle.demo_content.specs.DemoTexts.{accept_text, data_text, either_text, option_text}
use Rattle.demo_content.specs.DemoTexts.{lines_text, result_text, who_text}
use Rattle.demo_content.specs.PartsTexts.{parts_text}
use Rattle.demo_content.specs.declared.answer.Answer.{Answer}
use Rattle.demo_picked.specs.declared.picked.Picked.{Picked}
use Rattle.demo_picked.specs.declared.picked.Picked.TheVariants as picked

-- how many polls of the handler return Pending
abbrev pub wait_of : Picked → ℕ
wait_of (picked.Bytes bytes) = 0
wait_of (picked.Text text) = 0
wait_of (picked.Json json) = 0
wait_of (picked.Capped capped) = 0
wait_of (picked.CappedJson capped) = 0
wait_of (picked.Form form) = 0
wait_of (picked.Either either) = 0
wait_of (picked.Option item left) = 0
wait_of (picked.Result read) = 0
wait_of (picked.Path path) = 0
wait_of (picked.Query query) = 0
wait_of (picked.Header header) = 0
wait_of (picked.Data arguments) = 0
wait_of (picked.Raw body) = 0
wait_of (picked.Who info) = 0
wait_of (picked.Cookies said) = 0
wait_of (picked.Lines lines) = 0
wait_of (picked.Parts parts) = 0
wait_of (picked.Document q) = 0
wait_of (picked.Variant q) = 0
wait_of (picked.Both text late) = 0
wait_of (picked.Wait wait) = wait.0
wait_of picked.Other = 0

-- the reply for these arguments
abbrev pub demo_reply : Picked → Reply Plain
demo_reply (picked.Bytes bytes) = bytes_reply bytes
demo_reply (picked.Text text) = text_reply text
demo_reply (picked.Json json) = json_reply json.0
demo_reply (picked.Capped capped) = bytes_reply capped.0
demo_reply (picked.CappedJson capped) = json_reply capped.0.0
demo_reply (picked.Form form) = form_reply form.0
demo_reply (picked.Either either) = text_reply (either_text either)
demo_reply (picked.Option item left) = text_reply (option_text item (length left))
demo_reply (picked.Result read) = text_reply (result_text read)
demo_reply (picked.Path path) = text_reply (item_text path)
demo_reply (picked.Query query) = text_reply (item_text query.0)
demo_reply (picked.Header header) = text_reply (accept_text header)
demo_reply (picked.Data arguments) = text_reply (data_text arguments)
demo_reply (picked.Raw body) = raw_reply body
demo_reply (picked.Who info) = text_reply (who_text info)
demo_reply (picked.Cookies said) = cookies_reply said
demo_reply (picked.Lines lines) = text_reply (lines_text lines)
demo_reply (picked.Parts parts) = text_reply (parts_text parts)
demo_reply (picked.Document q) = demo_document_reply q
demo_reply (picked.Variant q) = demo_variant_reply q
demo_reply (picked.Both text late) = text_reply text
demo_reply (picked.Wait wait) = empty_reply 204
demo_reply picked.Other = empty_reply 404

-- these are replied to without an allocation
abbrev pub AnswersWithoutMemory : Picked → Type 0
AnswersWithoutMemory (picked.Bytes bytes) = ⊤
AnswersWithoutMemory (picked.Text text) = ⊤
AnswersWithoutMemory (picked.Json json) = ⊤
AnswersWithoutMemory (picked.Capped capped) = ⊤
AnswersWithoutMemory (picked.CappedJson capped) = ⊤
AnswersWithoutMemory (picked.Form form) = ⊤
AnswersWithoutMemory (picked.Either either) = ⊥
AnswersWithoutMemory (picked.Option item left) = ⊥
AnswersWithoutMemory (picked.Result read) = ⊥
AnswersWithoutMemory (picked.Path path) = ⊥
AnswersWithoutMemory (picked.Query query) = ⊥
AnswersWithoutMemory (picked.Header header) = ⊥
AnswersWithoutMemory (picked.Data arguments) = ⊥
AnswersWithoutMemory (picked.Raw body) = ⊥
AnswersWithoutMemory (picked.Who info) = ⊥
AnswersWithoutMemory (picked.Cookies said) = ⊥
AnswersWithoutMemory (picked.Lines lines) = ⊥
AnswersWithoutMemory (picked.Parts parts) = ⊥
AnswersWithoutMemory (picked.Document q) = ⊥
AnswersWithoutMemory (picked.Variant q) = ⊥
AnswersWithoutMemory (picked.Both text late) = ⊤
AnswersWithoutMemory (picked.Wait wait) = ⊤
AnswersWithoutMemory picked.Other = ⊤

-- an output of this reply alone, after this number of polls alone
abbrev pub HandlerAnswers : Picked → ℕ → Answer Feed → Type 0
HandlerAnswers p n y = (n ≡ wait_of p) × (output_reply y ≡ demo_reply p)
