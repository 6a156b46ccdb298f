-- A text and the bytes after it as the two arguments of a handler.
use Rattle.std.specs.Prelude.{ℕ, List}
use Rattle.http_header.specs.FieldValue.{FieldValue}
use Rattle.http_header.specs.HeaderMap.{Entries}
use Rattle.web_request.specs.declared.source.Mark.{Mark}
use Rattle.web_request.specs.Feed.{Feed}
use Rattle.web_request.specs.Pool.{Pool}
use Rattle.web_body.specs.Payload.{payload_feed}
use Rattle.web_body.specs.PayloadSettings.{PayloadSettings}
use Rattle.web_reply.specs.ResponseBodies.{Plain}
use Rattle.web_reply.specs.Replies.{Reply}
use Rattle.web_reply.specs.Responders.{text_reply}
use Rattle.web_extract.specs.BytesArgument.{bytes_result}
use Rattle.web_extract.specs.LayerConfigurations.{Configurations, payload_settings}
use Rattle.web_extract.specs.ListResults.{DelayedResult, list2}
use Rattle.web_extract.specs.StringArgument.{string_rest, string_result}
use Rattle.web_worker.specs.AnsweredExchanges.{marks_or_none}
use Rattle.web_worker.specs.Exchanges.{ExchangeView, request_of}

-- the bytes of the text, and those of the body that it leaves
abbrev pub text_and_rest :
    PayloadSettings → Entries FieldValue → List Mark → DelayedResult (List ℕ × List ℕ)
text_and_rest settings headers m = list2 (string_result settings headers m)
    (bytes_result settings headers (string_rest settings headers m))

-- the reply with the text
abbrev pub text_of : List ℕ × List ℕ → Reply Plain
text_of v = text_reply v.0

-- the two arguments of an exchange
abbrev pub text_argument : {S L D C J F P Q T : Type 0} → (S → Feed)
    → (L → Configurations J F P Q T) → Pool L → ExchangeView S L D C
    → DelayedResult (List ℕ × List ℕ)
text_argument feed of_layer pool x =
    let q = request_of pool x in
    text_and_rest (payload_settings of_layer q.layers) q.head.headers
    (marks_or_none (payload_feed feed x.body).marks)
