-- The whole body as an argument.
use Rattle.std.specs.Prelude.{◌≡◌, ℕ, List, Result, refl}
use Rattle.http_header.specs.FieldValue.{FieldValue}
use Rattle.http_header.specs.HeaderMap.{Entries}
use Rattle.web_request.specs.declared.source.Mark.{Mark}
use Rattle.web_body.specs.PayloadSettings.{PayloadSettings}
use Rattle.web_body.specs.declared.message_body.PayloadError.{PayloadError}
use Rattle.web_reply.specs.Replies.{Fault}
use Rattle.web_extract.specs.BodyArguments.{MeansBodyAfter, body_after_some, body_result}
use Rattle.web_extract.specs.BodyArguments.{payload_fault, rest_after, type_refusal}
use Rattle.web_extract.specs.Extracts.{AllowsSome}
use Rattle.web_extract.specs.ListResults.{DelayedResult}

module _ (settings : PayloadSettings) (headers : Entries FieldValue) where
  -- the marks that are left
  abbrev pub bytes_rest : List Mark → List Mark
  bytes_rest m = rest_after (type_refusal settings.required_type headers) m

  -- the bytes or the refusal, and the number of polls before it
  abbrev pub bytes_result : List Mark → DelayedResult (List ℕ)
  bytes_result m =
      body_result (type_refusal settings.required_type headers) settings.limit headers m

  -- After the test of a required type, which leaves the payload, the body is collected.
  abbrev pub MeansBytes : List Mark → List Mark → ℕ → Result (List ℕ) Fault → Type 0
  MeansBytes m rest n x =
      MeansBodyAfter (type_refusal settings.required_type headers) settings.limit headers m rest n x

  pub bytes_some : (m : List Mark) → AllowsSome (MeansBytes m)
  bytes_some m =
      body_after_some (type_refusal settings.required_type headers) settings.limit headers m

pub payload_converted : (e : PayloadError) → (f : Fault) × (f ≡ payload_fault e)
payload_converted e = (payload_fault e, refl)
