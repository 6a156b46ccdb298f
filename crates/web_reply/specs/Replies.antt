-- Responses as contracts see them, and the replies to errors.
use Rattle.std.specs.Prelude.{ℕ, List, Option, None, Some, codes}
use Rattle.web_reply.specs.ResponseBodies.{Plain}
use Rattle.web_reply.specs.Causes.{cause_status, cause_text}
use Rattle.web_reply.specs.ResponseHeads.{new_head, typed_head}
use Rattle.web_reply.specs.PreparedReplies.{once_given}
use Rattle.web_reply.specs.declared.body.WholeBody.{WholeBody}
use Rattle.web_reply.specs.declared.body.WholeBody.TheVariants as whole
use Rattle.web_reply.specs.declared.errors.cause.Cause.{Cause}
use Rattle.web_reply.specs.declared.head.ResponseHead.{ResponseHead}
use Rattle.web_reply.specs.declared.errors.prepared.Prepared.{Prepared}
use Rattle.web_reply.specs.declared.errors.prepared.Prepared.TheVariants.{Never, Held, Given}

-- A response: its head, its body and the cause that it keeps. Its headers are the list of the
-- names, each with the list of its values.
pub record Reply (B : Type 0) : Type 0 where
  pub head : ResponseHead
  pub body : B
  pub error : Option Cause

-- the response with this body in place of its own
abbrev pub with_body : {B C : Type 0} → C → Reply B → Reply C
with_body body r = record { head = r.head; body = body; error = r.error }

-- the response with its body as a plain value
abbrev pub plain_reply : {B : Type 0} → (B → Plain) → Reply B → Reply Plain
plain_reply plain r = with_body (plain r.body) r

-- HTTP/1.1, this status and body, and no header
abbrev pub bare_reply : {B : Type 0} → ℕ → B → Reply B
bare_reply status body = record { head = new_head status; body = body; error = None }

-- HTTP/1.1, this status and body, and this content type as the one header
abbrev pub typed_reply : {B : Type 0} → ℕ → List ℕ → B → Reply B
typed_reply status content_type body =
    record { head = typed_head status content_type; body = body; error = None }

abbrev pub plain_text : List ℕ
plain_text = codes "text/plain; charset=utf-8"

-- the reply to a cause: its status, and its text as plain text
abbrev pub default_reply : Cause → Reply WholeBody
default_reply cause = typed_reply (cause_status cause) plain_text (whole.Bytes (cause_text cause))

-- an error: its cause, and the reply that was prepared for it
pub record Fault : Type 0 where
  pub cause : Cause
  pub prepared : Prepared (Reply WholeBody)

-- the error of a cause, with no reply prepared
abbrev pub fault_of : Cause → Fault
fault_of cause = record { cause = cause; prepared = Never }

-- the reply that was prepared, an empty 500 where it was given before, or that to the cause
abbrev pub reply_by : Prepared (Reply WholeBody) → Cause → Reply WholeBody
reply_by Never cause = default_reply cause
reply_by (Held reply) cause = reply
reply_by Given cause = bare_reply 500 whole.Empty

-- the reply that an error gives next, and the error after that
abbrev pub given_reply : Fault → Reply WholeBody
given_reply e = reply_by e.prepared e.cause

abbrev pub after_giving : Fault → Fault
after_giving e = record e { prepared = once_given e.prepared }

-- the reply to an error: the one that it gives next, with its cause, which the reply keeps
abbrev pub error_reply : Fault → Reply WholeBody
error_reply e = record (given_reply e) { error = Some e.cause }
