-- Redirects and pages.
use Rattle.std.specs.Prelude.{ℕ, List, [], ◌∷◌, Result, Ok, Err, codes}
use Rattle.http_header.specs.FieldValue.{FieldValue, plain_value}
use Rattle.web_reply.specs.Replies.{Reply, bare_reply, typed_reply}
use Rattle.web_reply.specs.declared.body.WholeBody.{WholeBody}
use Rattle.web_reply.specs.declared.body.WholeBody.TheVariants as whole
use Rattle.web_reply.specs.HeaderSteps.{valued}
use Rattle.web_reply.specs.declared.errors.cause.HttpError.{HttpError}

-- HTTP/1.1, this status, this body and one header
abbrev pub one_header_reply : ℕ → WholeBody → List ℕ → FieldValue → Reply WholeBody
one_header_reply status body name value =
    let reply = bare_reply status body in
    record reply { head = record (reply.head) { headers = (name, value ∷ []) ∷ [] } }

-- where a redirect leads: from a path to a target, with a status
pub record Redirection : Type 0 where
  pub from : List ℕ
  pub to : List ℕ
  pub status : ℕ

-- the status, and the header, unless it was refused
abbrev pub location_reply : ℕ → Result (List ℕ × FieldValue) HttpError → Reply WholeBody
location_reply status (Ok header) = one_header_reply status whole.Empty header.0 header.1
location_reply status (Err e) = bare_reply status whole.Empty

-- the status with the target as Location (RFC 9110, section 10.2.2), where that may be a value
abbrev pub redirect_reply : Redirection → Reply WholeBody
redirect_reply r = location_reply r.status (valued (codes "location") (plain_value r.to))

-- 200 with a page
abbrev pub html_reply : List ℕ → Reply WholeBody
html_reply html = typed_reply 200 (codes "text/html; charset=utf-8") (whole.Bytes html)
