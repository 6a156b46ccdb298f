-- What a request is answered with whose body is handed on unread.
use Rattle.std.specs.Prelude.{ℕ, List, [], Option, None, Some, codes}
use Rattle.http_header.specs.FieldValue.{FieldValue}
use Rattle.http_header.specs.HeaderMap.{Entries, get, insert}
use Rattle.web_request.specs.declared.source.Mark.{Mark}
use Rattle.web_reply.specs.ResponseBodies.{Plain, Plain.Stream}
use Rattle.web_reply.specs.ResponseHeads.{new_head}
use Rattle.web_reply.specs.Replies.{Reply}

-- the headers with this value in place of all values of the name, where there is one
abbrev pub with_field : List ℕ → Option FieldValue → Entries FieldValue → Entries FieldValue
with_field name None headers = headers
with_field name (Some v) headers = insert headers name v

-- the first Content-Type and the first Content-Encoding
abbrev pub body_fields : Entries FieldValue → Entries FieldValue
body_fields headers =
    with_field (codes "content-encoding") (get headers (codes "content-encoding"))
    (with_field (codes "content-type") (get headers (codes "content-type")) [])

-- 200 with these two fields of the request, and a body of unknown length with these marks
abbrev pub relayed_reply : Entries FieldValue → Option (List Mark) → Reply Plain
relayed_reply headers marks = record {
  head = record (new_head 200) { headers = body_fields headers };
  body = Stream marks;
  error = None;
}
