-- Requests with their payloads, and requests with their responses, as contracts see them.
use Rattle.std.specs.Prelude.{[], ◌∷◌, ◌++◌, Option}
use Rattle.http_header.specs.FieldValue.{FieldValue}
use Rattle.http_header.specs.HeaderMap.{Entries}
use Rattle.web_request.specs.Head.{Head}
use Rattle.web_request.specs.Request.{Record}
use Rattle.web_body.specs.declared.payload.Payload.{Payload}
use Rattle.web_reply.specs.Replies.{Reply}

-- L, D, C and S: a layer, the data of a request and that of a connection, and a source of bodies
pub record Service (L D C S : Type 0) : Type 0 where
  pub request : Record L D C
  pub payload : Payload S

-- B: the body of the response
pub record Answered (L D C B : Type 0) : Type 0 where
  pub request : Record L D C
  pub response : Reply B

-- this part of the request, and all else as it was
module _ {L D C : Type 0} (r : Record L D C) where
  abbrev pub with_head : Head → Record L D C
  with_head head = record r { request = record r.request { head = head } }

  abbrev pub with_header_fields : Entries FieldValue → Record L D C
  with_header_fields headers = with_head (record r.request.head { headers = headers })

  abbrev pub with_data : Option D → Record L D C
  with_data local = record r { request = record r.request { local = local } }

  abbrev pub with_layer : L → Record L D C
  with_layer layer =
      record r { request = record r.request { layers = r.request.layers ++ layer ∷ [] } }
