-- Heads of responses.
use Rattle.std.specs.Prelude.{◌≡◌, ◌⊎◌, ℕ, [], ◌∷◌, List, None, Some, false, codes}
use Rattle.http.specs.declared.version.TheConstants.Version.{HTTP_11}
use Rattle.http_header.specs.FieldValue.{plain_value}
use Rattle.web_reply.specs.declared.head.ConnectionType.TheVariants.{KeepAlive, Upgrade}
use Rattle.web_reply.specs.declared.head.ResponseHead.{ResponseHead}

-- HTTP/1.1, this status and no header
abbrev pub new_head : ℕ → ResponseHead
new_head status = record {
  version = HTTP_11;
  status = status;
  connection = None;
  no_chunking = false;
  headers = [];
  reason = None;
}

-- HTTP/1.1, this status and this content type as the one header
abbrev pub typed_head : ℕ → List ℕ → ResponseHead
typed_head status content_type =
    record (new_head status) {
      headers = (codes "content-type", plain_value content_type ∷ []) ∷ [];
    }

-- the head says that the connection is kept open, or says nothing of it in HTTP/1.1
abbrev pub KeepsAlive : ResponseHead → Type 0
KeepsAlive head =
    (head.connection ≡ Some KeepAlive) ⊎ ((head.connection ≡ None) × (head.version ≡ HTTP_11))

-- the head says that the connection is upgraded to another protocol
abbrev pub Upgrades : ResponseHead → Type 0
Upgrades head = head.connection ≡ Some Upgrade
