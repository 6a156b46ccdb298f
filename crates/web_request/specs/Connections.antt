-- Where a request came from and was sent to.
use Rattle.std.specs.Prelude.{ℕ, List, Option}
use Rattle.std.specs.Option.{option_map, option_or}
use Rattle.web_forwarded.specs.Origins.{client_of, host_of, scheme_of}
use Rattle.web_request.specs.declared.config.AppConfig.{AppConfig}
use Rattle.web_request.specs.AddressTexts.{ip_text}
use Rattle.web_request.specs.Head.{Head}

pub record Connection : Type 0 where
  pub host : List ℕ
  pub scheme : List ℕ
  -- the address of the peer, without its port
  pub peer : Option (List ℕ)
  -- the address of the client as proxies say it, else that of the peer
  pub client : Option (List ℕ)

abbrev pub peer_of : Head → Option (List ℕ)
peer_of head = option_map (λ address. ip_text address.ip) head.peer

-- what the head says under these settings
abbrev pub connection_of : Head → AppConfig → Connection
connection_of head config = record {
  host = host_of head.headers head.authority config.host;
  scheme = scheme_of head.headers head.scheme config.secure;
  peer = peer_of head;
  client = option_or (client_of head.headers) (peer_of head);
}
