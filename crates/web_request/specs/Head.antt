-- The head of a request as contracts see it.
use Rattle.std.specs.Prelude.{◌==◌, ◌||◌, ℕ, List, [], Option, if◌then◌else◌, is_some, length, not}
use Rattle.std.specs.Prelude.{unwrap_or}
use Rattle.http.specs.declared.version.Version.{Version}
use Rattle.http_header.specs.FieldValue.{FieldValue}
use Rattle.http_header.specs.HeaderMap.{Entries}
use Rattle.http_uri.specs.Grammar.{path_of, query_of}
use Rattle.http_uri.specs.declared.uri.Uri.{Uri}
use Rattle.http_uri.specs.Uri.{uri_authority, uri_data, uri_scheme}
use Rattle.web_request.specs.declared.peers.address.SocketAddr.{SocketAddr}
use Rattle.web_request.specs.declared.head.RequestHead.{RequestHead}

pub record Head : Type 0 where
  pub scheme : Option (List ℕ)
  pub authority : Option (List ℕ)
  -- the path, with the query where there is one
  pub target : List ℕ
  pub method : List ℕ
  pub version : Version
  pub headers : Entries FieldValue
  pub peer : Option SocketAddr

abbrev pub head_view : RequestHead → Head
head_view h = record {
  scheme = uri_scheme h.uri;
  authority = uri_authority h.uri;
  target = uri_data h.uri;
  method = h.method;
  version = h.version;
  headers = h.headers;
  peer = h.peer_addr;
}

-- the path of the target, without the query; a target that is an authority alone has none
abbrev pub head_path : Head → List ℕ
head_path h = if not (length h.target == 0) || is_some h.scheme then path_of h.target else []

-- the query of the target, without its question mark; empty where there is none
abbrev pub head_query : Head → List ℕ
head_query h = unwrap_or (query_of h.target) []

-- the parts of a request target
pub record Target : Type 0 where
  pub scheme : Option (List ℕ)
  pub authority : Option (List ℕ)
  -- the path, with the query where there is one
  pub path_and_query : List ℕ

abbrev pub uri_view : Uri → Target
uri_view u = record {
  scheme = uri_scheme u;
  authority = uri_authority u;
  path_and_query = uri_data u;
}

abbrev pub head_target : Head → Target
head_target h = record {
  scheme = h.scheme;
  authority = h.authority;
  path_and_query = h.target;
}
