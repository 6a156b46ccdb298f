-- The request that a script describes, as the program's worker begins it.
use Rattle.std.specs.Prelude.{ℕ, [], ◌∷◌, codes, map, option_map, false}
use Rattle.http.specs.declared.version.TheConstants.Version.{HTTP_11}
use Rattle.web_request.specs.Head.{Head}
use Rattle.web_request.specs.LocalConfigs.{local_config}
use Rattle.web_request.specs.Request.{Parts, Request}
use Rattle.cli_script.specs.ScriptedView.{ScriptedExchangeView}
use Rattle.demo_app.specs.declared.app.DemoLocal.{DemoLocal}
use Rattle.demo_app.specs.declared.app.DemoConn.{DemoConn}
use Rattle.demo_app.specs.declared.layer.DemoLayer.{DemoLayer}
use Rattle.demo_app.specs.DemoLayers.{demo_layer, no_layer}

abbrev pub DemoRequest : Type 0
DemoRequest = Request DemoLayer DemoLocal DemoConn

-- of this method and target, HTTP/1.1, with these headers, from this peer
abbrev pub demo_head : ScriptedExchangeView → Head
demo_head e = record {
  scheme = e.target.scheme;
  authority = e.target.authority;
  target = e.target.path_and_query;
  method = e.method;
  version = HTTP_11;
  headers = e.headers;
  peer = e.peer;
}

-- the data of a connection, and of a request
abbrev pub conn_of : ℕ → DemoConn
conn_of n = record { 0 = n }

abbrev pub local_of : ℕ → DemoLocal
local_of n = record { 0 = n }

abbrev pub demo_parts : ScriptedExchangeView → Parts DemoLayer DemoLocal DemoConn
demo_parts e = record {
  head = demo_head e;
  params = e.params;
  layers = map demo_layer e.layers;
  conn = option_map conn_of e.conn;
  local = option_map local_of e.local;
}

-- the request of that exchange, under the root layer and its own
abbrev pub demo_request : ScriptedExchangeView → DemoRequest
demo_request e = record {
  head = demo_head e;
  params = e.params;
  layers = no_layer ∷ map demo_layer e.layers;
  conn = option_map conn_of e.conn;
  local = option_map local_of e.local;
  config = local_config;
}
