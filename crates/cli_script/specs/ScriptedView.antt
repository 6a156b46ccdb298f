-- One exchange that a script asks for.
use Rattle.std.specs.Prelude.{ℕ, List, Option}
use Rattle.http_header.specs.FieldValue.{FieldValue}
use Rattle.http_header.specs.HeaderMap.{Entries}
use Rattle.web_texts.specs.Pairs.{Pair}
use Rattle.web_request.specs.declared.peers.address.SocketAddr.{SocketAddr}
use Rattle.web_request.specs.declared.source.Mark.{Mark}
use Rattle.web_request.specs.Head.{Target}
use Rattle.cli_script.specs.declared.layer.LayerSettings.{LayerSettings}

pub record ScriptedExchangeView : Type 0 where
  pub method : List ℕ
  pub target : Target
  pub headers : Entries FieldValue
  pub params : List Pair
  -- one for each `layer` line, the outermost first
  pub layers : List LayerSettings
  pub marks : List Mark
  -- the address of the last `peer` line
  pub peer : Option SocketAddr
  -- the number of the last `local` line, and of the last `conn` line
  pub local : Option ℕ
  pub conn : Option ℕ
