-- The configuration of a worker for this machine alone.
use Rattle.std.specs.Prelude.{[], ◌∷◌, codes, false}
use Rattle.web_request.specs.declared.config.AppConfig.{AppConfig}
use Rattle.web_request.specs.declared.peers.address.IpAddr.TheVariants.{V4}

-- `localhost:8080`, not encrypted, on 127.0.0.1:8080
abbrev pub local_config : AppConfig
local_config = record {
  host = codes "localhost:8080";
  secure = false;
  local_addr = record { ip = V4 (127 ∷ 0 ∷ 0 ∷ 1 ∷ []); port = 8080 };
}
