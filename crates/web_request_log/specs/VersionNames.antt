-- The names of the versions of HTTP.
use Rattle.std.specs.Prelude.{ℕ, List, codes}
use Rattle.http.specs.declared.version.Http.{Http}
use Rattle.http.specs.declared.version.Http.TheVariants.{Http09, Http10, Http11, H2, H3}
use Rattle.http.specs.declared.version.Version.{Version}

abbrev pub protocol_name : Http → List ℕ
protocol_name Http09 = codes "HTTP/0.9"
protocol_name Http10 = codes "HTTP/1.0"
protocol_name Http11 = codes "HTTP/1.1"
protocol_name H2 = codes "HTTP/2.0"
protocol_name H3 = codes "HTTP/3.0"

abbrev pub version_name : Version → List ℕ
version_name version = protocol_name version.0
