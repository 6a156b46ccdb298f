-- The text of a request for logs.
use Rattle.std.specs.Prelude.{ℕ, ◌==◌, ◌++◌, List, [], codes, flat_map, length, if◌then◌else◌}
use Rattle.http.specs.declared.version.Version.{Version}
use Rattle.http_header.specs.FieldValue.{FieldValue}
use Rattle.http_header.specs.HeaderMap.{Entries}
use Rattle.web_texts.specs.Pairs.{Pair}
use Rattle.web_request_log.specs.HeaderDescriptions.{header_lines, newline}
use Rattle.web_request_log.specs.VersionNames.{version_name}

-- what a log says of a request
pub record Logged : Type 0 where
  -- the name of its type
  pub kind : List ℕ
  pub version : Version
  pub method : List ℕ
  pub path : List ℕ
  pub query : List ℕ
  pub params : List Pair
  pub headers : Entries FieldValue

abbrev pub first_line : Logged → List ℕ
first_line r =
    r.kind ++ codes " " ++ version_name r.version ++ codes " " ++ r.method ++ codes ":" ++ r.path
    ++ newline

abbrev pub query_line : List ℕ → List ℕ
query_line query = if length query == 0 then [] else codes "  query: ?" ++ query ++ newline

abbrev pub param_line : Pair → List ℕ
param_line pair = codes "  params: " ++ pair.name ++ codes "=" ++ pair.value ++ newline

-- Method and path, a query that is not empty, the parameters, and the header fields sorted by name.
-- Secrets are redacted.
abbrev pub log_text : Logged → List ℕ
log_text r =
    first_line r ++ query_line r.query ++ flat_map param_line r.params ++ codes "  headers:"
    ++ newline ++ header_lines r.headers
