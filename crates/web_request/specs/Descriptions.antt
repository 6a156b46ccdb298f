-- What a log says of a request.
use Rattle.std.specs.Prelude.{ℕ, List}
use Rattle.web_request_log.specs.LogEntries.{Logged}
use Rattle.web_request.specs.Head.{head_path, head_query}
use Rattle.web_request.specs.Request.{Request}

-- under the name of its type
abbrev pub logged : {L D C : Type 0} → List ℕ → Request L D C → Logged
logged kind q = record {
  kind = kind;
  version = q.head.version;
  method = q.head.method;
  path = head_path q.head;
  query = head_query q.head;
  params = q.params;
  headers = q.head.headers;
}
