use Rattle.std.proofs.Common.{rules}
use Rattle.std.specs.Prelude.{Ok, Err}
use Rattle.serde_json.specs.View.{view}
use Rattle.web_codec.proofs.TypedLemmas.{anything}
use Rattle.web_codec.proofs.typed.TypedReadJson.read_text.Goals as goal

pub returns-in-Ok : goal.returns-in-Ok
returns-in-Ok g c = anything (Ok c.in-Ok.read) c.args.bytes.now (view c.in_ok-value.value) (search rules) (search rules)

pub returns-in-Of : goal.returns-in-Of
returns-in-Of g c = anything (Err c.in-Of.fault) c.args.bytes.now (view c.in_ok-value.value) (search rules) (search rules)
