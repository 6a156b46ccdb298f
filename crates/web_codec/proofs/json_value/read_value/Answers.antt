use Rattle.std.proofs.Common.{rules}
use Rattle.web_codec.proofs.JsonValueLemmas.{value_read, value_refused}
use Rattle.web_codec.proofs.json_value.read_value.Goals as goal

pub returns-in-Ok : goal.returns-in-Ok
returns-in-Ok c = value_read c.args.bytes.now _ c.in-Ok.ensures.ok.0 c.in-Ok.ensures.ok.1

pub returns-else-is_memory : goal.returns-else-is_memory
returns-else-is_memory c = value_refused c.args.bytes.now (c.in-Err.ensures.err (search rules))
