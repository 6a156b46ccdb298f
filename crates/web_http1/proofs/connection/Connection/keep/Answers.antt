use Rattle.web_http1.specs.declared.answered.Answered.TheVariants as answered
use Rattle.web_http1.specs.declared.ended.Ended.TheVariants as ended
use Rattle.web_http1.proofs.InPlaceLemmas.{kept_behind, kept_rest, keeps_none}
use Rattle.web_http1.proofs.connection.Connection.keep.Goals as goal

pub wait-requires-clause-behind : goal.wait-requires-clause-behind
wait-requires-clause-behind c =
    kept_behind c.args.self.now c.add_bytes.new.self c.args.rest.now c.args.progress c.requires.empty c.in-Ok.ensures.ok c.requires.behind

pub returns-in-Ok : goal.returns-in-Ok
returns-in-Ok c =
    kept_rest c.args.self.now c.add_bytes.new.self c.wait.new.self c.args.rest.now c.wait.result c.requires.empty c.in-Ok.ensures.ok c.wait.ensures

pub returns-in-Err : goal.returns-in-Err
returns-in-Err c =
    keeps_none c.args.self.now c.add_bytes.new.self c.end.new.self c.args.rest.now (answered.Ended ended.NoMemory) c.requires.empty c.in-Err.ensures.err c.end.ensures
