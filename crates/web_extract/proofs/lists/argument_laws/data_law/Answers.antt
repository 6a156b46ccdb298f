use Rattle.web_extract.specs.DataArguments.{data_result, request_data_result}
use Rattle.web_extract.proofs.HeadArgumentsLemmas.{now_exactly}
use Rattle.web_extract.proofs.lists.argument_laws.data_law.Goals as goal

pub returns-clause-application : goal.returns-clause-application
returns-clause-application g c q m = now_exactly (data_result g.P.Layer.Holds.held q.layers).result m

pub returns-clause-request : goal.returns-clause-request
returns-clause-request g c q m = now_exactly (request_data_result g.P.Local.Holds.held q.local).result m
