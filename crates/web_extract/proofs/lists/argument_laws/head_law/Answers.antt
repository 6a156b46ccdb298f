use Rattle.std.specs.Prelude.{Ok}
use Rattle.web_extract.proofs.HeadArgumentsLemmas.{only_method, only_request, only_target}
use Rattle.web_extract.proofs.lists.argument_laws.head_law.Goals as goal

pub returns-clause-request : goal.returns-clause-request
returns-clause-request g c q = only_request q

pub returns-clause-method : goal.returns-clause-method
returns-clause-method g c q = only_method (Ok q.head.method)

pub returns-clause-uri : goal.returns-clause-uri
returns-clause-uri g c q = only_target q.head
