use Rattle.std.specs.Prelude.{Ok}
use Rattle.web_request.specs.Connections.{connection_of}
use Rattle.web_extract.specs.PeerArgument.{peer_or_missing}
use Rattle.web_extract.proofs.HeadArgumentsLemmas.{only_method}
use Rattle.web_extract.proofs.lists.argument_laws.connection_law.Goals as goal

pub returns-clause-connection : goal.returns-clause-connection
returns-clause-connection g c q = only_method (Ok (connection_of q.head q.config))

pub returns-clause-peer : goal.returns-clause-peer
returns-clause-peer g c q = only_method (peer_or_missing q.head.peer)
