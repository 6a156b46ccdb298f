use Rattle.web_routing.proofs.ServiceLemmas.{whole_to_come}
use Rattle.web_routing.proofs.router.RouterServiceWhole.begin.Goals as goal

pub returns-in-OtherMethods-clause-to_come : goal.returns-in-OtherMethods-clause-to_come
returns-in-OtherMethods-clause-to_come g c = whole_to_come
