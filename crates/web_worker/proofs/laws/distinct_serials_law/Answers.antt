use Rattle.web_worker.proofs.PoolOnceLemmas.{disable_once, give_back_once, new_once, plan_once, start_once}
use Rattle.web_worker.proofs.laws.distinct_serials_law.Goals as goal

pub returns-clause-new : goal.returns-clause-new
returns-clause-new g c = new_once

pub returns-clause-start : goal.returns-clause-start
returns-clause-start g c = start_once

pub returns-clause-give_back : goal.returns-clause-give_back
returns-clause-give_back g c = give_back_once

pub returns-clause-disable : goal.returns-clause-disable
returns-clause-disable g c = disable_once

pub returns-clause-plan : goal.returns-clause-plan
returns-clause-plan g c = plan_once
