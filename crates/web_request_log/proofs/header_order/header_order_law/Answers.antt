use Rattle.web_request_log.proofs.SortedNamesLemmas.{only_increasing}
use Rattle.web_request_log.proofs.header_order.header_order_law.Goals as goal

pub returns : goal.returns
returns c = only_increasing
