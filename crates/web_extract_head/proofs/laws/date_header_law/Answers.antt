use Rattle.std.specs.Prelude.{codes}
use Rattle.web_extract_head.specs.HeaderArgument.{request_values}
use Rattle.web_extract_head.proofs.HeaderArgumentLemmas.{gives_one}
use Rattle.web_extract_head.proofs.laws.date_header_law.Goals as goal

pub returns-clause-date : goal.returns-clause-date
returns-clause-date g c = λ q. gives_one _ c.date_law.ensures.date (request_values (codes "date") q)

pub returns-clause-expires : goal.returns-clause-expires
returns-clause-expires g c = λ q. gives_one _ c.date_law.ensures.expires (request_values (codes "expires") q)

pub returns-clause-if_modified_since : goal.returns-clause-if_modified_since
returns-clause-if_modified_since g c = λ q. gives_one _ c.date_law.ensures.if_modified_since (request_values (codes "if-modified-since") q)

pub returns-clause-if_unmodified_since : goal.returns-clause-if_unmodified_since
returns-clause-if_unmodified_since g c = λ q. gives_one _ c.date_law.ensures.if_unmodified_since (request_values (codes "if-unmodified-since") q)

pub returns-clause-last_modified : goal.returns-clause-last_modified
returns-clause-last_modified g c = λ q. gives_one _ c.date_law.ensures.last_modified (request_values (codes "last-modified") q)
