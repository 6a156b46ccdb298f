use Rattle.std.proofs.Common.{refl}
use Rattle.web_headers.proofs.DateLemmas.{one_date, says_one}
use Rattle.web_headers.proofs.laws.date_law.Goals as goal

pub returns-clause-text : goal.returns-clause-text
returns-clause-text c = one_date

pub returns-clause-date : goal.returns-clause-date
returns-clause-date c = says_one (λ x. x.0) (λ d. record { 0 = d }) (λ x. refl) (λ d. refl)

pub returns-clause-expires : goal.returns-clause-expires
returns-clause-expires c = says_one (λ x. x.0) (λ d. record { 0 = d }) (λ x. refl) (λ d. refl)

pub returns-clause-if_modified_since : goal.returns-clause-if_modified_since
returns-clause-if_modified_since c = says_one (λ x. x.0) (λ d. record { 0 = d }) (λ x. refl) (λ d. refl)

pub returns-clause-if_unmodified_since : goal.returns-clause-if_unmodified_since
returns-clause-if_unmodified_since c = says_one (λ x. x.0) (λ d. record { 0 = d }) (λ x. refl) (λ d. refl)

pub returns-clause-last_modified : goal.returns-clause-last_modified
returns-clause-last_modified c = says_one (λ x. x.0) (λ d. record { 0 = d }) (λ x. refl) (λ d. refl)
