use Rattle.std.proofs.Common.{◌≡◌, refl, sym, ◌∙◌}
use Rattle.httpdate.proofs.Theorems.{unix_secs_injective}
use Rattle.httpdate.specs.Calendar.{days_of_months, days_of_years}
use Rattle.httpdate.specs.Date.{unix_secs}
use Rattle.web_headers.proofs.DateLemmas.{same_date}
use Rattle.demo_content.specs.StoredDocuments.{demo_date}
use Rattle.demo_content.proofs.documents.last_change.Goals as goal

the_second : unix_secs demo_date ≡ 1_700_000_000
unfolding demo_date days_of_months days_of_years
the_second = refl

pub returns : goal.returns
returns c = same_date c.in-Ok.date demo_date (unix_secs_injective c.in-Ok.date demo_date (c.in-Ok.ensures.value ∙ sym the_second))
