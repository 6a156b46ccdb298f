use Rattle.std.proofs.Common.{refl}
use Rattle.web_headers.specs.ListHeaders.{text_as_it_is}
use Rattle.web_headers.proofs.allow_header.AllowDisplay.fmt.Goals as goal

pub returns-clause-writes : goal.returns-clause-writes
returns-clause-writes g c =
    rw c.as_slice.ensures at (c.fmt_comma_delimited.ensures text_as_it_is (λ x. refl))
