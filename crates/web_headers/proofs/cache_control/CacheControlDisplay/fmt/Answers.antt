use Rattle.std.proofs.Common.{refl}
use Rattle.web_headers.specs.CacheDirectives.{cache_directive_text}
use Rattle.web_headers.proofs.cache_control.CacheControlDisplay.fmt.Goals as goal

pub returns-clause-writes : goal.returns-clause-writes
returns-clause-writes g c =
    rw c.as_slice.ensures at (c.fmt_comma_delimited.ensures cache_directive_text (λ x. refl))
