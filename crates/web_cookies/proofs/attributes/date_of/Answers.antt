use Rattle.std.proofs.Common.{◌∙◌, ap}
use Rattle.web_cookies.specs.Attributes.{date_of}
use Rattle.web_cookies.proofs.AttributeLemmas.{date_said}
use Rattle.web_cookies.proofs.attributes.date_of.Goals as goal

pub returns-in-Ok : goal.returns-in-Ok
returns-in-Ok c =
    date_said c.as_bytes.result.now c.in-Ok.date c.in-Ok.ensures.shown ∙ ap date_of c.as_bytes.ensures.value
