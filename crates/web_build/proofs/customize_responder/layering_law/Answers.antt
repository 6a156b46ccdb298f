use Rattle.web_build.proofs.LayeringLemmas.{is_stacked}
use Rattle.web_build.proofs.customize_responder.layering_law.Goals as goal

pub returns : goal.returns
returns g c = λ customized own fits. is_stacked customized own fits
