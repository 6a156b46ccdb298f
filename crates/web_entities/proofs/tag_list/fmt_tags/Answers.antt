use Rattle.std.proofs.Common.{refl}
use Rattle.web_entities.specs.EntityTags.{tag_text}
use Rattle.web_entities.proofs.tag_list.fmt_tags.Goals as goal

pub returns : goal.returns
returns g c = c.fmt_comma_delimited.ensures tag_text (λ _. refl)
