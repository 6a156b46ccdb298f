use Rattle.std.proofs.Common.{ap, sym, ◌∙◌}
use Rattle.web_texts.specs.MediaTypes.{essence_of}
use Rattle.web_texts.proofs.KeptMediaLemmas.{kept_back}
use Rattle.web_texts.proofs.media.media_type.Mime.essence.Goals as goal

pub returns : goal.returns
returns c =
    c.as_str.ensures ∙ sym (kept_back c.self.inside.essence c.self.inside.params c.self.invariant) ∙ ap essence_of c.self.view_is
