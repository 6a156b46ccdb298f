use Rattle.std.proofs.Common.{◌∙◌, ap}
use Rattle.web_entities.specs.EntityTags.{is_tag_text}
use Rattle.web_folders.proofs.FileTagLemmas.{tag_bytes}
use Rattle.web_folders.proofs.facts.FileFacts.tag.Goals as goal

pub new_strong-requires : goal.new_strong-requires
new_strong-requires c = ap is_tag_text c.in_ok-text.ensures ∙ tag_bytes c.args.self.now
