use Rattle.std.proofs.Common.{◌≡◌, true, take}
use Rattle.std.specs.List.{list_all}
use Rattle.web_entities.specs.EntityTags.{is_tag_byte}
use Rattle.web_entities.proofs.entity.EntityTag.is_tag_text.Given as goal

abbrev pub invariant-loop-b : goal.invariant-loop-b
invariant-loop-b l = list_all is_tag_byte (take l.b-index l.text) ≡ true
