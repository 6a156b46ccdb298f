use Rattle.std.proofs.Common.{◌≡◌}
use Rattle.http_header.specs.HeaderMap.{get_all}
use Rattle.web_texts.specs.HeaderTexts.{value_bytes}
use Rattle.web_entities.specs.EntityTags.{equals}
use Rattle.web_entities.specs.ListedTags.{listed_tags}
use Rattle.web_entities.proofs.ListedTagsLemmas.{listed_so_far}
use Rattle.web_entities.proofs.tag_list.is_listed_in_values.Given as goal

abbrev pub invariant-loop-value : goal.invariant-loop-value
invariant-loop-value l =
    listed_so_far (equals l.fn.comparison) l.fn.tag l.is_listed (value_bytes l.value-iterator)
    ≡ listed_tags (equals l.fn.comparison) l.fn.tag (value_bytes (get_all l.fn.headers l.fn.name))
