use Rattle.std.proofs.Common.{◌≡◌, length}
use Rattle.std.specs.List.{list_all, slice_split}
use Rattle.web_texts.specs.LanguageTags.{is_hyphen, is_subtag}
use Rattle.web_texts.proofs.media.language_tag.are_subtags.Given as goal

abbrev pub invariant-subtags : goal.invariant-subtags
invariant-subtags l =
    list_all is_subtag (slice_split is_hyphen l.rest)
    ≡ list_all is_subtag (slice_split is_hyphen l.text)

abbrev pub decreases-subtags : goal.decreases-subtags
decreases-subtags l = length l.rest
