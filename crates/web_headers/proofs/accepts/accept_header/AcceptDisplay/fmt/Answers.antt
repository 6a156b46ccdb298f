use Rattle.std.proofs.Common.{refl, Some}
use Rattle.web_texts.specs.MediaTypeTexts.{media_type_text}
use Rattle.web_texts.specs.QualityItems.{quality_item_text}
use Rattle.web_headers.proofs.ItemTextLemmas.{quality_item_prints}
use Rattle.web_headers.proofs.accepts.accept_header.AcceptDisplay.fmt.Goals as goal

pub returns-clause-writes : goal.returns-clause-writes
returns-clause-writes g c =
    rw c.as_slice.ensures at (c.fmt_comma_delimited.ensures (quality_item_text media_type_text) (quality_item_prints (λ m. Some (media_type_text m)) media_type_text (λ y. refl)))
