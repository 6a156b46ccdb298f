use Rattle.std.proofs.Common.{refl, Some}
use Rattle.web_texts.specs.QualityItems.{quality_item_text}
use Rattle.web_headers.specs.ListHeaders.{text_as_it_is}
use Rattle.web_headers.specs.Preferences.{preference_output, preference_text}
use Rattle.web_headers.proofs.ItemTextLemmas.{quality_item_prints, preference_prints}
use Rattle.web_headers.proofs.accepts.accept_language.AcceptLanguageDisplay.fmt.Goals as goal

pub returns-clause-writes : goal.returns-clause-writes
returns-clause-writes g c =
    rw c.as_slice.ensures at (c.fmt_comma_delimited.ensures (quality_item_text (preference_text text_as_it_is)) (quality_item_prints (preference_output (λ t. Some t)) (preference_text text_as_it_is) (preference_prints (λ t. Some t) text_as_it_is (λ y. refl))))
