use Rattle.std.proofs.Common.{refl, Some}
use Rattle.web_texts.specs.QualityItems.{quality_item_text}
use Rattle.web_headers.specs.Codings.{encoding_text}
use Rattle.web_headers.specs.Preferences.{preference_output, preference_text}
use Rattle.web_headers.proofs.ItemTextLemmas.{quality_item_prints, preference_prints}
use Rattle.web_headers.proofs.accepts.accept_encoding.AcceptEncodingDisplay.fmt.Goals as goal

pub returns-clause-writes : goal.returns-clause-writes
returns-clause-writes g c =
    rw c.as_slice.ensures at (c.fmt_comma_delimited.ensures (quality_item_text (preference_text encoding_text)) (quality_item_prints (preference_output (λ e. Some (encoding_text e))) (preference_text encoding_text) (preference_prints (λ e. Some (encoding_text e)) encoding_text (λ y. refl))))
