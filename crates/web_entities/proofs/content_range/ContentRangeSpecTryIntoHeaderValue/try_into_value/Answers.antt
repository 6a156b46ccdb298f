use Rattle.std.proofs.Common.{sym, ap, subst, ◌∙◌}
use Rattle.http_header.specs.FieldValue.{plain_value}
use Rattle.web_texts.specs.HeaderValues.{GivesValue}
use Rattle.web_entities.specs.ContentRanges.{content_range_text}
use Rattle.web_entities.proofs.content_range.ContentRangeSpecTryIntoHeaderValue.try_into_value.Goals as goal

pub returns-in_ok-bytes_text-in-Bytes : goal.returns-in_ok-bytes_text-in-Bytes
returns-in_ok-bytes_text-in-Bytes c =
    let text = c.from.ensures ∙ c.in_ok-bytes_text-in-Bytes.ensures ∙ sym (ap content_range_text c.in-Bytes.is) in
    subst (λ t. GivesValue (plain_value t) c.try_into_value.result) text c.try_into_value.ensures
