use Rattle.std.proofs.Common.{◌≡◌, true, arith, sym}
use Rattle.web_texts.specs.QuotedText.{is_closed}
use Rattle.web_texts.proofs.ParameterLemmas.{closed_last}
use Rattle.web_texts.proofs.grammar.parameters.between_quotes.Goals as goal

pub range-requires-clause-end_boundary : goal.range-requires-clause-end_boundary
range-requires-clause-end_boundary c =
    let closes : is_closed c.range_from-rest.result.now ≡ true = rw c.as_bytes.ensures.value at (sym c.if-not-is_closed.ensures) in
    let ends = closed_last c.range_from-rest.result.now closes in
    (omega arith, λ inside high. absurd (omega (arith, ends.1, high)))
