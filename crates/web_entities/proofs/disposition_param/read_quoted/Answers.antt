use Rattle.web_entities.proofs.QuotedValueLemmas.{closed_from}
use Rattle.web_entities.proofs.disposition_param.read_quoted.Goals as goal

pub returns-in_ok-unescape-in-Some : goal.returns-in_ok-unescape-in-Some
returns-in_ok-unescape-in-Some c =
    let cut = rw c.in-Some.is at c.first_piece.ensures.pieces in
    rw c.in_ok-unescape-in-Some.ensures (closed_from c.args.text.now c.first_piece.result.0.now c.in-Some.field-0 cut)
