use Rattle.web_texts.specs.ParameterPlaces.{semicolons}
use Rattle.web_texts.specs.Pieces.{pieces}
use Rattle.web_texts.specs.declared.grammar.parameters.Quoting.TheVariants.{Outside}
use Rattle.web_texts.proofs.KeptMediaLemmas.{parameters_kept}
use Rattle.web_texts.proofs.ParameterLemmas.{behind_essence}
use Rattle.web_texts.proofs.media.media_type.Mime.parse.Goals as goal

pub returns-in_ok-params-in-Some : goal.returns-in_ok-params-in-Some
returns-in_ok-params-in-Some c =
    let cut = rw c.in-Some.is at c.first_piece.ensures.pieces in
    rw (behind_essence c.args.text.now c.first_piece.result.0.now c.in-Some.behind cut, c.in_ok-params-in-Some.ensures)
    (rw c.trim_end.ensures at c.with_params-in-Some.ensures)

pub with_params-requires-in-Some : goal.with_params-requires-in-Some
with_params-requires-in-Some c =
    parameters_kept (pieces semicolons Outside c.in-Some.behind.now) c.in_ok-params-in-Some.params.items c.in_ok-params-in-Some.ensures
