use denote.Text.{Utf8}
use denote.Shadow.{shadow}
use Rattle.std.proofs.Common.{◌≡◌, length}
use Rattle.web_texts.specs.declared.grammar.parameters.Quoting.TheVariants.{Outside}
use Rattle.web_texts.specs.Pieces.{pieces}
use Rattle.web_texts.specs.PieceItems.{with_front}
use Rattle.web_texts.specs.ParameterPlaces.{semicolons}
use Rattle.web_texts.specs.MediaTypes.{parameters_of}
use Rattle.web_texts.proofs.grammar.parameters.read_parameters.Given as goal

abbrev pub invariant-pieces : goal.invariant-pieces
invariant-pieces l = record {
  so_far : with_front l.params.items (parameters_of (pieces semicolons Outside l.rest)) ≡ parameters_of (pieces semicolons Outside l.text);
  text : shadow (Utf8 l.rest);
}

abbrev pub decreases-pieces : goal.decreases-pieces
decreases-pieces l = length l.rest
