use Rattle.std.proofs.Common.{◌≡◌, length}
use Rattle.web_request.specs.MessageFields.{contains_word}
use Rattle.web_request.proofs.message_fields.contains_word.Given as goal

abbrev pub invariant-loop-behind : goal.invariant-loop-behind
invariant-loop-behind l = contains_word l.word l.left ≡ contains_word l.fn.word l.fn.text

abbrev pub decreases-loop-behind : goal.decreases-loop-behind
decreases-loop-behind l = length l.left
