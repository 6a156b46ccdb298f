use Rattle.std.proofs.Common.{length}
use Rattle.web_texts.specs.WrittenMediaTypes.{ArePlain}
use Rattle.web_texts.proofs.media.written_media.are_plain.Given as goal

abbrev pub invariant-params : goal.invariant-params
invariant-params l = ArePlain l.left l.rest → ArePlain l.params l.text

abbrev pub decreases-params : goal.decreases-params
decreases-params l = length l.left
