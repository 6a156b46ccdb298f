use Rattle.std.proofs.Common.{sym}
use Rattle.web_texts.proofs.DigitsLemmas.{too_large}
use Rattle.web_texts.proofs.texts.digits.number_of.Goals as goal

pub returns-in-None-clause-value : goal.returns-in-None-clause-value
returns-in-None-clause-value c =
    sym (too_large c.args.text.now c.loop-byte.byte-index c.args.max c.loop-byte-test.true (cc))
