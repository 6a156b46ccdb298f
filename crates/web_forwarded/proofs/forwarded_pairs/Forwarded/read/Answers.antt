use Rattle.web_forwarded.specs.ForwardedPairs.{forwarded_pairs, pairs_of}
use Rattle.web_forwarded.proofs.ForwardedLemmas.{passed, value_pairs}
use Rattle.web_forwarded.proofs.forwarded_pairs.Forwarded.read.Goals as goal

pub loop-value-preserved-in-Some-header_text : goal.loop-value-preserved-in-Some-header_text
loop-value-preserved-in-Some-header_text c =
    passed c.loop-value.said c.or_text-said.result (pairs_of c.in-Some-header_text.text.now) (forwarded_pairs c.next.new.self) _ _
    (value_pairs c.loop-value.value-iterator c.next.new.self c.in-Some.value.now c.in-Some-header_text.text.now c.in-Some.ensures.steps c.in-Some-header_text.ensures)
    c.or_text-said.ensures c.loop-value.invariant
