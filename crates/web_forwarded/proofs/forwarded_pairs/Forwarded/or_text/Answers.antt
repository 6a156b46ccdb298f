use Rattle.std.proofs.Common.{rules, refl}
use Rattle.std.specs.List.{slice_split}
use Rattle.web_texts.specs.Bytes.{is_comma}
use Rattle.web_forwarded.specs.ForwardedPairs.{pairs_of}
use Rattle.web_forwarded.proofs.ForwardedLemmas.{last_pairs, last_passed, part_pairs, passed}
use Rattle.web_forwarded.proofs.forwarded_pairs.Forwarded.or_text.Goals as goal

pub parts-init : goal.parts-init
parts-init c = record {
  so_far = λ front is. record { front = front; is = is; parts = refl };
  text = search rules;
}

pub parts-preserved : goal.parts-preserved
parts-preserved c = record {
  so_far = λ front is. passed c.parts.said c.or_part-said.result (slice_split is_comma c.first_part.result.0.now) (pairs_of c.in-Some.behind.now) _ _
      (part_pairs c.parts.rest.now c.first_part.result.0.now c.in-Some.behind.now (rw c.in-Some.is at c.first_part.ensures.parts))
      c.or_part-said.ensures (c.parts.invariant.so_far front is);
  text = search rules;
}

pub returns-in-None : goal.returns-in-None
returns-in-None c front is =
    last_passed c.parts.said c.or_part-said.result (slice_split is_comma c.first_part.result.0.now) _ _
    (last_pairs c.parts.rest.now c.first_part.result.0.now (rw c.in-None.is at c.first_part.ensures.parts))
    c.or_part-said.ensures (c.parts.invariant.so_far front is)
