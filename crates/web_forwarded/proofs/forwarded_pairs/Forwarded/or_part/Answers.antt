use Rattle.std.proofs.Common.{◌∷◌, [], rules, refl}
use Rattle.std.specs.List.{slice_split}
use Rattle.web_texts.specs.Bytes.{is_comma}
use Rattle.web_forwarded.proofs.ForwardedLemmas.{last_passed, passed}
use Rattle.web_forwarded.proofs.forwarded_pairs.Forwarded.or_part.Goals as goal

pub pairs-init : goal.pairs-init
pairs-init c = record {
  so_far = λ front is. record { front = front; is = is; parts = refl };
  text = search rules;
}

pub pairs-preserved : goal.pairs-preserved
pairs-preserved c = record {
  so_far = λ front is. passed c.pairs.said c.or_pair-said.result (c.first_part.result.0.now ∷ []) (slice_split is_comma c.in-Some.behind.now) _ _
      (rw c.in-Some.is at c.first_part.ensures.parts)
      c.or_pair-said.ensures (c.pairs.invariant.so_far front is);
  text = search rules;
}

pub returns-in-None : goal.returns-in-None
returns-in-None c front is =
    last_passed c.pairs.said c.or_pair-said.result (c.first_part.result.0.now ∷ []) _ _
    (rw c.in-None.is at c.first_part.ensures.parts)
    c.or_pair-said.ensures (c.pairs.invariant.so_far front is)
