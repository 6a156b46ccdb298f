use Rattle.std.proofs.Common.{rules}
use Rattle.web_cookies.proofs.AttributeLemmas.{part_more, part_last}
use Rattle.web_cookies.proofs.attributes.read_attributes.Goals as goal

pub parts-preserved : goal.parts-preserved
parts-preserved c = record {
  so_far = part_more c.parts.rest.now c.first_part.result.0.now _ c.parts.cookie c.read_attribute.new.cookie _
      (rw c.in-Some.is at c.first_part.ensures.parts) c.parts.invariant.so_far c.in_ok-read_attribute.ensures;
  text = search rules;
}

pub returns-in-None : goal.returns-in-None
returns-in-None c =
    part_last c.parts.rest.now c.first_part.result.0.now c.parts.cookie c.read_attribute.new.cookie _
    (rw c.in-None.is at c.first_part.ensures.parts) c.parts.invariant.so_far c.in_ok-read_attribute.ensures
