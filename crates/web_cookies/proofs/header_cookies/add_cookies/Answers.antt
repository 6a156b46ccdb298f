use Rattle.std.proofs.Common.{rules}
use Rattle.web_cookies.proofs.HeaderLemmas.{part_more, part_last}
use Rattle.web_cookies.proofs.header_cookies.add_cookies.Goals as goal

pub parts-preserved : goal.parts-preserved
parts-preserved c = record {
  so_far = part_more c.args.encoded c.parts.rest.now c.first_part.result.0.now _ c.parts.cookies.items c.add_cookie.new.cookies.items _
      (rw c.in-Some.is at c.first_part.ensures.parts) c.parts.invariant.so_far c.in_ok-add_cookie.ensures;
  text = search rules;
}

pub returns-in-None : goal.returns-in-None
returns-in-None c =
    part_last c.args.encoded c.parts.rest.now c.first_part.result.0.now c.parts.cookies.items c.add_cookie.new.cookies.items _
    (rw c.in-None.is at c.first_part.ensures.parts) c.parts.invariant.so_far c.in_ok-add_cookie.ensures
