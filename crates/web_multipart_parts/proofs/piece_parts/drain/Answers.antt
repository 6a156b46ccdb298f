use Rattle.web_multipart_parts.proofs.PieceLemmas.{due_goes, due_part}
use Rattle.web_multipart_parts.proofs.piece_parts.drain.Goals as goal

pub returns-in-More : goal.returns-in-More
returns-in-More c = (
  due_goes c.args.reader.now c.args.parts.now.items c.parts.reader c.parts.parts.items c.parts.invariant c.next.new.self c.in-More.ensures.gives.0,
  c.in-More.ensures.gives.1.cut_off,
)

pub parts-preserved : goal.parts-preserved
parts-preserved c =
    due_part c.args.reader.now c.args.parts.now.items c.parts.reader c.parts.parts.items c.parts.invariant c.in-Part.part c.next.new.self c.in-Part.ensures.gives
    c.push.new.self.items c.in_ok-push-in-Part.ensures.items
