use Rattle.std.proofs.Common.{arith}
use Rattle.web_multipart_parts.proofs.SettledLemmas.{at_boundary, not_begun}
use Rattle.web_multipart_parts.specs.PartMachines.{form_of}
use Rattle.web_multipart_parts.proofs.TellLemmas.{begun_tells, boundary_more, closed_tells, many_tells, wrong_tells}
use Rattle.web_multipart_parts.proofs.part_machine.PartMachine.read_boundary.Goals as goal

pub returns-then-self-eq0-clause-tells : goal.returns-then-self-eq0-clause-tells
returns-then-self-eq0-clause-tells c = many_tells (form_of c.args.self.now) c.args.self.now.left c.args.self.now.held.items c.if-self-eq0.true (rw c.as_slice.ensures at c.in-Begun.ensures)

pub returns-in-Closed-clause-tells : goal.returns-in-Closed-clause-tells
returns-in-Closed-clause-tells c = closed_tells (form_of c.args.self.now) c.args.self.now.left c.args.self.now.held.items (rw c.as_slice.ensures at c.in-Closed.ensures)

pub returns-else-self-eq0-clause-tells : goal.returns-else-self-eq0-clause-tells
returns-else-self-eq0-clause-tells c =
    let other = c.if-self-eq0.false in
    (begun_tells (form_of c.args.self.now) c.args.self.now.left c.args.self.now.held.items (omega (arith, other)) (rw c.as_slice.ensures at c.in-Begun.ensures), omega arith)

pub returns-in-More-clause-tells : goal.returns-in-More-clause-tells
returns-in-More-clause-tells c = boundary_more (form_of c.args.self.now) c.args.self.now.held.items (rw c.as_slice.ensures at c.in-More.ensures) c.args.self.now.left c.args.self.now.place c.requires.moved

pub returns-in-Wrong-clause-tells : goal.returns-in-Wrong-clause-tells
returns-in-Wrong-clause-tells c = wrong_tells (form_of c.args.self.now) c.args.self.now.held.items (rw c.as_slice.ensures at c.in-Wrong.ensures) c.args.self.now.left

pub returns-else-self-eq0-clause-quiet : goal.returns-else-self-eq0-clause-quiet
returns-else-self-eq0-clause-quiet c = λ settled. not_begun _ (rw c.as_slice.ensures at c.in-Begun.ensures) settled

pub returns-in-More-clause-settles : goal.returns-in-More-clause-settles
returns-in-More-clause-settles c = at_boundary (form_of c.args.self.now) c.args.self.now.place c.args.self.now.held.items c.requires.moved (rw c.as_slice.ensures at c.in-More.ensures)
