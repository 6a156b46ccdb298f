use Rattle.std.proofs.Common.{arith}
use Rattle.web_multipart_parts.proofs.SettledLemmas.{not_found, not_whole}
use Rattle.web_multipart_parts.specs.PartMachines.{form_of}
use Rattle.web_multipart_parts.proofs.ContentLemmas.{head_fits}
use Rattle.web_multipart_parts.proofs.TellLemmas.{found_tells, head_more}
use Rattle.web_multipart_parts.proofs.part_machine.PartMachine.read_head.Goals as goal

pub advance-requires : goal.advance-requires
advance-requires c = head_fits c.args.self.now.held.items c.in-Head.head c.in-Head.size (rw c.as_slice.ensures at c.in-Head.ensures)

pub returns-in-Head-clause-tells : goal.returns-in-Head-clause-tells
returns-in-Head-clause-tells c =
    (found_tells (form_of c.args.self.now) c.args.self.now.left c.args.self.now.held.items c.in-Head.head c.in-Head.size (rw c.as_slice.ensures at c.in-Head.ensures) c.advance.new.self.items c.advance.ensures.items, omega arith)

pub returns-in-More-clause-tells : goal.returns-in-More-clause-tells
returns-in-More-clause-tells c = head_more (form_of c.args.self.now) c.args.self.now.left c.args.self.now.held.items (rw c.as_slice.ensures at c.in-More.ensures)

pub returns-in-Head-clause-quiet : goal.returns-in-Head-clause-quiet
returns-in-Head-clause-quiet c = λ settled. not_found _ c.in-Head.head c.in-Head.size (rw c.as_slice.ensures at c.in-Head.ensures) settled

pub returns-in-NoMemory-clause-quiet : goal.returns-in-NoMemory-clause-quiet
returns-in-NoMemory-clause-quiet c = λ settled. not_whole _ (rw c.as_slice.ensures at c.in-NoMemory.ensures) settled

pub returns-in-More-clause-settles : goal.returns-in-More-clause-settles
returns-in-More-clause-settles c = rw c.as_slice.ensures at c.in-More.ensures
