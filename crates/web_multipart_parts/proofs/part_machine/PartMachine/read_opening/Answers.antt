use Rattle.std.proofs.Common.{arith}
use Rattle.web_multipart_parts.proofs.SettledLemmas.{not_opened}
use Rattle.web_multipart_parts.specs.PartMachines.{form_of}
use Rattle.web_multipart_parts.specs.declared.part_machine.OpeningStep.TheVariants as front
use Rattle.web_multipart_parts.proofs.TellLemmas.{open_fails, open_more, opened_fits, opened_tells, opening_is}
use Rattle.web_multipart_parts.proofs.part_machine.PartMachine.read_opening.Goals as goal

pub advance-requires : goal.advance-requires
advance-requires c =
    opened_fits (form_of c.args.self.now) c.args.self.now.left c.args.self.now.held.items
    (opening_is c.args.self.now.delimiter.items c.args.self.now.held.items front.Opened (rw (c.as_slice.ensures, c.deref.ensures.value) at c.in-Opened.ensures)) c.len.result (omega (arith, c.len.ensures, c.args.self.now.delimiter.ok))

pub returns-in-Opened-clause-tells : goal.returns-in-Opened-clause-tells
returns-in-Opened-clause-tells c =
    opened_tells (form_of c.args.self.now) c.args.self.now.left c.args.self.now.held.items
    (opening_is c.args.self.now.delimiter.items c.args.self.now.held.items front.Opened (rw (c.as_slice.ensures, c.deref.ensures.value) at c.in-Opened.ensures)) c.len.result (omega (arith, c.len.ensures, c.args.self.now.delimiter.ok))
    c.advance.new.self.items c.advance.ensures.items c.args.self.now.place c.requires.moved

pub returns-in-More-clause-tells : goal.returns-in-More-clause-tells
returns-in-More-clause-tells c =
    open_more (form_of c.args.self.now) c.args.self.now.left c.args.self.now.held.items
    (opening_is c.args.self.now.delimiter.items c.args.self.now.held.items front.More (rw (c.as_slice.ensures, c.deref.ensures.value) at c.in-More.ensures))

pub returns-in-Wrong-clause-tells : goal.returns-in-Wrong-clause-tells
returns-in-Wrong-clause-tells c =
    open_fails (form_of c.args.self.now) c.args.self.now.left c.args.self.now.held.items
    (opening_is c.args.self.now.delimiter.items c.args.self.now.held.items front.Wrong (rw (c.as_slice.ensures, c.deref.ensures.value) at c.in-Wrong.ensures))

pub returns-in-Opened-clause-quiet : goal.returns-in-Opened-clause-quiet
returns-in-Opened-clause-quiet c = λ settled. not_opened _ _
    (opening_is c.args.self.now.delimiter.items c.args.self.now.held.items front.Opened (rw (c.as_slice.ensures, c.deref.ensures.value) at c.in-Opened.ensures)) settled

pub returns-in-More-clause-settles : goal.returns-in-More-clause-settles
returns-in-More-clause-settles c =
    opening_is c.args.self.now.delimiter.items c.args.self.now.held.items front.More (rw (c.as_slice.ensures, c.deref.ensures.value) at c.in-More.ensures)
