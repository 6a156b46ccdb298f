use Rattle.std.proofs.Common.{arith, []}
use Rattle.web_multipart_parts.proofs.SettledLemmas.{not_filled}
use Rattle.web_multipart_parts.specs.PartMachines.{form_of}
use Rattle.web_multipart_parts.proofs.PlaceLemmas.{place_fits}
use Rattle.web_multipart_parts.proofs.TellLemmas.{content_more, content_over, content_tells}
use Rattle.web_multipart_parts.proofs.part_machine.PartMachine.read_content.Goals as goal

pub returns-in-Ok-clause-tells : goal.returns-in-Ok-clause-tells
returns-in-Ok-clause-tells c =
    let size = c.requires.machine.delimiter in
    content_tells (form_of c.args.self.now) (omega (arith, size)) c.args.self.now.left c.args.head c.args.self.now.held.items c.in-Content.size (rw (c.as_slice.ensures, c.as_slice-2.ensures.value) at c.in-Content.ensures)
    c.len.result (omega (arith, c.len.ensures, c.args.self.now.delimiter.ok)) c.take_content.new.held.items c.in-Ok.body c.in-Ok.ensures.rest c.in-Ok.ensures.body c.with_body.result c.with_body.ensures c.args.self.now.place c.requires.moved

pub returns-in-More-clause-tells : goal.returns-in-More-clause-tells
returns-in-More-clause-tells c =
    let size = c.requires.machine.delimiter in
    content_more (form_of c.args.self.now) (omega (arith, size)) c.args.self.now.left c.args.head c.args.self.now.held.items (rw (c.as_slice.ensures, c.as_slice-2.ensures.value) at c.in-More.ensures)

pub returns-in-TooLong-clause-tells : goal.returns-in-TooLong-clause-tells
returns-in-TooLong-clause-tells c =
    let size = c.requires.machine.delimiter in
    content_over (form_of c.args.self.now) (omega (arith, size)) c.args.self.now.left c.args.head c.args.self.now.held.items (rw (c.as_slice.ensures, c.as_slice-2.ensures.value) at c.in-TooLong.ensures)

pub take_content-requires : goal.take_content-requires
take_content-requires c =
    let size = c.requires.machine.delimiter in
    let gives = rw (c.as_slice.ensures, c.as_slice-2.ensures.value) at c.in-Content.ensures in
    let fits = place_fits c.args.self.now.delimiter.items c.args.self.now.held.items [] (omega (arith, size)) c.in-Content.size gives.0 in
    omega (arith, fits, c.len.ensures, c.args.self.now.delimiter.ok)

pub returns-in-Err-clause-quiet : goal.returns-in-Err-clause-quiet
returns-in-Err-clause-quiet c = λ settled. not_filled _ _ _ c.in-Content.size (rw (c.as_slice.ensures, c.as_slice-2.ensures.value) at c.in-Content.ensures) settled

pub returns-in-More-clause-settles : goal.returns-in-More-clause-settles
returns-in-More-clause-settles c = rw (c.as_slice.ensures, c.as_slice-2.ensures.value) at c.in-More.ensures
