-- Steps one after another.
use Rattle.std.proofs.Common.{ℕ, ◌+◌, List, ◌++◌, refl, sym, ap, ◌∙◌, arith}
use Rattle.web_multipart_parts.specs.Parts.{Closes, Fails, Form, behind, empty_line}
use Rattle.web_multipart_parts.specs.PartMachines.{SearchedAt}
use Rattle.web_multipart_parts.specs.declared.part_machine.PartState.{PartState}
use Rattle.web_multipart_parts.specs.declared.part_machine.PartState.TheVariants as place
use Rattle.web_multipart_parts.proofs.PlaceLemmas.{searched_more}
use Rattle.web_multipart_parts.specs.PartReading.{GivesEnd, GivesPart, GoesOn, Keeps, Reader, StepGives, parts_with}
use Rattle.web_multipart_parts.specs.declared.part.Part.{Part}
use Rattle.web_multipart_parts.specs.declared.part.PartError.{PartError}
use Rattle.web_multipart_parts.specs.declared.part_machine.PartStep.{PartStep}
use Rattle.web_multipart_parts.specs.declared.part_machine.PartStep.TheVariants as step
use Rattle.web_multipart_parts.proofs.LaterLemmas.{behind_behind, behind_then, behind_zero}

pub goes_nowhere : (r : Reader) → GoesOn r r
goes_nowhere r = record {
  form = refl;
  fewer = omega arith;
  read = 0;
  size = omega arith;
  parts = λ more. sym (behind_zero (parts_with r more));
}

pub goes_further : (a b c : Reader) → GoesOn a b → GoesOn b c → GoesOn a c
goes_further a b c g h =
    let one = g.size in
    let two = h.size in
    let more_than = g.fewer in
    let even_more = h.fewer in
    record {
      form = h.form ∙ g.form;
      fewer = omega (arith, more_than, even_more);
      read = g.read + h.read;
      size = omega (arith, one, two);
      parts = λ more. g.parts more ∙ (ap (behind g.read) (h.parts more) ∙ behind_behind g.read h.read (parts_with c more));
    }

part_further : (a b : Reader) (part : Part) (c : Reader) → GoesOn a b → GivesPart b part c → GivesPart a part c
part_further a b part c g h =
    let one = g.size in
    let two = h.size in
    let three = h.some in
    let more_than = g.fewer in
    let even_more = h.fewer in
    record {
      form = h.form ∙ g.form;
      fewer = omega (arith, more_than, even_more);
      read = g.read + h.read;
      some = omega (arith, three);
      size = omega (arith, one, two);
      parts = λ more. g.parts more ∙ (ap (behind g.read) (h.parts more) ∙ behind_then g.read h.read part (parts_with c more));
    }

closes_further : (a b : Reader) → GoesOn a b → GivesEnd b Closes → GivesEnd a Closes
closes_further a b g h =
    let one = g.size in
    let two = h.within in
    record { read = g.read + h.read; within = omega (arith, one, two); parts = λ more. g.parts more ∙ ap (behind g.read) (h.parts more) }

fails_further : (a b : Reader) (error : PartError) → GoesOn a b → GivesEnd b (λ n. Fails n error) → GivesEnd a (λ n. Fails n error)
fails_further a b error g h =
    let one = g.size in
    let two = h.within in
    record { read = g.read + h.read; within = omega (arith, one, two); parts = λ more. g.parts more ∙ ap (behind g.read) (h.parts more) }

pub gives_further : (a b : Reader) (s : PartStep) (c : Reader) → GoesOn a b → StepGives b s c → StepGives a s c
gives_further a b step.More c g h = (goes_further a b c g h.0, h.1)
gives_further a b (step.Part part) c g h = part_further a b part c g h
gives_further a b step.Closed c g h = closes_further a b g h
gives_further a b (step.Failed error) c g h = fails_further a b error g h
gives_further a b step.NoMemory c g h = tt

-- what is not searched again stays so when more bytes come
pub searched_fed : (form : Form) (p : PartState) (came piece : List ℕ) (n : ℕ) → SearchedAt form p came n → SearchedAt form p (came ++ piece) n
searched_fed form place.Opening came piece n s = tt
searched_fed form place.Boundary came piece n s = tt
searched_fed form place.Head came piece n s = searched_more empty_line came piece n s
searched_fed form (place.Content head) came piece n s = searched_more form.delimiter came piece n s

pub keeps_further : (a b c : Reader) → Keeps a b → Keeps b c → Keeps a c
keeps_further a b c k l =
    let one = k.1 in
    let two = l.1 in
    let three = k.2 in
    let four = l.2 in
    (l.0 ∙ k.0, omega (arith, one, two), omega (arith, three, four))
