use Rattle.std.proofs.Common.{refl, arith}
use Rattle.web_multipart_parts.specs.PartMachines.{reader_of}
use Rattle.web_multipart_parts.proofs.StepLemmas.{gives_further, goes_further, goes_nowhere, keeps_further}
use Rattle.web_multipart_parts.proofs.part_reader.run.Goals as goal

pub places-init : goal.places-init
places-init c = record { machine = c.requires.machine; keeps = (refl, omega arith, omega arith); goes = goes_nowhere (reader_of c.args.machine.now); settled = λ h. h }

pub returns-in-Some-clause-gives : goal.returns-in-Some-clause-gives
returns-in-Some-clause-gives c =
    gives_further (reader_of c.args.machine.now) (reader_of c.places.machine) c.in-Some.found (reader_of c.step.new.self) c.places.invariant.goes c.in-Some.ensures.tells

pub places-preserved : goal.places-preserved
places-preserved c = record {
  machine = c.in-None.ensures.machine;
  keeps = keeps_further (reader_of c.args.machine.now) (reader_of c.places.machine) (reader_of c.step.new.self) c.places.invariant.keeps c.in-None.ensures.keeps;
  goes = goes_further (reader_of c.args.machine.now) (reader_of c.places.machine) (reader_of c.step.new.self) c.places.invariant.goes c.in-None.ensures.tells.0;
  settled = λ h. absurd (c.in-None.ensures.quiet (c.places.invariant.settled h));
}

pub returns-in-Some-clause-keeps : goal.returns-in-Some-clause-keeps
returns-in-Some-clause-keeps c = keeps_further (reader_of c.args.machine.now) (reader_of c.places.machine) (reader_of c.step.new.self) c.places.invariant.keeps c.in-Some.ensures.keeps

pub returns-in-Some-clause-memory : goal.returns-in-Some-clause-memory
returns-in-Some-clause-memory c = λ h. c.in-Some.ensures.quiet (c.places.invariant.settled h)
