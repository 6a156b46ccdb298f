use Rattle.web_multipart_parts.specs.PartMachines.{IsMachine, reader_of}
use Rattle.web_multipart_parts.specs.PartReading.{GoesOn, Keeps, rank}
use Rattle.web_multipart_parts.specs.Settled.{IsSettled}
use Rattle.web_multipart_parts.proofs.part_reader.run.Given as goal

abbrev pub invariant-places : goal.invariant-places
invariant-places l = record {
  machine : IsMachine l.machine;
  keeps : Keeps (reader_of l.fn.machine) (reader_of l.machine);
  goes : GoesOn (reader_of l.fn.machine) (reader_of l.machine);
  settled : IsSettled (reader_of l.fn.machine) → IsSettled (reader_of l.machine);
}

abbrev pub decreases-places : goal.decreases-places
decreases-places l = rank l.machine.place
