use Rattle.web_multipart_parts.specs.PartMachines.{form_of}
use Rattle.web_multipart_parts.proofs.StepLemmas.{searched_fed}
use Rattle.web_multipart_parts.proofs.part_reader.PartReader.feed.Goals as goal

pub invariant_of-self-2 : goal.invariant_of-self-2
invariant_of-self-2 c = record {
  delimiter = c.self.invariant.delimiter;
  limit = c.self.invariant.limit;
  searched = rw c.in_ok-extend_from_slice.ensures.ok
      (searched_fed (form_of c.self.inside.machine) c.self.inside.machine.place c.self.inside.machine.held.items c.args.piece.now c.self.inside.machine.searched c.self.invariant.searched);
}
