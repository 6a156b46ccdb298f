use Rattle.web_multipart_parts.specs.PartReading.{parts_left}
use Rattle.example_handlers.proofs.upload.add_sizes.Given as goal

abbrev pub decreases-parts : goal.decreases-parts
decreases-parts g l = parts_left l.stream.reader
