use Rattle.web_multipart_parts.proofs.PlaceLemmas.{searched_start}
use Rattle.web_multipart_parts.proofs.places.place_in.Goals as goal

pub place_from-requires-clause-searched : goal.place_from-requires-clause-searched
place_from-requires-clause-searched c = searched_start c.args.text.now c.args.bytes.now
