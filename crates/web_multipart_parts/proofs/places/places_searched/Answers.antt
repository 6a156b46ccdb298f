use Rattle.std.proofs.Common.{◌+◌, ◌-◌, length, arith}
use Rattle.web_multipart_parts.proofs.PlaceLemmas.{searched_all, searched_start}
use Rattle.web_multipart_parts.proofs.places.places_searched.Goals as goal

pub returns-then-bytes-text : goal.returns-then-bytes-text
returns-then-bytes-text c = searched_start c.args.text.now c.args.bytes.now

pub returns : goal.returns
returns c =
    let some = c.requires.some in
    searched_all c.args.text.now c.args.bytes.now (length c.args.bytes.now - length c.args.text.now + 1) some c.requires.none (omega (arith, some)) (omega (arith, some))
