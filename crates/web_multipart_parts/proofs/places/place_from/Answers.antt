use Rattle.std.proofs.Common.{◌+◌, Some, None}
use Rattle.web_multipart_parts.proofs.PlaceLemmas.{found_fits, none_searched, place_behind}
use Rattle.web_multipart_parts.proofs.places.place_from.Goals as goal

pub returns-in-Some : goal.returns-in-Some
returns-in-Some c =
    let s = c.requires.searched in
    let place = place_behind c.args.text.now c.args.bytes.now c.args.searched s.within (none_searched c.args.text.now c.args.bytes.now c.args.searched s) c.requires.some (Some c.in-Some.place) c.in-Some.ensures in
    record { place = place; fits = found_fits c.args.text.now c.args.bytes.now c.requires.some (Some (c.args.searched + c.in-Some.place)) place }

pub returns-in-None-clause-place : goal.returns-in-None-clause-place
returns-in-None-clause-place c =
    let s = c.requires.searched in
    place_behind c.args.text.now c.args.bytes.now c.args.searched s.within (none_searched c.args.text.now c.args.bytes.now c.args.searched s) c.requires.some None c.in-None.ensures
