use Rattle.std.proofs.Common.{refl}
use Rattle.std.proofs.lemmas.Grind.{put_two}
use Rattle.web_headers.proofs.PrintedListLemmas.{joined_is}
use Rattle.web_headers.proofs.printed_list.fmt_comma_delimited.Goals as goal

pub returns-in_ok-write-in-len1-up : goal.returns-in_ok-write-in-len1-up
returns-in_ok-write-in-len1-up g c = λ text total plain ok.
    let first = (rw (total c.first-item.result) at c.in_ok-write-in-len1-up.ensures.writes) plain refl in
    let later = c.fmt_later.ensures text total first.plain ok in
    put_two _ _ _ _ _ _ _ first later (joined_is text c.first-item.result c.args.parts.now c.in-len1-up.len_at_least c.first-item.is)
