use Rattle.std.proofs.Common.{append_assoc}
use Rattle.web_folders.proofs.listing.push_head.Goals as goal

pub returns : goal.returns
returns c =
    simp (c.in_ok-push_str-3.ensures.bytes, c.in_ok-push_title-2.ensures, c.in_ok-push_str-2.ensures.bytes, c.in_ok-push_title.ensures, c.in_ok-push_str.ensures.bytes, append_assoc)
