use Rattle.std.proofs.Common.{append_assoc}
use Rattle.web_folders.proofs.listing.listing_page.Goals as goal

pub returns : goal.returns
returns c =
    simp (c.in_ok-push_str-2.ensures.bytes, c.in_ok-push_entries.ensures, c.in_ok-push_str.ensures.bytes, c.parent_line.ensures, c.in_ok-push_head.ensures, c.new-page.ensures.bytes, append_assoc)
