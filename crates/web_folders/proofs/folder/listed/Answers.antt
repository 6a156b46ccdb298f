use Rattle.std.proofs.Common.{◌∙◌, ap}
use Rattle.web_paths.specs.PathsBelow.{joined}
use Rattle.web_folders.specs.FolderReplies.{listing_reply}
use Rattle.web_folders.specs.Listings.{listing_page}
use Rattle.web_folders.proofs.folder.listed.Goals as goal

pub returns : goal.returns
returns g c =
    let hidden = c.args.settings.now.hidden in
    let page =
    c.in_ok-page.ensures ∙ ap (λ p. listing_page p hidden c.as_slice.result.now) c.as_str.ensures.text
    ∙ ap (λ es. listing_page (joined c.args.path.now.names) hidden es) c.as_slice.ensures.value in
    rw c.in-Some.is (_, c.in_ok-sorted.ensures, c.in_ok-reply.ensures ∙ ap (λ t. listing_reply {F = g.row.F.Denot} c.args.method.now t) page)
