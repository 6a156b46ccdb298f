use Rattle.std.proofs.Common.{◌≡◌, ◌∙◌, ap, sym}
use Rattle.std.specs.Prelude.{codes}
use Rattle.web_paths.specs.PathsBelow.{child_of}
use Rattle.web_folders.specs.FolderReplies.{index_of, is_read}
use Rattle.web_folders.proofs.FolderLemmas.{replies_with_index}
use Rattle.web_folders.proofs.folder.Folder.folder_reply.Goals as goal

pub returns : goal.returns
returns g c =
    let self = c.args.self.now in
    let path = c.args.path.now in
    let place : c.in_ok-place.place ≡ index_of self.settings path = c.in_ok-place.ensures ∙ ap (λ v. child_of v.settings.hidden path (codes "index.html")) c.self.view_is in
    replies_with_index (g.F.FolderFiles.finds self.files) (g.F.FolderFiles.lists self.files) self.settings (record { path = c.args.target.now; query = c.args.query.now }) (record { method = c.args.method.now; headers = c.args.headers.now }) path c.args.folder.now c.in_ok-place.place c.in_ok-reply.reply (is_read c.args.method.now)
    (sym c.is_read.ensures ∙ c.if-not-is_read.false) (sym c.ends_in_slash.ensures ∙ c.if-not-ends_in_slash.false) place c.in_ok-reply.ensures
