use Rattle.web_folders.proofs.folder.list_folder.Goals as goal

pub returns : goal.returns
returns g c = rw c.if-not-settings.false (_, c.in_ok-entries.ensures, c.in_ok-reply.ensures)
