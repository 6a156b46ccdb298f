-- The reply for a folder, by what was tested.
use Rattle.std.proofs.Common.{◌≡◌, Bool, true, List, Option, sym, subst}
use Rattle.web_reply.specs.Replies.{Reply}
use Rattle.web_paths.specs.PathsBelow.{NamesBelow}
use Rattle.web_folders.specs.FolderReplies.{Asked, RepliesWithFolder, RepliesWithIndex, SendsFolder, Target, index_of}
use Rattle.web_folders.specs.declared.body.FolderBody.{FolderBody}
use Rattle.web_folders.specs.declared.entry.FolderEntry.{FolderEntry}
use Rattle.web_folders.specs.declared.folder_files.Found.{Found}
use Rattle.web_folders.specs.declared.settings.FolderSettings.{FolderSettings}

pub replies_with_index : {F D : Type 0} (finds : NamesBelow → Found F D → Type 0) (lists : D → Option (List FolderEntry) → Type 0) (s : FolderSettings) (target : Target) (asked : Asked) (path : NamesBelow) (folder : D) (place : Option NamesBelow) (reply : Reply (FolderBody F)) (reads : Bool) → reads ≡ true → path.ends_in_slash ≡ true → place ≡ index_of s path → RepliesWithIndex finds lists s asked path folder place reply → RepliesWithFolder finds lists s target asked path folder reads reply
replies_with_index finds lists s target asked path folder place reply reads read slash is h =
    subst (λ b. RepliesWithFolder finds lists s target asked path folder b reply) (sym read)
    (subst (λ b. SendsFolder finds lists s target asked path folder b reply) (sym slash)
    (subst (λ p. RepliesWithIndex finds lists s asked path folder p reply) is h))
