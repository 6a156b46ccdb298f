-- The reply with an open file.
use Rattle.std.specs.Prelude.{◌≡◌, ℕ, ◌+◌, ◌-◌, ◌==◌, ◌&&◌, ◌||◌, Bool, List, codes}
use Rattle.std.specs.Prelude.{Option, None, Some, if◌then◌else◌}
use Rattle.http_header.specs.FieldValue.{FieldValue, plain_value}
use Rattle.http_header.specs.HeaderMap.{insert}
use Rattle.web_reply.specs.Replies.{Reply}
use Rattle.web_docs.specs.Conditions.{Headers}
use Rattle.web_docs.specs.DescribedReplies.{IsDescribedReply}
use Rattle.web_docs.specs.Descriptions.{Description}
use Rattle.web_docs.specs.declared.sends.Sends.{Sends}
use Rattle.web_docs.specs.declared.sends.Sends.TheVariants as sends
use Rattle.web_folders.specs.FileCodings.{coding_name}
use Rattle.web_folders.specs.FileDescriptions.{DescribesFile}
use Rattle.web_folders.specs.FileDispositions.{disposition_value}
use Rattle.web_folders.specs.declared.body.FolderBody.{FolderBody}
use Rattle.web_folders.specs.declared.body.FolderBody.TheVariants as body
use Rattle.web_folders.specs.declared.coding.FileCoding.{FileCoding}
use Rattle.web_folders.specs.declared.folder_files.OpenedFile.{OpenedFile}
use Rattle.web_folders.specs.declared.settings.FolderSettings.{FolderSettings}

-- a header, where there is a value of it
abbrev pub with_header : Headers → List ℕ → Option FieldValue → Headers
with_header headers name None = headers
with_header headers name (Some value) = insert headers name value

abbrev pub if_allowed : Bool → Option FieldValue → Option FieldValue
if_allowed allowed value = if allowed then value else None

-- 200 and 206
abbrev pub has_content : ℕ → Bool
has_content status = status == 200 || status == 206

-- and 304
abbrev pub is_kept : ℕ → Bool
is_kept status = has_content status || status == 304

-- what the content is, where there is some
abbrev pub content_headers : FolderSettings → List ℕ → FileCoding → Bool → Headers → Headers
content_headers s path coding content headers =
    with_header
    (with_header
    (with_header headers (codes "content-encoding") (if_allowed content (coding_name coding)))
    (codes "content-disposition") (if_allowed (content && s.dispositions) (disposition_value path)))
    (codes "x-content-type-options") (if_allowed content (Some (plain_value (codes "nosniff"))))

-- The headers that are set after those of a description: what the content is, for replies that
-- have some; how long a cache may keep it, for these and 304; and on what the choice depends, for
-- all.
abbrev pub added_headers : FolderSettings → List ℕ → FileCoding → ℕ → Headers → Headers
added_headers s path coding status headers =
    with_header
    (with_header (content_headers s path coding (has_content status) headers)
    (codes "cache-control") (if_allowed (is_kept status) s.cache_control))
    (codes "vary") (if_allowed s.compressed (Some (plain_value (codes "accept-encoding"))))

abbrev pub part_of : {F : Type 0} → F → ℕ → ℕ → FolderBody F
part_of file first count = body.File (record { file = file; first = first; count = count })

-- The bytes of the file that are sent. A 200 that sends none is that to HEAD, and says how many
-- GET would get.
abbrev pub file_body : {F : Type 0} → F → ℕ → ℕ → Sends → FolderBody F
file_body file size status sends.All = part_of file 0 size
file_body file size status (sends.Part first last) = part_of file first (last - first + 1)
file_body file size status sends.Nothing =
    if status == 200 then body.Omitted size else body.Empty

abbrev pub file_reply : {F : Type 0} → FolderSettings → List ℕ → FileCoding → OpenedFile F
    → Reply Sends → Reply (FolderBody F)
file_reply s path coding opened described = record {
  head = record described.head {
    headers = added_headers s path coding described.head.status described.head.headers;
  };
  body = file_body opened.file opened.facts.length described.head.status described.body;
  error = described.error;
}

-- Status, headers and range are those of `answer_described` for the facts that the open file gave.
pub record IsFileReply {F : Type 0} (s : FolderSettings) (method : List ℕ) (headers : Headers)
    (path : List ℕ) (coding : FileCoding) (opened : OpenedFile F) (reply : Reply (FolderBody F))
    : Type 0 where
  pub description : Description
  pub describes : DescribesFile opened.facts path description
  pub described : Reply Sends
  pub answers : IsDescribedReply description opened.facts.length method headers described
  pub is : reply ≡ file_reply s path coding opened described
