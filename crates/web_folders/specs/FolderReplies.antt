-- The reply to a request for what stands in a folder.
use Rattle.std.specs.Prelude.{◌≡◌, ℕ, ◌==◌, ◌&&◌, ◌||◌, Bool, true, false, List, [], ◌∷◌, ◌++◌}
use Rattle.std.specs.Prelude.{Option, None, Some, codes, length, is_some, if◌then◌else◌}
use Rattle.http_header.specs.FieldValue.{FieldValue, plain_value}
use Rattle.web_reply.specs.Replies.{Reply, bare_reply}
use Rattle.web_docs.specs.Conditions.{Headers, values}
use Rattle.web_docs.specs.DescribedReplies.{reply_with}
use Rattle.web_docs.specs.Documents.{field_value_of}
use Rattle.web_docs.specs.Verdicts.{is_get, is_head}
use Rattle.web_paths.specs.PathsBelow.{NamesBelow, below_of, child_of, joined, sibling_of}
use Rattle.web_folders.specs.FileCodings.{SendsCoding}
use Rattle.web_folders.specs.FileReplies.{IsFileReply}
use Rattle.web_folders.specs.Listings.{IsSortedFolder, listing_page}
use Rattle.web_folders.specs.declared.body.FolderBody.{FolderBody}
use Rattle.web_folders.specs.declared.body.FolderBody.TheVariants as body
use Rattle.web_folders.specs.declared.coding.FileCoding.{FileCoding}
use Rattle.web_folders.specs.declared.coding.FileCoding.TheVariants as file
use Rattle.web_folders.specs.declared.entry.FolderEntry.{FolderEntry}
use Rattle.web_folders.specs.declared.folder_files.Found.{Found}
use Rattle.web_folders.specs.declared.folder_files.Found.TheVariants as found
use Rattle.web_folders.specs.declared.folder_files.OpenedFile.{OpenedFile}
use Rattle.web_folders.specs.declared.settings.FolderSettings.{FolderSettings}

-- ---- replies without a file

abbrev pub not_found : {F : Type 0} → Reply (FolderBody F)
not_found = bare_reply 404 body.Empty

abbrev pub failed : {F : Type 0} → Reply (FolderBody F)
failed = bare_reply 500 body.Empty

abbrev pub is_read : List ℕ → Bool
is_read method = is_get method || is_head method

abbrev pub no_such_method : {F : Type 0} → Reply (FolderBody F)
no_such_method =
    reply_with 405 ((codes "allow", plain_value (codes "GET, HEAD") ∷ []) ∷ []) body.Empty

abbrev pub query_text : List ℕ → List ℕ
query_text query = if length query == 0 then [] else codes "?" ++ query

-- a path with a slash after it, and the query
abbrev pub with_slash : List ℕ → List ℕ → List ℕ
with_slash path query = path ++ (codes "/" ++ query_text query)

abbrev pub moved_to : {F : Type 0} → Option FieldValue → Reply (FolderBody F)
moved_to None = not_found
moved_to (Some location) = reply_with 301 ((codes "location", location ∷ []) ∷ []) body.Empty

-- 301 to there, where a header can have it
abbrev pub moved_reply : {F : Type 0} → List ℕ → List ℕ → Reply (FolderBody F)
moved_reply path query = moved_to (field_value_of (with_slash path query))

abbrev pub page_headers : Headers
page_headers =
    (codes "content-type", plain_value (codes "text/html; charset=utf-8") ∷ [])
    ∷ (codes "content-security-policy", plain_value (codes "default-src 'none'") ∷ [])
    ∷ (codes "x-content-type-options", plain_value (codes "nosniff") ∷ []) ∷ []

-- HEAD is told how many bytes GET would get.
abbrev pub page_body : {F : Type 0} → List ℕ → List ℕ → FolderBody F
page_body method page =
    if is_head method then body.Omitted (length page) else body.Page page

abbrev pub listing_reply : {F : Type 0} → List ℕ → List ℕ → Reply (FolderBody F)
listing_reply method page = reply_with 200 page_headers (page_body method page)

-- ---- a file and what stands beside it

-- a file that was found, and nothing of a folder
abbrev pub file_in : {F D : Type 0} → Found F D → Option (OpenedFile F)
file_in (found.File opened) = Some opened
file_in (found.Folder folder) = None
file_in found.Nothing = None
file_in found.Failed = None

-- the file at a path, where there is a path
abbrev pub FindsFile : {F D : Type 0} → (NamesBelow → Found F D → Type 0) → Option NamesBelow
    → Option (OpenedFile F) → Type 0
FindsFile finds None opened = opened ≡ None
FindsFile {F} {D} finds (Some path) opened =
    (x : Found F D) × finds path x × (opened ≡ file_in x)

-- the coding and the file that are sent, where the file in that coding is there
abbrev pub sent_file : {F : Type 0} → FileCoding → OpenedFile F → Option (OpenedFile F)
    → Option (OpenedFile F) → FileCoding × OpenedFile F
sent_file file.Brotli plain (Some coded) gzip = (file.Brotli, coded)
sent_file file.Gzip plain brotli (Some coded) = (file.Gzip, coded)
sent_file coding plain brotli gzip = (file.Identity, plain)

-- what a request asks besides its path
pub record Asked : Type 0 where
  pub method : List ℕ
  pub headers : Headers

-- The reply with the file, or with a coding of it that stands beside it. Tag, length and date are
-- those of the file that is sent.
pub record IsVariantReply {F D : Type 0} (finds : NamesBelow → Found F D → Type 0)
    (s : FolderSettings) (asked : Asked) (path : NamesBelow) (plain : OpenedFile F)
    (reply : Reply (FolderBody F)) : Type 0 where
  pub brotli : Option (OpenedFile F)
  pub finds_brotli : FindsFile finds (sibling_of path (codes ".br")) brotli
  pub gzip : Option (OpenedFile F)
  pub finds_gzip : FindsFile finds (sibling_of path (codes ".gz")) gzip
  pub coding : FileCoding
  pub sends : SendsCoding asked.headers (is_some brotli) (is_some gzip) coding
  pub is : IsFileReply s asked.method asked.headers (joined path.names)
      (sent_file coding plain brotli gzip).0 (sent_file coding plain brotli gzip).1 reply

abbrev pub is_some_value : List (List ℕ) → Bool
is_some_value [] = false
is_some_value (first ∷ more) = true

abbrev pub asks_for_coding : Headers → Bool
asks_for_coding headers = is_some_value (values (codes "accept-encoding") headers)

-- Without Accept-Encoding the file as it is is sent, and nothing beside it is looked for.
abbrev pub looks_for_codings : FolderSettings → Headers → Bool
looks_for_codings s headers = s.compressed && asks_for_coding headers

-- by whether codings are looked for
abbrev pub RepliesWithFile : {F D : Type 0} → (NamesBelow → Found F D → Type 0) → FolderSettings
    → Asked → NamesBelow → OpenedFile F → Bool → Reply (FolderBody F) → Type 0
RepliesWithFile finds s asked path plain true reply =
    IsVariantReply finds s asked path plain reply
RepliesWithFile finds s asked path plain false reply =
    IsFileReply s asked.method asked.headers (joined path.names) file.Identity plain reply

-- the reply with the file at this path
abbrev pub SendsFile : {F D : Type 0} → (NamesBelow → Found F D → Type 0) → FolderSettings
    → Asked → NamesBelow → OpenedFile F → Reply (FolderBody F) → Type 0
SendsFile finds s asked path plain reply =
    RepliesWithFile finds s asked path plain (looks_for_codings s asked.headers) reply

-- ---- a folder

abbrev pub ListsEntries : {F : Type 0} → FolderSettings → Asked → NamesBelow
    → Option (List FolderEntry) → Reply (FolderBody F) → Type 0
ListsEntries s asked path None reply = reply ≡ not_found
ListsEntries s asked path (Some entries) reply =
    (sorted : List FolderEntry) × IsSortedFolder entries sorted
    × (reply ≡ listing_reply asked.method (listing_page (joined path.names) s.hidden sorted))

-- the list of a folder, where folders are listed
abbrev pub ListsFolder : {F D : Type 0} → (D → Option (List FolderEntry) → Type 0)
    → FolderSettings → Asked → NamesBelow → D → Bool → Reply (FolderBody F) → Type 0
ListsFolder lists s asked path folder false reply = reply ≡ not_found
ListsFolder lists s asked path folder true reply =
    (entries : Option (List FolderEntry)) × lists folder entries
    × ListsEntries s asked path entries reply

-- the index at this place, or else the list of the folder
abbrev pub SendsIndex : {F D : Type 0} → (NamesBelow → Found F D → Type 0)
    → (D → Option (List FolderEntry) → Type 0) → FolderSettings → Asked → NamesBelow → D
    → NamesBelow → Option (OpenedFile F) → Reply (FolderBody F) → Type 0
SendsIndex finds lists s asked path folder place (Some index) reply =
    SendsFile finds s asked place index reply
SendsIndex finds lists s asked path folder place None reply =
    ListsFolder lists s asked path folder s.lists reply

-- What is found at the place of the index is sent. A place that may not be named has none.
abbrev pub RepliesWithIndex : {F D : Type 0} → (NamesBelow → Found F D → Type 0)
    → (D → Option (List FolderEntry) → Type 0) → FolderSettings → Asked → NamesBelow → D
    → Option NamesBelow → Reply (FolderBody F) → Type 0
RepliesWithIndex finds lists s asked path folder None reply =
    ListsFolder lists s asked path folder s.lists reply
RepliesWithIndex {F} {D} finds lists s asked path folder (Some place) reply =
    (x : Found F D) × finds place x
    × SendsIndex finds lists s asked path folder place (file_in x) reply

abbrev pub index_of : FolderSettings → NamesBelow → Option NamesBelow
index_of s path = child_of s.hidden path (codes "index.html")

-- the target of a request
pub record Target : Type 0 where
  pub path : List ℕ
  pub query : List ℕ

-- by whether a slash ended the path: 301 to that, or the index or the list
abbrev pub SendsFolder : {F D : Type 0} → (NamesBelow → Found F D → Type 0)
    → (D → Option (List FolderEntry) → Type 0) → FolderSettings → Target → Asked → NamesBelow → D
    → Bool → Reply (FolderBody F) → Type 0
SendsFolder finds lists s target asked path folder false reply =
    reply ≡ moved_reply target.path target.query
SendsFolder finds lists s target asked path folder true reply =
    RepliesWithIndex finds lists s asked path folder (index_of s path) reply

-- by whether the method reads
abbrev pub RepliesWithFolder : {F D : Type 0} → (NamesBelow → Found F D → Type 0)
    → (D → Option (List FolderEntry) → Type 0) → FolderSettings → Target → Asked → NamesBelow → D
    → Bool → Reply (FolderBody F) → Type 0
RepliesWithFolder finds lists s target asked path folder false reply = reply ≡ no_such_method
RepliesWithFolder finds lists s target asked path folder true reply =
    SendsFolder finds lists s target asked path folder path.ends_in_slash reply

-- ---- what is at a path

-- by whether a slash ended the path, which no file has
abbrev pub SendsFileAt : {F D : Type 0} → (NamesBelow → Found F D → Type 0) → FolderSettings
    → Asked → NamesBelow → OpenedFile F → Bool → Reply (FolderBody F) → Type 0
SendsFileAt finds s asked path opened true reply = reply ≡ not_found
SendsFileAt finds s asked path opened false reply = SendsFile finds s asked path opened reply

abbrev pub SendsFound : {F D : Type 0} → (NamesBelow → Found F D → Type 0)
    → (D → Option (List FolderEntry) → Type 0) → FolderSettings → Target → Asked → NamesBelow
    → Found F D → Reply (FolderBody F) → Type 0
SendsFound finds lists s target asked path (found.File opened) reply =
    SendsFileAt finds s asked path opened path.ends_in_slash reply
SendsFound finds lists s target asked path (found.Folder folder) reply =
    RepliesWithFolder finds lists s target asked path folder (is_read asked.method) reply
SendsFound finds lists s target asked path found.Nothing reply = reply ≡ not_found
SendsFound finds lists s target asked path found.Failed reply = reply ≡ failed

-- What the path names below the folder is found, and sent. There is nothing where it names none.
abbrev pub SendsBelow : {F D : Type 0} → (NamesBelow → Found F D → Type 0)
    → (D → Option (List FolderEntry) → Type 0) → FolderSettings → Target → Asked
    → Option NamesBelow → Reply (FolderBody F) → Type 0
SendsBelow finds lists s target asked None reply = reply ≡ not_found
SendsBelow {F} {D} finds lists s target asked (Some path) reply =
    (x : Found F D) × finds path x × SendsFound finds lists s target asked path x reply

-- the reply to a request for this path in a folder
abbrev pub IsFolderReply : {F D : Type 0} → (NamesBelow → Found F D → Type 0)
    → (D → Option (List FolderEntry) → Type 0) → FolderSettings → Target → Asked → List ℕ
    → Reply (FolderBody F) → Type 0
IsFolderReply finds lists s target asked path reply =
    SendsBelow finds lists s target asked (below_of s.hidden path) reply
