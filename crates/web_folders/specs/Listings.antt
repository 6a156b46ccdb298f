-- The page that lists a folder.
use Rattle.std.specs.Prelude.{ℕ, ◌==◌, Bool, true, false, List, [], ◌++◌, codes, flat_map}
use Rattle.std.specs.Prelude.{encode_utf8, length, not}
use Rattle.std.specs.Prelude.{Option, None, Some, if◌then◌else◌}
use Rattle.std.specs.Str.{chars}
use Rattle.std.specs.Cmp.Lexicographic.{slice_cmp}
use Rattle.std.specs.Ordering.{bool_cmp, nat_cmp, ordering_then}
use Rattle.std.specs.declared.cmp.Ordering.{Ordering}
use Rattle.std.specs.List.Sorted.{IsPermutation, IsSorted}
use Rattle.percent_encoding.specs.Percent.{percent_encode}
use Rattle.web_paths.specs.FileNames.{is_file_name}
use Rattle.web_paths.specs.declared.names.HiddenNames.{HiddenNames}
use Rattle.web_folders.specs.declared.entry.FolderEntry.{FolderEntry}
use Rattle.web_folders.specs.declared.listing.TheConstants.{LINK_ESCAPES}

-- how a character is written where it would not stand for itself
abbrev pub escape_of : ℕ → Option (List ℕ)
escape_of c =
    if c == 38 then Some (codes "&amp;")
    else if c == 60 then Some (codes "&lt;")
    else if c == 62 then Some (codes "&gt;")
    else if c == 34 then Some (codes "&quot;")
    else if c == 39 then Some (codes "&#39;")
    else None

abbrev pub escape_or_itself : ℕ → Option (List ℕ) → List ℕ
escape_or_itself c None = encode_utf8 c
escape_or_itself c (Some escape) = escape

abbrev pub escaped_char : ℕ → List ℕ
escaped_char c = escape_or_itself c (escape_of c)

-- a text as HTML shows it
abbrev pub escaped : List ℕ → List ℕ
escaped text = flat_map escaped_char (chars text)

abbrev pub slash_if : Bool → List ℕ
slash_if true = codes "/"
slash_if false = []

-- a link to an entry, with a slash after the name of a folder
abbrev pub entry_line : FolderEntry → List ℕ
entry_line e =
    codes "<li><a href=\"" ++ (percent_encode LINK_ESCAPES e.name ++ (slash_if e.is_folder
    ++ (codes "\">" ++ (escaped e.name ++ (slash_if e.is_folder ++ codes "</a>\n")))))

-- nothing for a name that may not be served
abbrev pub allowed_line : HiddenNames → FolderEntry → List ℕ
allowed_line hidden e = if is_file_name hidden e.name then entry_line e else []

abbrev pub folder_title : List ℕ → List ℕ
folder_title path =
    codes "Index of /" ++ (escaped path ++ slash_if (not (length path == 0)))

abbrev pub page_head : List ℕ → List ℕ
page_head path =
    codes "<!doctype html>\n<html lang=\"en\">\n<meta charset=\"utf-8\">\n<title>"
    ++ (folder_title path ++ (codes "</title>\n<h1>"
    ++ (folder_title path ++ codes "</h1>\n<ul>\n")))

-- the link to the folder above, but for the root
abbrev pub parent_line : List ℕ → List ℕ
parent_line path =
    if length path == 0 then [] else codes "<li><a href=\"../\">../</a>\n"

-- the page of a folder at this path, with these entries in their order
abbrev pub listing_page : List ℕ → HiddenNames → List FolderEntry → List ℕ
listing_page path hidden entries =
    page_head path ++ (parent_line path
    ++ (flat_map (allowed_line hidden) entries ++ codes "</ul>\n</html>\n"))

-- by name, and a file before a folder of the same name
abbrev pub entry_cmp : FolderEntry → FolderEntry → Ordering
entry_cmp a b =
    ordering_then (slice_cmp nat_cmp a.name b.name) (bool_cmp a.is_folder b.is_folder)

-- the entries, in the order of their names
pub record IsSortedFolder (entries sorted : List FolderEntry) : Type 0 where
  pub same : IsPermutation entries sorted
  pub rises : IsSorted entry_cmp sorted
