-- What a reply says of a file, by what the open file says of itself.
use Rattle.std.specs.Prelude.{◌≡◌, ◌≤◌, ℕ, false, List, ◌++◌, codes}
use Rattle.std.specs.Prelude.{Option, None, Some}
use Rattle.std.specs.Fmt.{digits}
use Rattle.http_header.specs.FieldValue.{plain_value}
use Rattle.httpdate.specs.Date.{unix_secs}
use Rattle.httpdate.specs.declared.date.HttpDate.{HttpDate}
use Rattle.web_docs.specs.Descriptions.{Description}
use Rattle.web_entities.specs.EntityTags.{Tag}
use Rattle.web_folders.specs.FileMediaTypes.{media_type_of}
use Rattle.web_folders.specs.declared.facts.FileFacts.{FileFacts}
use Rattle.web_folders.specs.declared.facts.FileTime.{FileTime}
use Rattle.web_folders.specs.declared.facts.FileTime.TheVariants.{Since1970, Before1970}

abbrev pub hexadecimal : ℕ → List ℕ
hexadecimal n = digits 16 false n

abbrev pub time_text : FileTime → List ℕ
time_text (Since1970 seconds) = hexadecimal seconds
time_text (Before1970 seconds) = codes "-" ++ hexadecimal seconds

-- inode, length, seconds and nanoseconds
abbrev pub file_tag_text : FileFacts → List ℕ
file_tag_text f = hexadecimal f.inode ++ (codes ":" ++ (hexadecimal f.length
    ++ (codes ":" ++ (time_text f.changed ++ (codes ":" ++ hexadecimal f.nanos)))))

-- a strong tag of them
abbrev pub file_tag : FileFacts → Tag
file_tag f = record { weak = false; tag = file_tag_text f }

-- The date of the second in which a file was changed. A time before 1970 or after the year 9999 has
-- none.
abbrev pub IsLastChange : FileTime → Option HttpDate → Type 0
IsLastChange (Since1970 seconds) None = 253402300800 ≤ seconds
IsLastChange (Since1970 seconds) (Some date) = unix_secs date ≡ seconds
IsLastChange (Before1970 seconds) date = date ≡ None

-- its media type by its name, its tag and its date by its facts
pub record DescribesFile (f : FileFacts) (path : List ℕ) (d : Description) : Type 0 where
  pub media_type : d.media_type ≡ plain_value (media_type_of path)
  pub tag : d.tag ≡ file_tag f
  pub modified : IsLastChange f.changed d.modified
