-- The text about the parts of a body.
use Rattle.std.specs.Prelude.{ℕ, List, ◌++◌, length, decimal}
use Rattle.std.specs.List.{join_by}
use Rattle.web_multipart_parts.specs.declared.part.Part.{Part}
use Rattle.demo_content.specs.DemoTexts.{bar, space, text_or_dash}

-- the name, that of the file, and the size of the content
abbrev pub part_text : Part → List ℕ
part_text p =
    p.name ++ (space ++ (text_or_dash p.filename ++ (space ++ decimal (length p.body))))

-- the parts, with vertical bars between
abbrev pub parts_text : List Part → List ℕ
parts_text parts = join_by part_text bar parts
