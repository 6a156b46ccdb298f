-- What the file of a form is answered with.
use Rattle.std.specs.Prelude.{ℕ, ◌++◌, List, Option, None, Some, codes, decimal, length}
use Rattle.std.specs.List.{find}
use Rattle.std.specs.Str.{bytes_eq}
use Rattle.web_multipart_parts.specs.declared.part.Part.{Part}

-- the first part of this name
abbrev pub part_named : List ℕ → List Part → Option Part
part_named name parts = find (λ p. bytes_eq p.name name) parts

-- 201 with the number of the file's bytes, or 400
abbrev pub receipt_by : Option Part → List ℕ × ℕ
receipt_by None = (codes "a file is missing", 400)
receipt_by (Some file) = (decimal (length file.body) ++ codes " bytes", 201)

-- the file of a form is the first part of the name `file`
abbrev pub receipt_of : List Part → List ℕ × ℕ
receipt_of parts = receipt_by (part_named (codes "file") parts)
