-- Each byte of a file's tag may stand in a tag.
use Rattle.std.proofs.Common.{◌≡◌, ◌∙◌, ℕ, zero, suc, ◌+◌, ◌/◌, ◌%◌, ◌<◌, ◌≤◌, ◌==◌, Bool, true, false, List, [], ◌∷◌, ◌++◌, refl, arith, nat_lt}
use Rattle.std.specs.Prelude.{codes, if◌then◌else◌}
use Rattle.std.specs.Fmt.{digit_glyph, digits, digits_onto}
use Rattle.std.specs.List.{list_all}
use Rattle.std.proofs.lemmas.Bool.{and_from}
use Rattle.std.proofs.lemmas.Bool.Decides.{nat_tests}
use Rattle.std.proofs.lemmas.List.Folds.{list_all-append}
use Rattle.web_entities.specs.EntityTags.{is_tag_byte, is_tag_text}
use Rattle.web_folders.specs.FileDescriptions.{file_tag_text, hexadecimal, time_text}
use Rattle.web_folders.specs.declared.facts.FileFacts.{FileFacts}
use Rattle.web_folders.specs.declared.facts.FileTime.{FileTime}
use Rattle.web_folders.specs.declared.facts.FileTime.TheVariants.{Since1970, Before1970}

byte_between : (b : ℕ) → 35 ≤ b → b < 127 → is_tag_byte b ≡ true
byte_between b low high = grind (arith, nat_tests)

-- a hexadecimal digit is no quote
glyph_byte : (d : ℕ) (b : Bool) → d < 16 → is_tag_byte (if b then 48 + d else 87 + d) ≡ true
glyph_byte d true h = byte_between (48 + d) (omega arith) (omega arith)
glyph_byte d false h = byte_between (87 + d) (omega arith) (omega arith)

either_bytes : (b : Bool) (x y : List ℕ) → list_all is_tag_byte x ≡ true → list_all is_tag_byte y ≡ true → list_all is_tag_byte (if b then x else y) ≡ true
either_bytes true x y left right = left
either_bytes false x y left right = right

digits_bytes : (k n : ℕ) (after : List ℕ) → list_all is_tag_byte after ≡ true → list_all is_tag_byte (digits_onto k 16 false n after) ≡ true
digits_bytes zero n after h = h
digits_bytes (suc k) n after h =
    let glyph = digit_glyph false (n % 16) in
    let more = and_from (is_tag_byte glyph) (list_all is_tag_byte after) (glyph_byte (n % 16) (nat_lt (n % 16) 10) (omega arith)) h in
    either_bytes (n / 16 == 0) (glyph ∷ after) (digits_onto k 16 false (n / 16) (glyph ∷ after)) more (digits_bytes k (n / 16) (glyph ∷ after) more)

hexadecimal_bytes : (n : ℕ) → list_all is_tag_byte (hexadecimal n) ≡ true
unfolding digits
hexadecimal_bytes n = digits_bytes 64 n [] refl

both : (xs ys : List ℕ) → list_all is_tag_byte xs ≡ true → list_all is_tag_byte ys ≡ true → list_all is_tag_byte (xs ++ ys) ≡ true
both xs ys h k = list_all-append is_tag_byte xs ys ∙ and_from (list_all is_tag_byte xs) (list_all is_tag_byte ys) h k

time_bytes : (time : FileTime) → list_all is_tag_byte (time_text time) ≡ true
time_bytes (Since1970 seconds) = hexadecimal_bytes seconds
time_bytes (Before1970 seconds) = both (codes "-") (hexadecimal seconds) refl (hexadecimal_bytes seconds)

pub tag_bytes : (f : FileFacts) → is_tag_text (file_tag_text f) ≡ true
tag_bytes f =
    both (hexadecimal f.inode) (codes ":" ++ (hexadecimal f.length ++ (codes ":" ++ (time_text f.changed ++ (codes ":" ++ hexadecimal f.nanos))))) (hexadecimal_bytes f.inode)
    (both (codes ":") (hexadecimal f.length ++ (codes ":" ++ (time_text f.changed ++ (codes ":" ++ hexadecimal f.nanos)))) refl
    (both (hexadecimal f.length) (codes ":" ++ (time_text f.changed ++ (codes ":" ++ hexadecimal f.nanos))) (hexadecimal_bytes f.length)
    (both (codes ":") (time_text f.changed ++ (codes ":" ++ hexadecimal f.nanos)) refl
    (both (time_text f.changed) (codes ":" ++ hexadecimal f.nanos) (time_bytes f.changed)
    (both (codes ":") (hexadecimal f.nanos) refl (hexadecimal_bytes f.nanos))))))
