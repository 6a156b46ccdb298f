-- Quoted text in which nothing is escaped.
use Rattle.std.proofs.Common.{◌≡◌, ◌++◌, ◌∷◌, [], ℕ, List, refl, false, encode_utf8_all}
use Rattle.std.specs.List.{flat_map}
use Rattle.std.proofs.lemmas.Grind.{flat_map-append}
use Rattle.std.proofs.lemmas.Str.{encodes-append}
use Rattle.web_entities.specs.DispositionTexts.{is_escaped, escaped_char}

pub plain_more : (cs : List ℕ) (c : ℕ) → flat_map escaped_char cs ≡ encode_utf8_all cs → is_escaped c ≡ false → flat_map escaped_char (cs ++ c ∷ []) ≡ encode_utf8_all (cs ++ c ∷ [])
plain_more cs c before none = rw (flat_map-append escaped_char cs (c ∷ [])) (rw (encodes-append cs (c ∷ [])) (rw before (rw none refl)))
