-- The text of `type/*` ends in a slash and an asterisk.
use Rattle.std.proofs.Common.{◌≡◌, ◌&&◌, ◌∷◌, ◌++◌, ℕ, Bool, true, false, List, [], Option, None, Some, refl, ap, ◌∙◌}
use Rattle.std.specs.Prelude.{codes, is_none}
use Rattle.std.specs.List.{ends_with}
use Rattle.std.specs.Str.{bytes_eq}
use Rattle.std.proofs.lemmas.Bool.Decides.{Decides-eqb}
use Rattle.std.proofs.lemmas.Slice.Eq.{bytes_eq-Decides, ends_is}
use Rattle.web_texts.specs.MediaTypes.{MediaType, essence_of, suffix_text}
use Rattle.web_variants.specs.Acceptance.{is_any_subtype}
use lib.Dec.{eqb}

left_true : (a b : Bool) → (a && b) ≡ true → a ≡ true
left_true true b e = refl
left_true false b e = absurd (cc)

right_true : (a b : Bool) → (a && b) ≡ true → b ≡ true
right_true true b e = e
right_true false b e = absurd (cc)

no_suffix : (suffix : Option (List ℕ)) → is_none suffix ≡ true → suffix_text suffix ≡ []
no_suffix None e = refl
no_suffix (Some text) e = absurd (cc)

any_text : (type_ subtype : List ℕ) (suffix : Option (List ℕ)) (same : Bool) → (same && (bytes_eq subtype (codes "*") && is_none suffix)) ≡ true
    → type_ ++ 47 ∷ (subtype ++ suffix_text suffix) ≡ type_ ++ codes "/*"
any_text type_ subtype suffix same all =
    let rest = right_true same (bytes_eq subtype (codes "*") && is_none suffix) all in
    let star : subtype ≡ codes "*" = (bytes_eq-Decides subtype (codes "*")).0 (left_true (bytes_eq subtype (codes "*")) (is_none suffix) rest) in
    ap (λ l. type_ ++ 47 ∷ (l ++ suffix_text suffix)) star
    ∙ ap (λ l. type_ ++ 47 ∷ (codes "*" ++ l)) (no_suffix suffix (right_true (bytes_eq subtype (codes "*")) (is_none suffix) rest))

pub any_ends : (item m : MediaType) (r : Bool) → r ≡ ends_with eqb (essence_of item) (codes "/*") → is_any_subtype m item ≡ true → r ≡ true
any_ends item m r ends any =
    (ends_is Decides-eqb (essence_of item) (codes "/*") r ends).1 item.type_ (any_text item.type_ item.subtype item.suffix (bytes_eq item.type_ m.type_) any)
