-- A target that has none of the bytes that are encoded.
use Rattle.std.proofs.Common.{◌≡◌, ℕ, ◌∷◌, ◌++◌, [], Bool, true, false, List, flat_map, refl, sym, ap, ◌∙◌, subst}
use Rattle.std.specs.Prelude.{◌||◌, ◌==◌, if◌then◌else◌}
use Rattle.std.specs.List.{list_any}
use Rattle.web_messages.specs.declared.limits.HeadChecks.{HeadChecks}
use Rattle.web_messages.specs.Heads.{encoded_byte, is_delimiter, read_target}

none_of : (A : Type 0) (p q r : Bool) (x y z w : A) → (p || q || r) ≡ false → (if p then x else if q then y else if r then z else w) ≡ w
none_of A true q r x y z w e = absurd (cc)
none_of A false true r x y z w e = absurd (cc)
none_of A false false true x y z w e = absurd (cc)
none_of A false false false x y z w e = refl

neither : (p q : Bool) → (p || q) ≡ false → (p ≡ false) × (q ≡ false)
neither true q e = absurd (cc)
neither false true e = absurd (cc)
neither false false e = (refl, refl)

pub plain_target : (target : List ℕ) → list_any is_delimiter target ≡ false → flat_map encoded_byte target ≡ target
plain_target [] e = refl
plain_target (b ∷ target) e =
    let both = neither (is_delimiter b) (list_any is_delimiter target) e in
    ap (λ (t : List ℕ). t ++ flat_map encoded_byte target) (none_of (List ℕ) (b == 34) (b == 60) (b == 62) _ _ _ (b ∷ []) both.0)
    ∙ ap (λ (t : List ℕ). b ∷ t) (plain_target target both.1)

either : (b : Bool) (x y : List ℕ) → x ≡ y → y ≡ (if b then x else y)
either true x y e = sym e
either false x y e = refl

pub as_it_is : (checks : HeadChecks) (target now : List ℕ) → now ≡ target → list_any is_delimiter now ≡ false → target ≡ read_target checks target
as_it_is checks target now is none =
    either checks.encode (flat_map encoded_byte target) target (plain_target target (subst (λ (t : List ℕ). list_any is_delimiter t ≡ false) is none))
