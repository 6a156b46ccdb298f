-- The headers of variants, up to the first that is refused.
use Rattle.std.proofs.Common.{◌≡◌, ◌<◌, ℕ, ◌+◌, List, [], ◌∷◌, ◌++◌, map, length, get_or, Option, None, Some, refl, sym, ap, subst, ◌∙◌}
use Rattle.std.specs.Prelude.{Ok, Err}
use Rattle.std.proofs.lemmas.List.{append_assoc, append-nil, get_or-map, length_push}
use Rattle.web_texts.specs.Returns.{ReturnsError}
use Rattle.web_texts.specs.declared.memory.Fail.{Fail}
use Rattle.web_texts.specs.declared.memory.Fail.TheVariants as fail
use Rattle.web_variants.specs.Acceptance.{Headers}
use Rattle.web_variants.specs.StoredVariants.{fault_at, first_fault, or_fault, refusal, unless_refused, variant_headers}
use Rattle.web_variants.specs.declared.stored_variants.Variant.{Variant}
use Rattle.web_variants.specs.declared.stored_variants.VariantFault.{VariantFault}

pub kept : {T : Type 0} (x h : T) (f : Option VariantFault) → unless_refused x f ≡ Ok h → (f ≡ None) × (h ≡ x)
kept x h None e = (refl, cc)
kept x h (Some fault) e = absurd (cc)

pub refused : {T : Type 0} (x : T) (f : Option VariantFault) (fault : VariantFault) → unless_refused x f ≡ Err fault → f ≡ Some fault
refused x None fault e = absurd (cc)
refused x (Some other) fault e = cc

-- the headers of the variants before the rest, none of which is refused
pub record HeadersSoFar (stored : List Variant) (all : List Headers) (rest : List Variant) : Type 0 where
  pub headers : all ++ map variant_headers rest ≡ map variant_headers stored
  pub fault : first_fault (length all) rest ≡ first_fault 0 stored

pub so_far_none : (stored : List Variant) (all : List Headers) → all ≡ [] → HeadersSoFar stored all stored
so_far_none stored [] e = record { headers = refl; fault = refl }
so_far_none stored (h ∷ more) e = absurd (cc)

module _ (stored : List Variant) (all : List Headers) (v : Variant) (later : List Variant) (so : HeadersSoFar stored all (v ∷ later)) where
  pub so_far_more : (h : Headers) → unless_refused (variant_headers v) (fault_at (length all) v) ≡ Ok h → HeadersSoFar stored (all ++ h ∷ []) later
  so_far_more h is =
      let both = kept (variant_headers v) h (fault_at (length all) v) is in
      record {
        headers = append_assoc all (h ∷ []) (map variant_headers later) ∙ (ap (λ x. all ++ x ∷ map variant_headers later) both.1 ∙ so.headers);
        fault = ap (λ n. first_fault n later) (length_push all h)
            ∙ (sym (ap (λ f. or_fault f (first_fault (length all + 1) later)) both.0) ∙ so.fault);
      }

  pub so_far_refused : (fault : VariantFault) → unless_refused (variant_headers v) (fault_at (length all) v) ≡ Err fault
      → unless_refused (map variant_headers stored) (first_fault 0 stored) ≡ Err fault
  so_far_refused fault is =
      let first = refused (variant_headers v) (fault_at (length all) v) fault is in
      ap (unless_refused (map variant_headers stored)) (sym so.fault ∙ ap (λ f. or_fault f (first_fault (length all + 1) later)) first)

-- the same, where the headers of the next variant were asked for at its place
module _ (stored : List Variant) (all : List Headers) (rest : List Variant) (v : Variant) (later : List Variant) (split : rest ≡ v ∷ later) (so : HeadersSoFar stored all rest) (place : ℕ) (is : place ≡ length all) where
  next_so_far : HeadersSoFar stored all (v ∷ later)
  next_so_far = subst (HeadersSoFar stored all) split so

  pub one_more : (h : Headers) (more : List Headers) → unless_refused (variant_headers v) (fault_at place v) ≡ Ok h → more ≡ all ++ h ∷ [] → HeadersSoFar stored more later
  one_more h more gives pushed =
      subst (λ l. HeadersSoFar stored l later) (sym pushed)
      (so_far_more stored all v later next_so_far h (subst (λ n. unless_refused (variant_headers v) (fault_at n v) ≡ Ok h) is gives))

  pub one_refused : (e : Fail VariantFault) → ReturnsError e (unless_refused (variant_headers v) (fault_at place v)) → ReturnsError e (unless_refused (map variant_headers stored) (first_fault 0 stored))
  one_refused fail.NoMemory returns = tt
  one_refused (fail.Of fault) returns =
      so_far_refused stored all v later next_so_far fault (subst (λ n. unless_refused (variant_headers v) (fault_at n v) ≡ Err fault) is returns)

pub so_far_all : (stored : List Variant) (all : List Headers) (rest : List Variant) → rest ≡ [] → HeadersSoFar stored all rest
    → unless_refused (map variant_headers stored) (first_fault 0 stored) ≡ Ok all
so_far_all stored all [] none so =
    ap (unless_refused (map variant_headers stored)) (sym so.fault) ∙ ap Ok (sym so.headers ∙ append-nil all)
so_far_all stored all (v ∷ more) none so = absurd (cc)

-- a list with a variant is refused by its first fault
pub refusal_is : (stored : List Variant) → (stored ≡ [] → ⊥) → refusal stored ≡ first_fault 0 stored
refusal_is [] some = absurd (some refl)
refusal_is (v ∷ more) some = refl

pub headers_at : (stored : List Variant) (all : List Headers) (place : ℕ) (h : Headers) (v : Variant)
    → all ≡ map variant_headers stored → place < length stored → h ≡ get_or all place h → v ≡ get_or stored place v → h ≡ variant_headers v
headers_at stored all place h v are inside is_h is_v =
    is_h ∙ (ap (λ l. get_or l place h) are ∙ (get_or-map variant_headers stored place v h inside ∙ ap variant_headers (sym is_v)))
