-- The verdict on a request without headers, and on one that asks for no range.
use Rattle.std.proofs.Common.{◌≡◌, ℕ, Bool, true, false, List, [], ◌∷◌, ◌==◌, length, Option, None, Some, refl, ap, ◌∙◌, arith}
use Rattle.std.specs.Prelude.{◌||◌, codes, not, if◌then◌else◌}
use Rattle.std.proofs.lemmas.Bool.{cond-false}
use Rattle.std.proofs.lemmas.Bool.Decides.{nat_tests}
use Rattle.httpdate.specs.declared.date.HttpDate.{HttpDate}
use Rattle.web_headers.specs.HeaderReaders.{one_value_of}
use Rattle.web_entities.specs.ByteRanges.{one_range, range_of}
use Rattle.web_entities.specs.EntityTags.{Tag}
use Rattle.web_entities.specs.declared.ranges.ByteRangeSpec.{ByteRangeSpec}
use Rattle.web_docs.specs.Conditions.{Headers, values}
use Rattle.web_docs.specs.Verdicts.{is_get, is_head, part_or_all, verdict_of, wanted_range}
use Rattle.web_docs.specs.declared.verdict.Verdict.TheVariants as verdict

none_either_way : (b : Bool) (range : Option ByteRangeSpec) → range ≡ None → (if b then range else None) ≡ None
none_either_way true range none = none
none_either_way false range none = refl

-- ---- a request that asks for no range

module _ (method : List ℕ) (headers : Headers) (tag : Tag) (modified : Option HttpDate) where
  pub no_range : one_range (one_value_of range_of (values (codes "range") headers)) ≡ None → wanted_range method headers tag modified ≡ None
  no_range none = none_either_way _ _ none

-- ---- a request without headers

pub no_header : (headers : Headers) → (length headers == 0) ≡ true → headers ≡ []
no_header [] is = refl
no_header (h ∷ more) is = absurd (grind (arith, nat_tests))

-- with a date and without one
bare_verdict : (method : List ℕ) (tag : Tag) (modified : Option HttpDate) → (is_get method || is_head method) ≡ true → verdict_of method [] tag modified ≡ verdict.All
bare_verdict method tag None allowed =
    cond-false (not (is_get method || is_head method)) _ _ (ap not allowed)
    ∙ ap part_or_all (no_range method [] tag None refl)
bare_verdict method tag (Some date) allowed =
    cond-false (not (is_get method || is_head method)) _ _ (ap not allowed)
    ∙ ap part_or_all (no_range method [] tag (Some date) refl)

pub all_of_it : (method : List ℕ) (tag : Tag) (modified : Option HttpDate) (headers : Headers) → (length headers == 0) ≡ true → (is_get method || is_head method) ≡ true → verdict_of method headers tag modified ≡ verdict.All
all_of_it method tag modified headers none allowed =
    ap (λ h. verdict_of method h tag modified) (no_header headers none) ∙ bare_verdict method tag modified allowed
