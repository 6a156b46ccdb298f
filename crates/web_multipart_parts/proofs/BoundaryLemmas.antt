-- The first boundary, and what stands after a boundary.
use Rattle.std.proofs.Common.{◌≡◌, ℕ, suc, ◌+◌, ◌<◌, ◌≤◌, List, [], ◌++◌, length, drop, refl, ap, ◌∙◌, arith, ⊎_elim, length-append}
use Rattle.std.specs.Prelude.{max, nat_eq}
use Rattle.std.proofs.lemmas.Bool.{cases_eq, cond-true, cond-false, cond_both, eq-eqb, ne_eqb}
use Rattle.std.proofs.lemmas.List.{append-nil, drop-append-le}
use Rattle.web_multipart_parts.specs.PartHeads.{crlf}
use Rattle.web_multipart_parts.specs.Parts.{Closes, CutOff, Fails, Form, Parts, at_boundary, at_head, at_opening, behind, boundary_end, common_len, hyphens, no_part, dash_boundary, wrong_behind}
use Rattle.web_multipart_parts.specs.PartReading.{IsLater}
use Rattle.web_multipart_parts.specs.declared.part.PartError.TheVariants as part_error
use Rattle.web_multipart_parts.proofs.CommonLemmas.{common_le_bytes, common_part, common_whole, common_wrong}
use Rattle.web_multipart_parts.proofs.LaterLemmas.{behind_later, closes_later, wrong_cut, wrong_later, wrong_shown}

-- ---- the first boundary

module _ (form : Form) (left : ℕ) (came : List ℕ) where
  pub opened : common_len (dash_boundary form) came ≡ length (dash_boundary form) → (more : List ℕ)
      → at_opening form left (came ++ more) ≡ behind (length (dash_boundary form)) (at_boundary form left (drop (length (dash_boundary form)) came ++ more))
  opened is more =
      let fits : length (dash_boundary form) ≤ length came = omega (arith, is, common_le_bytes (dash_boundary form) came) in
      cond-true (nat_eq (common_len (dash_boundary form) (came ++ more)) (length (dash_boundary form))) _ _ (eq-eqb _ _ (common_whole (dash_boundary form) came more is))
      ∙ ap (λ xs. behind (length (dash_boundary form)) (at_boundary form left xs)) (drop-append-le (length (dash_boundary form)) came more fits)

  pub open_wrong : common_len (dash_boundary form) came < length came → common_len (dash_boundary form) came < length (dash_boundary form) → (more : List ℕ)
      → at_opening form left (came ++ more) ≡ no_part (Fails (common_len (dash_boundary form) came + 1) part_error.Grammar)
  open_wrong below short more =
      let same = common_wrong (dash_boundary form) came more below short in
      let far : common_len (dash_boundary form) came < length (came ++ more) = omega (arith, below, length-append came more) in
      cond-false (nat_eq (common_len (dash_boundary form) (came ++ more)) (length (dash_boundary form))) _ _ (ne_eqb _ _ (λ e. absurd (omega (arith, e, same, short))))
      ∙ (ap (λ n. wrong_behind n (came ++ more)) same ∙ wrong_shown (common_len (dash_boundary form) came) (came ++ more) far)

  module _ (is : common_len (dash_boundary form) came ≡ length came) (short : common_len (dash_boundary form) came < length (dash_boundary form)) where
    pub open_later : (more : List ℕ) → IsLater (length came) (at_opening form left (came ++ more))
    open_later more =
        cond_both (nat_eq (common_len (dash_boundary form) (came ++ more)) (length (dash_boundary form))) _ _ (IsLater (length came))
        (λ e. behind_later (length came) (length (dash_boundary form)) _ (omega (arith, is, short)))
        (λ e. wrong_later (common_len (dash_boundary form) (came ++ more)) (length came) (came ++ more) (common_part (dash_boundary form) came more is))

    pub open_cut : at_opening form left (came ++ []) ≡ no_part CutOff
    open_cut =
        ap (at_opening form left) (append-nil came)
        ∙ (cond-false (nat_eq (common_len (dash_boundary form) came) (length (dash_boundary form))) _ _ (ne_eqb _ _ (λ e. absurd (omega (arith, e, short))))
        ∙ wrong_cut (common_len (dash_boundary form) came) came is)

-- ---- after a boundary

module _ (begin : List ℕ → Parts) (came : List ℕ) where
  pub closes : common_len hyphens came ≡ 2 → (more : List ℕ) → boundary_end begin (came ++ more) ≡ no_part (Closes 2)
  closes is more = cond-true (nat_eq (common_len hyphens (came ++ more)) 2) _ _ (eq-eqb _ _ (common_whole hyphens came more is))

  pub begins : common_len hyphens came < 2 → common_len crlf came ≡ 2 → (more : List ℕ) → boundary_end begin (came ++ more) ≡ begin (came ++ more)
  begins short is more =
      let below : common_len hyphens came < length came = omega (arith, short, is, common_le_bytes crlf came) in
      let same = common_wrong hyphens came more below short in
      cond-false (nat_eq (common_len hyphens (came ++ more)) 2) _ _ (ne_eqb _ _ (λ e. absurd (omega (arith, e, same, short))))
      ∙ cond-true (nat_eq (common_len crlf (came ++ more)) 2) _ _ (eq-eqb _ _ (common_whole crlf came more is))

  module _ (one : common_len hyphens came < 2) (two : common_len crlf came < 2) where
    pub boundary_wrong : max (common_len hyphens came) (common_len crlf came) < length came → (more : List ℕ)
        → boundary_end begin (came ++ more) ≡ no_part (Fails (max (common_len hyphens came) (common_len crlf came) + 1) part_error.Grammar)
    boundary_wrong below more =
        let first = common_wrong hyphens came more (omega (arith, below)) one in
        let second = common_wrong crlf came more (omega (arith, below)) two in
        let far : max (common_len hyphens came) (common_len crlf came) < length (came ++ more) = omega (arith, below, length-append came more) in
        cond-false (nat_eq (common_len hyphens (came ++ more)) 2) _ _ (ne_eqb _ _ (λ e. absurd (omega (arith, e, first, one))))
        ∙ (cond-false (nat_eq (common_len crlf (came ++ more)) 2) _ _ (ne_eqb _ _ (λ e. absurd (omega (arith, e, second, two))))
        ∙ (ap (λ n. wrong_behind (max n (common_len crlf (came ++ more))) (came ++ more)) first
        ∙ (ap (λ n. wrong_behind (max (common_len hyphens came) n) (came ++ more)) second
        ∙ wrong_shown (max (common_len hyphens came) (common_len crlf came)) (came ++ more) far)))

    module _ (is : max (common_len hyphens came) (common_len crlf came) ≡ length came) where
      pub boundary_short : length came < 2
      boundary_short = omega (arith, is, one, two)

      reaches : (more : List ℕ) → length came ≤ max (common_len hyphens (came ++ more)) (common_len crlf (came ++ more))
      reaches more = ⊎_elim
          (λ e. let up = common_part hyphens came more e in omega (arith, up))
          (λ e. let second : common_len crlf came ≡ length came = omega (arith, is, common_le_bytes hyphens came, e) in let up = common_part crlf came more second in omega (arith, up))
          (cases_eq (common_len hyphens came) (length came))

      pub boundary_later : ((bytes : List ℕ) → IsLater (length came) (begin bytes)) → (more : List ℕ) → IsLater (length came) (boundary_end begin (came ++ more))
      boundary_later later more =
          cond_both (nat_eq (common_len hyphens (came ++ more)) 2) _ _ (IsLater (length came))
          (λ e. closes_later (length came) 2 (omega (arith, is, one, two)))
          (λ e. cond_both (nat_eq (common_len crlf (came ++ more)) 2) _ _ (IsLater (length came))
          (λ d. later (came ++ more))
          (λ d. wrong_later (max (common_len hyphens (came ++ more)) (common_len crlf (came ++ more))) (length came) (came ++ more) (reaches more)))

      pub boundary_cut : boundary_end begin (came ++ []) ≡ no_part CutOff
      boundary_cut =
          ap (boundary_end begin) (append-nil came)
          ∙ (cond-false (nat_eq (common_len hyphens came) 2) _ _ (ne_eqb _ _ (λ e. absurd (omega (arith, e, one))))
          ∙ (cond-false (nat_eq (common_len crlf came) 2) _ _ (ne_eqb _ _ (λ e. absurd (omega (arith, e, two))))
          ∙ wrong_cut (max (common_len hyphens came) (common_len crlf came)) came is))

pub boundary_zero : (form : Form) (bytes : List ℕ) → at_boundary form 0 bytes ≡ boundary_end (λ more. no_part (Fails 2 part_error.TooMany)) bytes
unfolding at_boundary
boundary_zero form bytes = refl

pub boundary_suc : (form : Form) (n : ℕ) (bytes : List ℕ) → at_boundary form (suc n) bytes ≡ boundary_end (at_head form (at_boundary form n)) bytes
unfolding at_boundary
boundary_suc form n bytes = refl
