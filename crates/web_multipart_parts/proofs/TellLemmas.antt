-- What a step tells.
use Rattle.std.proofs.Common.{◌≡◌, ℕ, zero, suc, ◌+◌, ◌-◌, ◌<◌, ◌≤◌, List, [], ◌++◌, length, take, drop, refl, sym, ap, ◌∙◌, arith, subst, length-drop}
use Rattle.std.specs.Prelude.{max}
use Rattle.std.proofs.lemmas.List.{take_rest}
use Rattle.web_multipart_parts.specs.PartHeads.{crlf}
use Rattle.web_multipart_parts.specs.Parts.{Closes, CutOff, Fails, Form, Parts, at_boundary, at_head, common_len, hyphens, no_part, dash_boundary, part_of}
use Rattle.web_multipart_parts.specs.PartReading.{GivesEnd, GivesPart, GoesOn, IsLater, Reader, Waits, rank}
use Rattle.web_multipart_parts.specs.PartSteps.{ContentGives, FailsHead, FindsHead, HeadGives, OpeningGives}
use Rattle.web_multipart_parts.specs.declared.part.Part.{Part}
use Rattle.web_multipart_parts.specs.declared.part.PartError.{PartError}
use Rattle.web_multipart_parts.specs.declared.part.PartError.TheVariants as part_error
use Rattle.web_multipart_parts.specs.declared.part_head.PartHead.{PartHead}
use Rattle.web_multipart_parts.specs.declared.part_machine.ContentStep.TheVariants as content
use Rattle.web_multipart_parts.specs.declared.part_machine.HeadStep.TheVariants as head
use Rattle.web_multipart_parts.specs.declared.part_machine.OpeningStep.{OpeningStep}
use Rattle.web_multipart_parts.specs.declared.part_machine.PartState.{PartState}
use Rattle.web_multipart_parts.specs.declared.part_machine.PartState.TheVariants as place
use Rattle.web_multipart_parts.proofs.BoundaryLemmas.{begins, boundary_cut, boundary_later, boundary_short, boundary_suc, boundary_wrong, boundary_zero, closes, open_cut, open_later, open_wrong, opened}
use Rattle.web_multipart_parts.proofs.CommonLemmas.{common_le_bytes}
use Rattle.web_multipart_parts.proofs.ContentLemmas.{content_cut, content_found, content_waits, head_cut, head_fits, head_found, head_later, head_waits}
use Rattle.web_multipart_parts.proofs.LaterLemmas.{behind_zero, fails_later}
use Rattle.web_multipart_parts.proofs.PlaceLemmas.{place_fits}
use Rattle.web_multipart_parts.proofs.StepLemmas.{goes_nowhere}

abbrev reader : Form → PartState → ℕ → List ℕ → Reader
reader form place left came = record { form = form; place = place; left = left; came = came }

-- ---- an opening

pub opening_is : (delimiter came : List ℕ) (s : OpeningStep) → OpeningGives (take (length delimiter - 2) (drop 2 delimiter)) came s → OpeningGives (drop 2 delimiter) came s
opening_is delimiter came s gives = subst (λ (text : List ℕ). OpeningGives text came s) (take_rest delimiter 2) gives

module _ (form : Form) (left : ℕ) (came : List ℕ) where
  pub opened_fits : common_len (dash_boundary form) came ≡ length (dash_boundary form) → (n : ℕ) → n ≡ length form.delimiter → n - 2 ≤ length came
  opened_fits is n size = omega (arith, is, size, common_le_bytes (dash_boundary form) came, length-drop 2 form.delimiter)

  pub opened_tells : common_len (dash_boundary form) came ≡ length (dash_boundary form) → (n : ℕ) → n ≡ length form.delimiter → (rest : List ℕ) → rest ≡ drop (n - 2) came → (p : PartState) → p ≡ place.Boundary
      → GoesOn (reader form place.Opening left came) (reader form p left rest) × (rank p < 3)
  opened_tells is n size rest rest_is p p_is =
      let long : n - 2 ≡ length (dash_boundary form) = omega (arith, size, length-drop 2 form.delimiter) in
      let fits : length (dash_boundary form) ≤ length came = omega (arith, is, common_le_bytes (dash_boundary form) came) in
      let rest_at : rest ≡ drop (length (dash_boundary form)) came = rest_is ∙ ap (λ k. drop k came) long in
      rw (p_is, rest_at) (
        record {
          form = refl;
          fewer = omega arith;
          read = length (dash_boundary form);
          size = omega (arith, fits, length-drop (length (dash_boundary form)) came);
          parts = opened form left came is;
        },
        omega arith,
      )

  pub open_more : (common_len (dash_boundary form) came ≡ length came) × (common_len (dash_boundary form) came < length (dash_boundary form))
      → GoesOn (reader form place.Opening left came) (reader form place.Opening left came) × Waits (reader form place.Opening left came)
  open_more gives =
      let is = gives.0 in
      let short = gives.1 in (
        goes_nowhere (reader form place.Opening left came),
        record {
          later = open_later form left came is short;
          cut_off = open_cut form left came is short;
          short = omega (arith, is, short, length-drop 2 form.delimiter);
        },
      )

  pub open_fails : (common_len (dash_boundary form) came < length came) × (common_len (dash_boundary form) came < length (dash_boundary form))
      → GivesEnd (reader form place.Opening left came) (λ n. Fails n part_error.Grammar)
  open_fails gives =
      let below = gives.0 in
      let short = gives.1 in
      record {
        read = common_len (dash_boundary form) came + 1;
        within = omega (arith, below);
        parts = open_wrong form left came below short;
      }

-- ---- after a boundary

many : List ℕ → Parts
many more = no_part (Fails 2 part_error.TooMany)

closed_parts : (form : Form) (left : ℕ) (came : List ℕ) → common_len hyphens came ≡ 2 → (more : List ℕ) → at_boundary form left (came ++ more) ≡ no_part (Closes 2)
closed_parts form zero came is more = boundary_zero form (came ++ more) ∙ closes (λ more. no_part (Fails 2 part_error.TooMany)) came is more
closed_parts form (suc n) came is more = boundary_suc form n (came ++ more) ∙ closes (at_head form (at_boundary form n)) came is more

pub closed_tells : (form : Form) (left : ℕ) (came : List ℕ) → common_len hyphens came ≡ 2 → GivesEnd (reader form place.Boundary left came) Closes
closed_tells form left came is = record {
  read = 2;
  within = omega (arith, is, common_le_bytes hyphens came);
  parts = closed_parts form left came is;
}

pub many_tells : (form : Form) (left : ℕ) (came : List ℕ) → left ≡ 0 → (common_len hyphens came < 2) × (common_len crlf came ≡ 2) → GivesEnd (reader form place.Boundary left came) (λ n. Fails n part_error.TooMany)
many_tells form left came none gives =
    let second = gives.1 in
    record {
      read = 2;
      within = omega (arith, second, common_le_bytes crlf came);
      parts = λ more. ap (λ k. at_boundary form k (came ++ more)) none ∙ (boundary_zero form (came ++ more) ∙ begins (λ more. no_part (Fails 2 part_error.TooMany)) came gives.0 gives.1 more);
    }

pub begun_tells : (form : Form) (left : ℕ) (came : List ℕ) → 0 < left → (common_len hyphens came < 2) × (common_len crlf came ≡ 2)
    → GoesOn (reader form place.Boundary left came) (reader form place.Head (left - 1) came)
begun_tells form left came some gives =
    let one : left ≡ suc (left - 1) = omega (arith, some) in
    record {
      form = refl;
      fewer = omega (arith, some);
      read = 0;
      size = omega arith;
      parts = λ more.
          ap (λ k. at_boundary form k (came ++ more)) one
          ∙ (boundary_suc form (left - 1) (came ++ more)
          ∙ (begins (at_head form (at_boundary form (left - 1))) came gives.0 gives.1 more
          ∙ sym (behind_zero (at_head form (at_boundary form (left - 1)) (came ++ more)))));
    }

module _ (form : Form) (came : List ℕ) (gives : (common_len hyphens came < 2) × (common_len crlf came < 2) × (max (common_len hyphens came) (common_len crlf came) ≡ length came)) where
  waits_later : (left : ℕ) (more : List ℕ) → IsLater (length came) (at_boundary form left (came ++ more))
  waits_later zero more =
      let short = boundary_short (λ more. no_part (Fails 2 part_error.TooMany)) came gives.0 gives.1 gives.2 in
      rw (boundary_zero form (came ++ more))
      (boundary_later (λ more. no_part (Fails 2 part_error.TooMany)) came gives.0 gives.1 gives.2 (λ bytes. fails_later (length came) 2 part_error.TooMany short) more)
  waits_later (suc n) more =
      let short = boundary_short (at_head form (at_boundary form n)) came gives.0 gives.1 gives.2 in
      rw (boundary_suc form n (came ++ more))
      (boundary_later (at_head form (at_boundary form n)) came gives.0 gives.1 gives.2 (λ bytes. head_later form (at_boundary form n) (length came) short bytes) more)

  waits_cut : (left : ℕ) → at_boundary form left (came ++ []) ≡ no_part CutOff
  waits_cut zero = boundary_zero form (came ++ []) ∙ boundary_cut (λ more. no_part (Fails 2 part_error.TooMany)) came gives.0 gives.1 gives.2
  waits_cut (suc n) = boundary_suc form n (came ++ []) ∙ boundary_cut (at_head form (at_boundary form n)) came gives.0 gives.1 gives.2

  pub boundary_more : (left : ℕ) (p : PartState) → p ≡ place.Boundary → GoesOn (reader form place.Boundary left came) (reader form p left came) × Waits (reader form p left came)
  boundary_more left p p_is =
      let short = boundary_short (λ more. no_part (Fails 2 part_error.TooMany)) came gives.0 gives.1 gives.2 in
      rw p_is (
        goes_nowhere (reader form place.Boundary left came),
        record { later = waits_later left; cut_off = waits_cut left; short = omega (arith, short) },
      )

module _ (form : Form) (came : List ℕ) (gives : (common_len hyphens came < 2) × (common_len crlf came < 2) × (max (common_len hyphens came) (common_len crlf came) < length came)) where
  wrong_parts : (left : ℕ) (more : List ℕ) → at_boundary form left (came ++ more) ≡ no_part (Fails (max (common_len hyphens came) (common_len crlf came) + 1) part_error.Grammar)
  wrong_parts zero more = boundary_zero form (came ++ more) ∙ boundary_wrong (λ more. no_part (Fails 2 part_error.TooMany)) came gives.0 gives.1 gives.2 more
  wrong_parts (suc n) more = boundary_suc form n (came ++ more) ∙ boundary_wrong (at_head form (at_boundary form n)) came gives.0 gives.1 gives.2 more

  pub wrong_tells : (left : ℕ) → GivesEnd (reader form place.Boundary left came) (λ n. Fails n part_error.Grammar)
  wrong_tells left =
      let below = gives.2 in
      record {
        read = max (common_len hyphens came) (common_len crlf came) + 1;
        within = omega (arith, below);
        parts = wrong_parts left;
      }

-- ---- a head

module _ (form : Form) (left : ℕ) (came : List ℕ) where
  pub found_tells : (found : PartHead) (n : ℕ) → FindsHead came found n → (rest : List ℕ) → rest ≡ drop n came
      → GoesOn (reader form place.Head left came) (reader form (place.Content found) left rest)
  found_tells found n f rest rest_is =
      let fits = head_fits came found n f in
      rw rest_is (record {
        form = refl;
        fewer = omega arith;
        read = n;
        size = omega (arith, fits, length-drop n came);
        parts = head_found form (at_boundary form left) came found n f;
      })

  pub head_more : HeadGives came head.More → GoesOn (reader form place.Head left came) (reader form place.Head left came) × Waits (reader form place.Head left came)
  head_more gives =
      let short = gives.1 in (
        goes_nowhere (reader form place.Head left came),
        record {
          later = head_waits form (at_boundary form left) came gives.0 gives.1;
          cut_off = head_cut form (at_boundary form left) came gives.0 gives.1;
          short = omega (arith, short);
        },
      )

  pub head_fails : (error : PartError) → FailsHead came error → GivesEnd (reader form place.Head left came) (λ n. Fails n error)
  head_fails error f = record { read = f.known; within = f.within; parts = f.parts form (at_boundary form left) }

-- ---- a content

module _ (form : Form) (some : 0 < length form.delimiter) (left : ℕ) (found : PartHead) (came : List ℕ) where
  pub content_tells : (n : ℕ) → ContentGives form.delimiter form.limit came (content.Content n) → (size : ℕ) → size ≡ length form.delimiter
      → (rest body : List ℕ) → rest ≡ drop (n + size) came → body ≡ take n came → (part : Part) → part ≡ part_of found body → (p : PartState) → p ≡ place.Boundary
      → GivesPart (reader form (place.Content found) left came) part (reader form p left rest)
  content_tells n gives size size_is rest body rest_is body_is part part_is p p_is =
      let fits = place_fits form.delimiter came [] some n gives.0 in
      let rest_at : rest ≡ drop (n + length form.delimiter) came = rest_is ∙ ap (λ k. drop (n + k) came) size_is in
      rw (p_is, part_is, body_is, rest_at) (record {
        form = refl;
        fewer = omega arith;
        read = n + length form.delimiter;
        some = omega (arith, some);
        size = omega (arith, fits, length-drop (n + length form.delimiter) came);
        parts = content_found form some (at_boundary form left) found came n gives.0 gives.1;
      })

  pub content_more : ContentGives form.delimiter form.limit came content.More → GoesOn (reader form (place.Content found) left came) (reader form (place.Content found) left came) × Waits (reader form (place.Content found) left came)
  content_more gives =
      let short = gives.1 in (
        goes_nowhere (reader form (place.Content found) left came),
        record {
          later = content_waits form some (at_boundary form left) found came gives.0 gives.1;
          cut_off = content_cut form some (at_boundary form left) found came gives.0 gives.1;
          short = omega (arith, short);
        },
      )

  pub content_over : ContentGives form.delimiter form.limit came content.TooLong → GivesEnd (reader form (place.Content found) left came) (λ n. Fails n part_error.PartOverflow)
  content_over gives = record { read = form.limit + length form.delimiter; within = gives.0; parts = gives.1 (at_boundary form left) found }
