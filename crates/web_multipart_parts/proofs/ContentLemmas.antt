-- A head, and a content.
use Rattle.std.proofs.Common.{◌≡◌, ℕ, ◌+◌, ◌<◌, ◌≤◌, List, [], ◌++◌, Option, None, Some, length, take, drop, refl, sym, ap, ◌∙◌, arith, length-append}
use Rattle.std.specs.Prelude.{nat_le}
use Rattle.std.proofs.lemmas.Bool.{cond-true, cond-false, cond_both, le-leb, lt-leb}
use Rattle.std.proofs.lemmas.List.{append-nil, drop-append-le, length-take-le, take-append-le}
use Rattle.web_multipart_parts.specs.Places.{place_of}
use Rattle.web_multipart_parts.specs.PartHeads.{part_head_of}
use Rattle.web_multipart_parts.specs.Parts.{CutOff, Fails, Form, Parts, at_content, at_head, behind, behind_head, content_to, empty_line, head_to, no_part, part_of, part_then}
use Rattle.web_multipart_parts.specs.PartReading.{IsLater}
use Rattle.web_multipart_parts.specs.PartSteps.{FailsHead, FindsHead, HeadGives, ReadsHead}
use Rattle.web_multipart_parts.specs.declared.part_machine.HeadStep.{HeadStep}
use Rattle.web_multipart_parts.specs.declared.part_machine.HeadStep.TheVariants as head
use Rattle.web_multipart_parts.specs.declared.part_head.PartHead.{PartHead}
use Rattle.web_multipart_parts.specs.declared.part.PartError.TheVariants as part_error
use Rattle.web_multipart_parts.proofs.PlaceLemmas.{place_fits, place_later, place_stays}
use Rattle.web_multipart_parts.proofs.LaterLemmas.{behind_later, cut_later, fails_later, then_later}

empty_some : 0 < length empty_line
empty_some = omega arith

-- ---- where a head is

read_later : (form : Form) (next : List ℕ → Parts) (k n : ℕ) (bytes : List ℕ) (read : Option PartHead) → k < n → IsLater k (behind_head form next n bytes read)
read_later form next k n bytes None h = fails_later k n part_error.Head h
read_later form next k n bytes (Some found) h = behind_later k n (at_content form next found (drop n bytes)) h

to_later : (form : Form) (next : List ℕ → Parts) (k : ℕ) (bytes : List ℕ) (r : Option ℕ) → k < 4098 → ((n : ℕ) → r ≡ Some n → k < n + 4) → IsLater k (head_to form next bytes r)
to_later form next k bytes None h far =
    cond_both (nat_le 4098 (length bytes)) (no_part (Fails 4098 part_error.Grammar)) (no_part CutOff) (IsLater k)
    (λ e. fails_later k 4098 part_error.Grammar h) (λ e. cut_later k)
to_later form next k bytes (Some n) h far =
    cond_both (nat_le n 4094) (behind_head form next (n + 4) bytes (part_head_of (drop 2 (take (n + 4) bytes)))) (no_part (Fails 4098 part_error.Grammar)) (IsLater k)
    (λ e. read_later form next k (n + 4) bytes (part_head_of (drop 2 (take (n + 4) bytes))) (far n refl)) (λ e. fails_later k 4098 part_error.Grammar h)

-- a head needs more than one byte
pub head_later : (form : Form) (next : List ℕ → Parts) (k : ℕ) → k < 2 → (bytes : List ℕ) → IsLater k (at_head form next bytes)
head_later form next k h bytes = to_later form next k bytes (place_of empty_line bytes) (omega (arith, h)) (λ n e. omega (arith, h))

module _ (form : Form) (next : List ℕ → Parts) (came : List ℕ) where
  module _ (none : place_of empty_line came ≡ None) (short : length came < 4098) where
    pub head_waits : (more : List ℕ) → IsLater (length came) (at_head form next (came ++ more))
    head_waits more = to_later form next (length came) (came ++ more) (place_of empty_line (came ++ more)) short (λ n e. place_later empty_line came more empty_some n none e)

    pub head_cut : at_head form next (came ++ []) ≡ no_part CutOff
    head_cut =
        ap (at_head form next) (append-nil came)
        ∙ (ap (head_to form next came) none
        ∙ cond-false (nat_le 4098 (length came)) _ _ (lt-leb 4098 (length came) short))

  -- the head is read, and what follows
  read_on : (p : ℕ) → place_of empty_line came ≡ Some p → p ≤ 4094 → (more : List ℕ)
      → at_head form next (came ++ more) ≡ behind_head form next (p + 4) (came ++ more) (part_head_of (drop 2 (take (p + 4) came)))
  read_on p is h more =
      let fits : p + 4 ≤ length came = place_fits empty_line came more empty_some p is in
      ap (head_to form next (came ++ more)) (place_stays empty_line came more empty_some p is)
      ∙ (cond-true (nat_le p 4094) _ _ (le-leb p 4094 h)
      ∙ ap (λ xs. behind_head form next (p + 4) (came ++ more) (part_head_of (drop 2 xs))) (take-append-le (p + 4) came more fits))

  pub head_found : (found : PartHead) (n : ℕ) → FindsHead came found n → (more : List ℕ)
      → at_head form next (came ++ more) ≡ behind n (at_content form next found (drop n came ++ more))
  head_found found n f more =
      let fits : n ≤ length came = rw f.size (place_fits empty_line came more empty_some f.place f.stands) in
      read_on f.place f.stands f.short more
      ∙ (ap (behind_head form next (f.place + 4) (came ++ more)) f.says
      ∙ (ap (λ k. behind k (at_content form next found (drop k (came ++ more)))) (sym f.size)
      ∙ ap (λ xs. behind n (at_content form next found xs)) (drop-append-le n came more fits)))

  head_bad_at : (p : ℕ) → place_of empty_line came ≡ Some p → p ≤ 4094 → part_head_of (drop 2 (take (p + 4) came)) ≡ None → (more : List ℕ)
      → at_head form next (came ++ more) ≡ no_part (Fails (p + 4) part_error.Head)
  head_bad_at p is h bad more = read_on p is h more ∙ ap (behind_head form next (p + 4) (came ++ more)) bad

  long_to : 4098 ≤ length came → (more : List ℕ) (r : Option ℕ) → ((n : ℕ) → r ≡ Some n → 4094 < n) → head_to form next (came ++ more) r ≡ no_part (Fails 4098 part_error.Grammar)
  long_to h more None far = cond-true (nat_le 4098 (length (came ++ more))) _ _ (le-leb 4098 (length (came ++ more)) (omega (arith, h, length-append came more)))
  long_to h more (Some n) far = cond-false (nat_le n 4094) _ _ (lt-leb n 4094 (far n refl))

pub head_fits : (came : List ℕ) (found : PartHead) (n : ℕ) → FindsHead came found n → n ≤ length came
head_fits came found n f = rw f.size (place_fits empty_line came [] empty_some f.place f.stands)

pub head_bad : (came : List ℕ) (p : ℕ) → place_of empty_line came ≡ Some p → p ≤ 4094 → part_head_of (drop 2 (take (p + 4) came)) ≡ None → FailsHead came part_error.Head
head_bad came p is h bad = record {
  known = p + 4;
  within = place_fits empty_line came [] empty_some p is;
  parts = λ form next more. head_bad_at form next came p is h bad more;
}

-- a head that was read at its place
pub head_reads : (came : List ℕ) (p : ℕ) → place_of empty_line came ≡ Some p → p ≤ 4094 → (r : HeadStep) → ReadsHead (take (p + 4) came) r → HeadGives came r
head_reads came p is h (head.Head found n) reads = record {
  place = p;
  stands = is;
  size = reads.0 ∙ length-take-le (p + 4) came (place_fits empty_line came [] empty_some p is);
  short = h;
  says = reads.1;
}
head_reads came p is h head.More reads = elim reads [ ]
head_reads came p is h (head.Failed error) reads = rw reads.0 (head_bad came p is h reads.1)
head_reads came p is h head.NoMemory reads = (p, is)

some_same : (n p : ℕ) → ◌≡◌ {A = Option ℕ} (Some p) (Some n) → p ≡ n
some_same n p e = cc

pub head_long : (came : List ℕ) (p : ℕ) → place_of empty_line came ≡ Some p → 4094 < p → FailsHead came part_error.Grammar
head_long came p is h =
    let fits : p + 4 ≤ length came = place_fits empty_line came [] empty_some p is in
    let size : 4098 ≤ length came = omega (arith, fits, h) in
    record {
      known = 4098;
      within = size;
      parts = λ form next more. ap (head_to form next (came ++ more)) (place_stays empty_line came more empty_some p is) ∙ long_to form next came size more (Some p) (λ n e. let same = some_same n p e in omega (arith, same, h));
    }

pub head_endless : (came : List ℕ) → place_of empty_line came ≡ None → 4098 ≤ length came → FailsHead came part_error.Grammar
head_endless came none h = record {
  known = 4098;
  within = h;
  parts = λ form next more. long_to form next came h more (place_of empty_line (came ++ more)) (λ n e. let far = place_later empty_line came more empty_some n none e in omega (arith, far, h));
}

-- ---- where a content is

module _ (form : Form) (some : 0 < length form.delimiter) (next : List ℕ → Parts) (found : PartHead) (came : List ℕ) where
  pub content_found : (n : ℕ) → place_of form.delimiter came ≡ Some n → n ≤ form.limit → (more : List ℕ)
      → at_content form next found (came ++ more) ≡ part_then (n + length form.delimiter) (part_of found (take n came)) (next (drop (n + length form.delimiter) came ++ more))
  content_found n is h more =
      let fits : n + length form.delimiter ≤ length came = place_fits form.delimiter came more some n is in
      ap (content_to form next found (came ++ more)) (place_stays form.delimiter came more some n is)
      ∙ (cond-true (nat_le n form.limit) _ _ (le-leb n form.limit h)
      ∙ (ap (λ xs. part_then (n + length form.delimiter) (part_of found xs) (next (drop (n + length form.delimiter) (came ++ more)))) (take-append-le n came more (omega (arith, fits)))
      ∙ ap (λ xs. part_then (n + length form.delimiter) (part_of found (take n came)) (next xs)) (drop-append-le (n + length form.delimiter) came more fits)))

  over_to : form.limit + length form.delimiter ≤ length came → (more : List ℕ) (r : Option ℕ) → ((n : ℕ) → r ≡ Some n → form.limit < n)
      → content_to form next found (came ++ more) r ≡ no_part (Fails (form.limit + length form.delimiter) part_error.PartOverflow)
  over_to h more None far = cond-true (nat_le (form.limit + length form.delimiter) (length (came ++ more))) _ _ (le-leb _ _ (omega (arith, h, length-append came more)))
  over_to h more (Some n) far = cond-false (nat_le n form.limit) _ _ (lt-leb n form.limit (far n refl))

  pub content_long : (p : ℕ) → place_of form.delimiter came ≡ Some p → form.limit < p → (more : List ℕ)
      → at_content form next found (came ++ more) ≡ no_part (Fails (form.limit + length form.delimiter) part_error.PartOverflow)
  content_long p is h more =
      let fits : p + length form.delimiter ≤ length came = place_fits form.delimiter came more some p is in
      ap (content_to form next found (came ++ more)) (place_stays form.delimiter came more some p is)
      ∙ over_to (omega (arith, fits, h)) more (Some p) (λ n e. let same = some_same n p e in omega (arith, same, h))

  pub content_endless : place_of form.delimiter came ≡ None → form.limit + length form.delimiter ≤ length came → (more : List ℕ)
      → at_content form next found (came ++ more) ≡ no_part (Fails (form.limit + length form.delimiter) part_error.PartOverflow)
  content_endless none h more = over_to h more (place_of form.delimiter (came ++ more)) (λ n e. let far = place_later form.delimiter came more some n none e in omega (arith, far, h))

  content_to_later : (k : ℕ) (bytes : List ℕ) (r : Option ℕ) → k < form.limit + length form.delimiter → ((n : ℕ) → r ≡ Some n → k < n + length form.delimiter) → IsLater k (content_to form next found bytes r)
  content_to_later k bytes None h far =
      cond_both (nat_le (form.limit + length form.delimiter) (length bytes)) (no_part (Fails (form.limit + length form.delimiter) part_error.PartOverflow)) (no_part CutOff) (IsLater k)
      (λ e. fails_later k (form.limit + length form.delimiter) part_error.PartOverflow h) (λ e. cut_later k)
  content_to_later k bytes (Some n) h far =
      cond_both (nat_le n form.limit)
      (part_then (n + length form.delimiter) (part_of found (take n bytes)) (next (drop (n + length form.delimiter) bytes)))
      (no_part (Fails (form.limit + length form.delimiter) part_error.PartOverflow)) (IsLater k)
      (λ e. then_later k (n + length form.delimiter) (part_of found (take n bytes)) (next (drop (n + length form.delimiter) bytes)) (far n refl))
      (λ e. fails_later k (form.limit + length form.delimiter) part_error.PartOverflow h)

  module _ (none : place_of form.delimiter came ≡ None) (short : length came < form.limit + length form.delimiter) where
    pub content_waits : (more : List ℕ) → IsLater (length came) (at_content form next found (came ++ more))
    content_waits more = content_to_later (length came) (came ++ more) (place_of form.delimiter (came ++ more)) short (λ n e. place_later form.delimiter came more some n none e)

    pub content_cut : at_content form next found (came ++ []) ≡ no_part CutOff
    content_cut =
        ap (at_content form next found) (append-nil came)
        ∙ (ap (content_to form next found came) none
        ∙ cond-false (nat_le (form.limit + length form.delimiter) (length came)) _ _ (lt-leb _ _ short))
