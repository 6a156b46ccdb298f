-- The lines of a text, and that more bytes change nothing of a reason that was decided.
use Rattle.std.proofs.Common.{◌≡◌, ℕ, ◌+◌, ◌-◌, ◌<◌, ◌≤◌, ◌==◌, ◌||◌, Bool, true, false, List, [], ◌∷◌, ◌++◌, length, take, Option, Some, None, option_map, refl, sym, ap, ◌∙◌, subst, arith, nat_le, if◌then◌else◌, MatchOption, length-append}
use Rattle.std.specs.Borrow.{Bor}
use Rattle.std.specs.List.{list_any, position_or_len}
use Rattle.std.proofs.Math.Seq.{take-append-add}
use Rattle.std.proofs.lemmas.Bool.Decides.{nat_tests}
use Rattle.std.proofs.lemmas.List.{take-append-le, take_all}
use Rattle.web_texts.specs.Cut.{IsCut}
use Rattle.web_texts.proofs.SplitLemmas.{cut_parts, no_cut}
use Rattle.web_messages.specs.declared.limits.HeadFault.{HeadFault}
use Rattle.web_messages.specs.declared.limits.HeadFault.TheVariants as fault
use Rattle.web_messages.specs.declared.limits.Limits.{Limits}
use Rattle.web_messages.specs.EmptyLines.{is_blank}
use Rattle.web_messages.specs.HeadFaults.{fault_behind, fields_of, find_fault, from_start, is_empty_line, lines_fault, lines_of, text_fault, with_first}
use Rattle.web_messages.proofs.BlankLemmas.{blank_more}

pub if_true : {A : Type 0} (t : Bool) (x y : A) → t ≡ true → (if t then x else y) ≡ x
if_true true x y e = refl
if_true false x y e = cc

pub if_false : {A : Type 0} (t : Bool) (x y : A) → t ≡ false → (if t then x else y) ≡ y
if_false false x y e = refl
if_false true x y e = cc

-- ---- lines

line_step : (t : Bool) (b : ℕ) (text : List ℕ) (rest : Bool) → (t || rest) ≡ false
    → (if t then [] ∷ lines_of text else with_first b (lines_of text)) ≡ with_first b (lines_of text)
line_step true b text rest h = cc
line_step false b text rest h = refl

any_rest : (t rest : Bool) → (t || rest) ≡ false → rest ≡ false
any_rest true rest h = cc
any_rest false rest h = h

pub lines_none : (text : List ℕ) → list_any (λ b. b == 10) text ≡ false → lines_of text ≡ []
lines_none [] h = refl
lines_none (b ∷ text) h =
    line_step (b == 10) b text (list_any (λ b. b == 10) text) h
    ∙ ap (with_first b) (lines_none text (any_rest (b == 10) (list_any (λ b. b == 10) text) h))

pub lines_cut : (before after : List ℕ) → list_any (λ b. b == 10) before ≡ false → lines_of (before ++ 10 ∷ after) ≡ before ∷ lines_of after
lines_cut [] after h = refl
lines_cut (b ∷ before) after h =
    line_step (b == 10) b (before ++ 10 ∷ after) (list_any (λ b. b == 10) before) h
    ∙ ap (with_first b) (lines_cut before after (any_rest (b == 10) (list_any (λ b. b == 10) before) h))

-- what the first line that was cut off says of all lines
abbrev CutAt : List ℕ → Option (Bor (List ℕ) × Bor (List ℕ)) → Type 0
CutAt text found =
    MatchOption found (position_or_len (λ b. b == 10) text ≡ length text) (λ parts. IsCut 10 text parts.0.now parts.1.now)

pub first_found : (text : List ℕ) (found : Option (Bor (List ℕ) × Bor (List ℕ))) → CutAt text found
    → MatchOption found (lines_of text ≡ []) (λ parts. lines_of text ≡ parts.0.now ∷ lines_of parts.1.now)
first_found text None h = lines_none text (no_cut 10 text h)
first_found text (Some parts) h =
    let cut = cut_parts 10 text parts.0.now parts.1.now h in
    ap lines_of cut.text_is ∙ lines_cut parts.0.now parts.1.now cut.none

pub first_shorter : (text : List ℕ) (found : Option (Bor (List ℕ) × Bor (List ℕ))) → CutAt text found
    → MatchOption found (0 ≤ length text) (λ parts. length parts.1.now < length text)
first_shorter text None h = omega arith
first_shorter text (Some parts) h =
    let cut = cut_parts 10 text parts.0.now parts.1.now h in
    omega (arith, ap length cut.text_is, length-append parts.0.now (10 ∷ parts.1.now))

-- ---- more bytes

first_more : (c : ℕ) (lines others : List (List ℕ)) → (o : List (List ℕ)) × (with_first c (lines ++ others) ≡ with_first c lines ++ o)
first_more c [] others = (with_first c others, refl)
first_more c (line ∷ lines) others = (others, refl)

more_step : (t : Bool) (c : ℕ) (a b : List ℕ) → (o : List (List ℕ)) × (lines_of (a ++ b) ≡ lines_of a ++ o)
    → (o : List (List ℕ))
    × ((if t then [] ∷ lines_of (a ++ b) else with_first c (lines_of (a ++ b))) ≡ (if t then [] ∷ lines_of a else with_first c (lines_of a)) ++ o)
more_step true c a b h = (h.0, ap (λ (l : List (List ℕ)). [] ∷ l) h.1)
more_step false c a b h = let o = first_more c (lines_of a) h.0 in (o.0, ap (with_first c) h.1 ∙ o.1)

lines_more : (a b : List ℕ) → (o : List (List ℕ)) × (lines_of (a ++ b) ≡ lines_of a ++ o)
lines_more [] b = (lines_of b, refl)
lines_more (c ∷ a) b = more_step (c == 10) c a b (lines_more a b)

start_step : (t : Bool) (l : List ℕ) (lines others : List (List ℕ)) (line : List ℕ) (rest : List (List ℕ))
    → (from_start lines ≡ line ∷ rest → from_start (lines ++ others) ≡ line ∷ (rest ++ others))
    → (if t then from_start lines else l ∷ lines) ≡ line ∷ rest
    → (if t then from_start (lines ++ others) else l ∷ (lines ++ others)) ≡ line ∷ (rest ++ others)
start_step true l lines others line rest next h = next h
start_step false l lines others line rest next h = ap (λ (x : List (List ℕ)). x ++ others) h

start_more : (lines others : List (List ℕ)) (line : List ℕ) (rest : List (List ℕ)) → from_start lines ≡ line ∷ rest
    → from_start (lines ++ others) ≡ line ∷ (rest ++ others)
start_more [] others line rest h = absurd (cc h)
start_more (l ∷ lines) others line rest h =
    start_step (is_empty_line l) l lines others line rest (start_more lines others line rest) h

fields_step : (t : Bool) (x y : Option ℕ) (n : ℕ) → ((m : ℕ) → x ≡ Some m → y ≡ Some m)
    → (if t then Some 0 else option_map (λ n. n + 1) x) ≡ Some n → (if t then Some 0 else option_map (λ n. n + 1) y) ≡ Some n
fields_step true x y n next h = h
fields_step false None y n next h = absurd (cc h)
fields_step false (Some m) y n next h = ap (option_map (λ (k : ℕ). k + 1)) (next m refl) ∙ h

fields_more : (lines others : List (List ℕ)) (n : ℕ) → fields_of lines ≡ Some n → fields_of (lines ++ others) ≡ Some n
fields_more [] others n h = absurd (cc h)
fields_more (l ∷ lines) others n h =
    fields_step (is_empty_line l) (fields_of lines) (fields_of (lines ++ others)) n (fields_more lines others) h

-- ---- the reason

module _ (limits : Limits) (full : Bool) (f : HeadFault) where
  behind_stays : (line : List ℕ) (x y : Option ℕ) → ((m : ℕ) → x ≡ Some m → y ≡ Some m) → fault_behind limits false line x ≡ Some f
      → fault_behind limits full line y ≡ Some f
  behind_stays line None y next h = absurd (cc h)
  behind_stays line (Some m) y next h = ap (fault_behind limits full line) (next m refl) ∙ h

  lines_stays : (lines others s : List (List ℕ)) → from_start lines ≡ s → lines_fault limits false s ≡ Some f
      → lines_fault limits full (from_start (lines ++ others)) ≡ Some f
  lines_stays lines others [] e h = absurd (cc h)
  lines_stays lines others (line ∷ rest) e h =
      ap (lines_fault limits full) (start_more lines others line rest e)
      ∙ behind_stays line (fields_of rest) (fields_of (rest ++ others)) (fields_more rest others) h

  text_stays : (text more : List ℕ) → text_fault limits false text ≡ Some f → text_fault limits full (text ++ more) ≡ Some f
  text_stays text more h = of (is_blank text) refl h
    where
      of : (b : Bool) → is_blank text ≡ b
          → (if b then (if false then Some fault.Malformed else None) else lines_fault limits false (from_start (lines_of text))) ≡ Some f
          → text_fault limits full (text ++ more) ≡ Some f
      of true e g = absurd (cc g)
      of false e g =
          let m = lines_more text more in
          if_false (is_blank (text ++ more)) (if full then Some fault.Malformed else None)
          (lines_fault limits full (from_start (lines_of (text ++ more)))) (blank_more text more e)
          ∙ ap (λ (l : List (List ℕ)). lines_fault limits full (from_start l)) m.1
          ∙ lines_stays (lines_of text) m.0 (from_start (lines_of text)) refl g

within : (n m : ℕ) → nat_le n m ≡ true → n ≤ m
within n m e = grind (arith, nat_tests, e)

beyond : (n m : ℕ) → nat_le n m ≡ false → m < n
beyond n m e = grind (arith, nat_tests, e)

full_more : (n m k : ℕ) → nat_le n m ≡ true → nat_le n (m + k) ≡ true
full_more n m k e = grind (arith, nat_tests, e)

pub fault_stays : (limits : Limits) (bytes more : List ℕ) (f : HeadFault) → find_fault limits bytes ≡ Some f
    → find_fault limits (bytes ++ more) ≡ Some f
fault_stays limits bytes more f h = of limits.checks.reasons h
  where
    whole : (b : Bool) → nat_le limits.head (length bytes) ≡ b → text_fault limits b (take limits.head bytes) ≡ Some f
        → text_fault limits (nat_le limits.head (length (bytes ++ more))) (take limits.head (bytes ++ more)) ≡ Some f
    whole true e g =
        let full = ap (nat_le limits.head) (length-append bytes more) ∙ full_more limits.head (length bytes) (length more) e in
        subst (λ (t : Bool). text_fault limits t (take limits.head (bytes ++ more)) ≡ Some f) (sym full)
        (subst (λ (t : List ℕ). text_fault limits true t ≡ Some f) (sym (take-append-le limits.head bytes more (within limits.head (length bytes) e))) g)
    whole false e g =
        let less = beyond limits.head (length bytes) e in
        let size : length bytes + (limits.head - length bytes) ≡ limits.head = omega (arith, less) in
        let text : take limits.head (bytes ++ more) ≡ bytes ++ take (limits.head - length bytes) more =
        ap (λ (n : ℕ). take n (bytes ++ more)) (sym size) ∙ take-append-add bytes more (limits.head - length bytes) in
        subst (λ (t : List ℕ). text_fault limits (nat_le limits.head (length (bytes ++ more))) t ≡ Some f) (sym text)
        (text_stays limits (nat_le limits.head (length (bytes ++ more))) f bytes (take (limits.head - length bytes) more)
        (subst (λ (t : List ℕ). text_fault limits false t ≡ Some f) (take_all limits.head bytes (omega (arith, less))) g))

    of : (r : Bool)
        → (if r then text_fault limits (nat_le limits.head (length bytes)) (take limits.head bytes) else Some fault.Malformed) ≡ Some f
        → (if r then text_fault limits (nat_le limits.head (length (bytes ++ more))) (take limits.head (bytes ++ more)) else Some fault.Malformed) ≡ Some f
    of true g = whole (nat_le limits.head (length bytes)) refl g
    of false g = g

-- while more bytes have to say the reason, there are fewer than a head may have
behind_full : (limits : Limits) (line : List ℕ) (n : Option ℕ) → fault_behind limits true line n ≡ None → ⊥
behind_full limits line None h = cc
behind_full limits line (Some n) h = cc

lines_full : (limits : Limits) (lines : List (List ℕ)) → lines_fault limits true lines ≡ None → ⊥
lines_full limits [] h = cc
lines_full limits (line ∷ lines) h = behind_full limits line (fields_of lines) h

text_full : (limits : Limits) (b : Bool) (lines : List (List ℕ))
    → (if b then (if true then Some fault.Malformed else None) else lines_fault limits true lines) ≡ None → ⊥
text_full limits true lines h = cc
text_full limits false lines h = lines_full limits lines h

pub open_short : (limits : Limits) (bytes : List ℕ) → find_fault limits bytes ≡ None → length bytes < limits.head
open_short limits bytes h = of limits.checks.reasons h
  where
    whole : (b : Bool) → nat_le limits.head (length bytes) ≡ b → text_fault limits b (take limits.head bytes) ≡ None → length bytes < limits.head
    whole true e g = absurd (text_full limits (is_blank (take limits.head bytes)) (from_start (lines_of (take limits.head bytes))) g)
    whole false e g = beyond limits.head (length bytes) e

    of : (r : Bool)
        → (if r then text_fault limits (nat_le limits.head (length bytes)) (take limits.head bytes) else Some fault.Malformed) ≡ None
        → length bytes < limits.head
    of true g = whole (nat_le limits.head (length bytes)) refl g
    of false g = absurd (cc g)

-- CR and LF alone have no other reason
pub blank_fault : (limits : Limits) (bytes : List ℕ) → is_blank (take limits.head bytes) ≡ true → limits.head ≤ length bytes
    → find_fault limits bytes ≡ Some fault.Malformed
blank_fault limits bytes blank full = of limits.checks.reasons
  where
    of : (r : Bool) → (if r then text_fault limits (nat_le limits.head (length bytes)) (take limits.head bytes) else Some fault.Malformed) ≡ Some fault.Malformed
    of true =
        let all : nat_le limits.head (length bytes) ≡ true = grind (arith, nat_tests, full) in
        if_true (is_blank (take limits.head bytes)) (if nat_le limits.head (length bytes) then Some fault.Malformed else None)
        (lines_fault limits (nat_le limits.head (length bytes)) (from_start (lines_of (take limits.head bytes)))) blank
        ∙ if_true (nat_le limits.head (length bytes)) (Some fault.Malformed) None all
    of false = refl
