-- Every script of a load is valid.
use Rattle.std.proofs.Common.{◌≡◌, ◌<◌, ◌≤◌, ◌==◌, ◌+◌, ◌^◌, ◌-◌, ℕ, zero, suc, true, false, List, [], ◌∷◌, ◌++◌, length, refl, ap, sym, ◌∙◌, arith, append_assoc}
use Rattle.std.specs.Prelude.{codes, decimal, flat_map, replicate, slice_index, Option, Some, None}
use Rattle.std.specs.Option.{option_or}
use Rattle.std.specs.List.{list_any, slice_split, range_with_len}
use Rattle.std.specs.Str.Lines.{strip_carriage_return}
use Rattle.std.proofs.lemmas.Bool.Decides.{nat_tests}
use Rattle.std.proofs.lemmas.Fmt.{decimal_nonempty}
use Rattle.std.proofs.lemmas.List.{append-nil}
use Rattle.std.proofs.lemmas.List.Folds.{list_any-append}
use Rattle.std.specs.Str.{is_utf8, chars}
use Rattle.std.proofs.Math.Utf8.{encode}
use Rattle.http_header.specs.Token.{is_token_byte}
use Rattle.web_texts.specs.Bytes.{is_newline}
use Rattle.web_texts.proofs.DecimalLemmas.{none_in, number_back}
use Rattle.web_texts.proofs.LastCutLemmas.{or_false, after_last_at}
use Rattle.cli_script.specs.Line.{Line, is_space, line_of}
use Rattle.cli_script.specs.LineKinds.{has}
use Rattle.cli_script.specs.LineArguments.{is_field_name, is_field_value, is_method, is_request}
use Rattle.cli_script.specs.LineFaults.{argument_fault, exchange_lines, fault_of, has_line, place_fault}
use Rattle.cli_script.specs.PlanEntries.{entries_of, max_entry}
use Rattle.cli_script.specs.Script.{fault_or, first_fault_after, is_valid_script, script_lines}
use Rattle.cli_script.specs.Targets.{is_origin, is_path_and_query, is_path_input, target_of}
use Rattle.cli_script.specs.declared.line.Word.{Word}
use Rattle.cli_script.specs.declared.line.Word.TheVariants as word
use Rattle.cli_script.specs.declared.reason.LineFault.{LineFault}
use Rattle.cli_script.specs.declared.script.InvalidScript.{InvalidScript}
use Rattle.cli_load.specs.Drawing.{drawn_of, state_after}
use Rattle.cli_load.specs.ScriptTexts.{end_text, exchange_text, exchanges_from, head_text, line}
use Rattle.cli_load.specs.ScriptTexts.{plan_line, plan_round, script_text}
use Rattle.cli_load.specs.declared.drawn.Drawn.{Drawn}
use Rattle.cli_load.specs.declared.drawn.Route.{Route}
use Rattle.cli_load.specs.declared.drawn.Route.TheVariants as route
use Rattle.web_texts.proofs.TestLemmas.{or_true}

abbrev with_word : Word → List ℕ → Line
with_word w text = record { word = w; argument = text }

-- no line is faulty, after those before
abbrev Clear : List Line → List Line → Type 0
Clear before left = first_fault_after before left ≡ None

none_next : (r : Option LineFault) (n : ℕ) (next : Option InvalidScript)
    → fault_or r n next ≡ None → (r ≡ None) × (next ≡ None)
none_next None n next e = (refl, e)
none_next (Some r) n next e = absurd (cc)

clear_more : (before : List Line) (x : Line) (left : List Line)
    → fault_of before x ≡ None → Clear (before ++ x ∷ []) left → Clear before (x ∷ left)
clear_more before x left none rest = rw none rest

clear_both : (before block rest : List Line)
    → Clear before block → Clear (before ++ block) rest → Clear before (block ++ rest)
clear_both before [] rest none more = rw append-nil at more
clear_both before (x ∷ block) rest none more =
    let parts = none_next (fault_of before x) _ _ none in
    clear_more before x (block ++ rest) parts.0
    (clear_both (before ++ x ∷ []) block rest parts.1 (rw (append_assoc before (x ∷ []) block) more))

-- ---- an exchange is judged by its own lines

module _ (front : List Line) (unplanned : has_line word.Plan front ≡ false) (text : List ℕ) where
  abbrev first : Line
  first = with_word word.Exchange text

  planned_same : (rest : List Line)
      → has_line word.Plan (front ++ first ∷ rest) ≡ has_line word.Plan (first ∷ rest)
  planned_same rest = list_any-append (has word.Plan) front (first ∷ rest) ∙ rw unplanned refl

  begun : (rest : List Line) → has_line word.Exchange (front ++ first ∷ rest) ≡ true
  begun rest =
      list_any-append (has word.Exchange) front (first ∷ rest)
      ∙ or_true (has_line word.Exchange front)

  lines_same : (rest : List Line) → has_line word.Exchange rest ≡ false
      → exchange_lines (front ++ first ∷ rest) ≡ exchange_lines (first ∷ rest)
  lines_same rest none =
      after_last_at (has word.Exchange) front first rest refl none
      ∙ sym (after_last_at (has word.Exchange) [] first rest refl none)

  place_same : (rest : List Line) (x : Line) → has_line word.Exchange rest ≡ false
      → place_fault (front ++ first ∷ rest) x ≡ place_fault (first ∷ rest) x
  place_same rest x none = rw (planned_same rest, begun rest, lines_same rest none) refl

  fault_same : (rest : List Line) (x : Line) → has_line word.Exchange rest ≡ false
      → fault_of (front ++ first ∷ rest) x ≡ fault_of (first ∷ rest) x
  fault_same rest x none =
      ap (λ r. option_or r (argument_fault x.word x.argument)) (place_same rest x none)

  rest_same : (rest left : List Line) → has_line word.Exchange (rest ++ left) ≡ false
      → Clear (first ∷ rest) left → Clear (front ++ first ∷ rest) left
  rest_same rest [] none clear = refl
  rest_same rest (x ∷ left) none clear =
      let parts = none_next (fault_of (first ∷ rest) x) _ _ clear in
      let early = or_false (has_line word.Exchange rest) (has_line word.Exchange (x ∷ left))
      (sym (list_any-append (has word.Exchange) rest (x ∷ left)) ∙ none) in
      clear_more (front ++ first ∷ rest) x left (fault_same rest x early.0 ∙ parts.0)
      (rw (append_assoc front (first ∷ rest) (x ∷ []))
      (rest_same (rest ++ x ∷ []) left (rw (append_assoc rest (x ∷ []) left) none) parts.1))

  -- an exchange that is valid by itself is valid after lines that are no plan
  own_lines : (rest : List Line) → has_line word.Exchange rest ≡ false
      → Clear [] (first ∷ rest) → Clear front (first ∷ rest)
  own_lines rest none clear =
      let parts = none_next (fault_of [] first) _ _ clear in
      clear_more front first rest (rw unplanned parts.0) (rest_same [] rest none parts.1)

-- ---- the text, line by line

split_line : (text rest : List ℕ) → list_any is_newline text ≡ false
    → slice_split is_newline (text ++ 10 ∷ rest) ≡ text ∷ slice_split is_newline rest
split_line [] rest none = refl
split_line (x ∷ text) rest none =
    let parts = or_false (is_newline x) (list_any is_newline text) none in
    rw (parts.0, split_line text rest parts.1) refl

none_at : (text : List ℕ) (i : ℕ) → list_any (λ b. b == 13) text ≡ false
    → (slice_index text i == 13) ≡ false
none_at [] i none = refl
none_at (x ∷ text) zero none = (or_false (x == 13) (list_any (λ b. b == 13) text) none).0
none_at (x ∷ text) (suc i) none =
    none_at text i (or_false (x == 13) (list_any (λ b. b == 13) text) none).1

unstripped : (text : List ℕ) → list_any (λ b. b == 13) text ≡ false
    → strip_carriage_return text ≡ text
unstripped text none = rw (none_at text (length text - 1) none) refl

-- no byte of the text ends a line
pub record IsOneLine (text : List ℕ) : Type 0 where
  newline : list_any is_newline text ≡ false
  return : list_any (λ b. b == 13) text ≡ false

one_more_line : (text rest : List ℕ) → IsOneLine text
    → script_lines ((text ++ 10 ∷ []) ++ rest) ≡ line_of text ∷ script_lines rest
one_more_line text rest is =
    rw (append_assoc text (10 ∷ []) rest, split_line text rest is.newline, unstripped text is.return)
    refl

pieces : (a b c d e : List ℕ) → a ++ (b ++ (c ++ (d ++ e))) ≡ ((a ++ b ++ c) ++ d) ++ e
pieces a b c d e = sym (simp append_assoc)

-- digits with a text before and after them
digits_between : (front back : List ℕ) (n : ℕ) → IsOneLine front → IsOneLine back → n < 2 ^ 64
    → IsOneLine (front ++ decimal n ++ back)
digits_between front back n before behind small =
    let few : n ≤ 18446744073709551615 = omega (arith, small) in
    record {
      newline = rw (
        list_any-append is_newline (front ++ decimal n) back,
        list_any-append is_newline front (decimal n),
        before.newline,
        none_in 10 n refl few,
        behind.newline,
      ) refl;
      return = rw (
        list_any-append (λ b. b == 13) (front ++ decimal n) back,
        list_any-append (λ b. b == 13) front (decimal n),
        before.return,
        none_in 13 n refl few,
        behind.return,
      ) refl;
    }

text_line : (argument : List ℕ) → line_of (codes "text " ++ argument) ≡ with_word word.Text argument
text_line argument =
    let some : (length (codes "text " ++ argument) == 0) ≡ false = grind (arith, nat_tests) in
    rw some refl

plan_line_is : (argument : List ℕ) → line_of (codes "plan " ++ argument) ≡ with_word word.Plan argument
plan_line_is argument =
    let some : (length (codes "plan " ++ argument) == 0) ≡ false = grind (arith, nat_tests) in
    rw some refl

-- ---- an exchange of a load

abbrev head_argument : Route → List ℕ
head_argument route.Bytes = codes "POST /bytes"
head_argument route.Json = codes "POST /json"
head_argument route.Form = codes "POST /form"

-- the lines after the first, up to the first piece
abbrev head_rest : Route → List Line
head_rest route.Bytes = with_word word.Text (codes "v") ∷ []
head_rest route.Json =
    with_word word.Header (codes "content-type application/json")
    ∷ with_word word.Text (codes "{\"name\":\"x\",\"n\":") ∷ []
head_rest route.Form =
    with_word word.Header (codes "content-type application/x-www-form-urlencoded")
    ∷ with_word word.Text (codes "name=x&n=") ∷ []

abbrev stall_lines : ℕ → List Line
stall_lines n = replicate n (with_word word.Stall [])

-- the end of the last line
abbrev back : Route → List ℕ
back route.Bytes = []
back route.Json = codes "}"
back route.Form = []

abbrev rest_lines : Route → ℕ → List ℕ → List Line
rest_lines r stalls last = head_rest r ++ (stall_lines stalls ++ with_word word.Text last ∷ [])

head_split : (r : Route) (rest : List ℕ) → script_lines (head_text r ++ rest)
    ≡ with_word word.Exchange (head_argument r) ∷ (head_rest r ++ script_lines rest)
head_split route.Bytes rest = refl
head_split route.Json rest = refl
head_split route.Form rest = refl

stalls_split : (n : ℕ) (rest : List ℕ)
    → script_lines (flat_map line (replicate n (codes "stall")) ++ rest)
    ≡ stall_lines n ++ script_lines rest
stalls_split zero rest = refl
stalls_split (suc n) rest = ap (λ lines. with_word word.Stall [] ∷ lines) (stalls_split n rest)

end_split : (r : Route) (rest : List ℕ) → end_text r ++ rest ≡ back r ++ 10 ∷ rest
end_split route.Bytes rest = refl
end_split route.Json rest = refl
end_split route.Form rest = refl

back_is_line : (r : Route) → IsOneLine (back r)
back_is_line route.Bytes = record { newline = refl; return = refl }
back_is_line route.Json = record { newline = refl; return = refl }
back_is_line route.Form = record { newline = refl; return = refl }

last_split : (r : Route) (n : ℕ) (rest : List ℕ) → n < 2 ^ 64
    → script_lines (codes "text " ++ (decimal n ++ (end_text r ++ rest)))
    ≡ with_word word.Text (decimal n ++ back r) ∷ script_lines rest
last_split r n rest small =
    let text = codes "text " ++ decimal n ++ back r in
    let is = digits_between (codes "text ") (back r) n (record { newline = refl; return = refl })
    (back_is_line r) small in
    let whole : codes "text " ++ (decimal n ++ (end_text r ++ rest)) ≡ (text ++ 10 ∷ []) ++ rest =
    rw (end_split r rest) (pieces (codes "text ") (decimal n) (back r) (10 ∷ []) rest) in
    ap script_lines whole ∙ one_more_line text rest is
    ∙ ap (λ l. l ∷ script_lines rest) (text_line (decimal n ++ back r))

regroup : (h s t d e r : List ℕ)
    → (((h ++ (s ++ t)) ++ d) ++ e) ++ r ≡ h ++ (s ++ (t ++ (d ++ (e ++ r))))
regroup h s t d e r = simp append_assoc

exchange_split : (d : Drawn) (rest : List ℕ) → d.number < 2 ^ 64
    → script_lines (exchange_text d ++ rest)
    ≡ (with_word word.Exchange (head_argument d.route)
    ∷ rest_lines d.route d.stalls (decimal d.number ++ back d.route)) ++ script_lines rest
exchange_split d rest small =
    let stalls = flat_map line (replicate d.stalls (codes "stall")) in
    let behind = codes "text " ++ (decimal d.number ++ (end_text d.route ++ rest)) in
    let last = with_word word.Text (decimal d.number ++ back d.route) in
    let parts : script_lines (stalls ++ behind)
    ≡ (stall_lines d.stalls ++ last ∷ []) ++ script_lines rest =
    stalls_split d.stalls behind
    ∙ rw (
      last_split d.route d.number rest small,
      append_assoc (stall_lines d.stalls) (last ∷ []) (script_lines rest),
    ) refl in
    ap script_lines (regroup (head_text d.route) stalls (codes "text ") (decimal d.number)
    (end_text d.route) rest)
    ∙ head_split d.route (stalls ++ behind)
    ∙ rw (
      parts,
      append_assoc (head_rest d.route) (stall_lines d.stalls ++ last ∷ [])
          (script_lines rest),
    ) refl

-- an exchange of a load is valid by itself, and names no plan
pub record IsOwn (text : List ℕ) (rest : List Line) : Type 0 where
  pub clear : Clear [] (with_word word.Exchange text ∷ rest)
  pub single : has_line word.Exchange rest ≡ false
  pub unplanned : has_line word.Plan rest ≡ false

own_exchange : (r : Route) (stalls : ℕ) (last : List ℕ) → stalls < 3
    → IsOwn (head_argument r) (rest_lines r stalls last)
unfolding is_request is_method is_token_byte is_field_name is_field_value target_of is_origin is_path_input is_path_and_query is_utf8 chars encode
own_exchange route.Bytes zero last few = record { clear = refl; single = refl; unplanned = refl }
own_exchange route.Bytes (suc zero) last few =
    record { clear = refl; single = refl; unplanned = refl }
own_exchange route.Bytes (suc (suc zero)) last few =
    record { clear = refl; single = refl; unplanned = refl }
own_exchange route.Bytes (suc (suc (suc n))) last few = absurd (omega (arith, few))
own_exchange route.Json zero last few = record { clear = refl; single = refl; unplanned = refl }
own_exchange route.Json (suc zero) last few =
    record { clear = refl; single = refl; unplanned = refl }
own_exchange route.Json (suc (suc zero)) last few =
    record { clear = refl; single = refl; unplanned = refl }
own_exchange route.Json (suc (suc (suc n))) last few = absurd (omega (arith, few))
own_exchange route.Form zero last few = record { clear = refl; single = refl; unplanned = refl }
own_exchange route.Form (suc zero) last few =
    record { clear = refl; single = refl; unplanned = refl }
own_exchange route.Form (suc (suc zero)) last few =
    record { clear = refl; single = refl; unplanned = refl }
own_exchange route.Form (suc (suc (suc n))) last few = absurd (omega (arith, few))

-- what is left is valid after any lines that are no plan, or after any lines
abbrev Continues : List ℕ → Type 0
Continues rest =
    (before : List Line) → has_line word.Plan before ≡ false → Clear before (script_lines rest)

abbrev Ends : List ℕ → Type 0
Ends rest = (before : List Line) → Clear before (script_lines rest)

pub record IsDrawn (d : Drawn) : Type 0 where
  pub stalls : d.stalls < 3
  pub number : d.number < 1000

one_exchange : (d : Drawn) (rest : List ℕ)
    → IsDrawn d → Continues rest → Continues (exchange_text d ++ rest)
one_exchange d rest is next before unplanned =
    let small : d.number < 2 ^ 64 = (let few = is.number in omega (arith, few)) in
    let last = decimal d.number ++ back d.route in
    let text = head_argument d.route in
    let lines = rest_lines d.route d.stalls last in
    let block = with_word word.Exchange text ∷ lines in
    let own = own_exchange d.route d.stalls last is.stalls in
    let none : has_line word.Plan (before ++ block) ≡ false =
    list_any-append (has word.Plan) before block ∙ rw (unplanned, own.unplanned) refl in
    rw (exchange_split d rest small)
    (clear_both before block (script_lines rest)
    (own_lines before unplanned text lines own.single own.clear) (next (before ++ block) none))

module _ (f : ℕ → Drawn) (are : (k : ℕ) → IsDrawn (f k)) where
  exchanges_continue : (a n : ℕ) (rest : List ℕ) → Continues rest
      → Continues (flat_map (λ k. exchange_text (f k)) (range_with_len a n) ++ rest)
  exchanges_continue a zero rest next = next
  exchanges_continue a (suc n) rest next = λ before unplanned.
      let others = flat_map (λ k. exchange_text (f k)) (range_with_len (a + 1) n) in
      ap (λ text. first_fault_after before (script_lines text))
      (append_assoc (exchange_text (f a)) others rest)
      ∙ one_exchange (f a) (others ++ rest) (are a) (exchanges_continue (a + 1) n rest next)
      before unplanned

-- ---- the plan

split_none : (text : List ℕ) → list_any is_space text ≡ false
    → slice_split is_space text ≡ text ∷ []
split_none [] none = refl
split_none (x ∷ text) none =
    let parts = or_false (is_space x) (list_any is_space text) none in
    rw (parts.0, split_none text parts.1) refl

one_entry : (k : ℕ) → k < 2 ^ 32 → entries_of (decimal k) ≡ Some (k ∷ [])
one_entry k small =
    let within : k ≤ max_entry = omega (arith, small) in
    let most : max_entry ≤ 18446744073709551615 = omega arith in
    let fits : k < 2 ^ 64 = omega (arith, small) in
    let few : k ≤ 18446744073709551615 = omega (arith, small) in
    let some : (length (decimal k) == 0) ≡ false =
    grind (arith, nat_tests, decimal_nonempty k fits) in
    rw (some, split_none (decimal k) (none_in 32 k refl few), number_back k max_entry within most)
    refl

plan_fine : (before : List Line) (k : ℕ) → k < 2 ^ 32
    → fault_of before (with_word word.Plan (decimal k)) ≡ None
plan_fine before k small = rw (one_entry k small) refl

plan_split : (k : ℕ) (rest : List ℕ) → k < 2 ^ 32 → script_lines (plan_line k ++ rest)
    ≡ with_word word.Plan (decimal k) ∷ script_lines rest
plan_split k rest small =
    let is = digits_between (codes "plan ") [] k (record { newline = refl; return = refl })
    (record { newline = refl; return = refl }) (omega (arith, small)) in
    let one : IsOneLine (codes "plan " ++ decimal k) = rw append-nil at is in
    one_more_line (codes "plan " ++ decimal k) rest one
    ∙ ap (λ l. l ∷ script_lines rest) (plan_line_is (decimal k))

plan_ends : (a n : ℕ) (rest : List ℕ) → a + n ≤ 2 ^ 32 → Ends rest
    → Ends (flat_map plan_line (range_with_len a n) ++ rest)
plan_ends a zero rest small next = next
plan_ends a (suc n) rest small next = λ before.
    let others = flat_map plan_line (range_with_len (a + 1) n) in
    let here : a < 2 ^ 32 = omega (arith, small) in
    let fewer : a + 1 + n ≤ 2 ^ 32 = omega (arith, small) in
    let line = with_word word.Plan (decimal a) in
    ap (λ lines. first_fault_after before lines)
    (ap script_lines (append_assoc (plan_line a) others rest)
    ∙ plan_split a (others ++ rest) here)
    ∙ clear_more before line (script_lines (others ++ rest)) (plan_fine before a here)
    (plan_ends (a + 1) n rest fewer next (before ++ line ∷ []))

-- ---- the script

draws : (state : ℕ) → IsDrawn (drawn_of state)
draws state = record {
  stalls = grind arith;
  number = grind arith;
}

-- the last newline ends the script: the line after it is empty
nothing_left : Ends []
nothing_left before = refl

pub valid_load : (seed count : ℕ) → count < 2 ^ 32
    → is_valid_script (script_lines (script_text seed count)) ≡ true
unfolding script_text
valid_load seed count small =
    let round = plan_round count in
    let whole : (exchanges_from seed count ++ round) ++ round
    ≡ exchanges_from seed count ++ (round ++ (round ++ [])) = simp (append_assoc, append-nil) in
    let within : 0 + count ≤ 2 ^ 32 = omega (arith, small) in
    let second : Ends (round ++ []) = plan_ends 0 count [] within nothing_left in
    let both : Ends (round ++ (round ++ [])) = plan_ends 0 count (round ++ []) within second in
    let clear : Clear [] (script_lines (exchanges_from seed count ++ (round ++ (round ++ [])))) =
    exchanges_continue (λ k. drawn_of (state_after seed (k + 1)))
    (λ k. draws (state_after seed (k + 1))) 0 count (round ++ (round ++ []))
    (λ before unplanned. both before) [] refl in
    rw (whole, clear) refl
