-- Answers that are known so many bytes later, or after one more stall.
use Rattle.std.proofs.Common.{◌≡◌, ◌<◌, ◌≤◌, ◌+◌, ◌-◌, ℕ, zero, suc, Bool, true, false, List, [], ◌∷◌, ◌++◌, cond, Ok, Err, refl, sym, ◌∙◌, ap, length, map, arith, append_assoc}
use Rattle.std.specs.Prelude.{nat_lt}
use Rattle.std.specs.List.{list_any}
use Rattle.std.proofs.lemmas.List.{length-append}
use Rattle.web_texts.specs.Bytes.{is_newline}
use Rattle.web_request.specs.declared.source.Mark.{Mark}
use Rattle.web_request.specs.declared.source.Mark.TheVariants.{Piece, Stall}
use Rattle.web_request.specs.Body.{ends_in_fault, piece_bytes, stalls}
use Rattle.web_lines.specs.Lines.{AfterBytes, Answer, AtEnd, LineAnswer, Moment, and_then, answers_from, fault_answers, goes_on, line_answer, line_answers, lines_of, rest_answer}
use Rattle.web_lines.specs.LineSchedules.{Due, delay_of, due, end_of, ends_at, later, one_later, schedule, stalls_before}
use Rattle.web_lines.specs.LineCuts.{IsUnfinished}
use Rattle.web_lines.proofs.LineLemmas.{begins, none-append}

-- ---- so many bytes later

abbrev pub moved : ℕ → Moment → Moment
moved k (AfterBytes n) = AfterBytes (k + n)
moved k AtEnd = AtEnd

abbrev pub shifted : ℕ → LineAnswer → LineAnswer
shifted k a = record { known = moved k a.known; answer = a.answer }

shift_sum : (k start n : ℕ) → k + start + n ≡ k + (start + n)
shift_sum k start n = omega arith

shift_over : (k start limit : ℕ) → k + start + limit + 1 ≡ k + (start + limit + 1)
shift_over k start limit = omega arith

line_shift : (limit k start : ℕ) (line : List ℕ) (b : Bool) → nat_lt limit (length line) ≡ b → line_answer limit (k + start) line ≡ shifted k (line_answer limit start line)
line_shift limit k start line true e = rw (e, shift_over k start limit) refl
line_shift limit k start line false e = rw (e, shift_sum k start (length line)) refl

rest_shift : (limit : ℕ) (fault : Bool) (k start : ℕ) (line : List ℕ) (b : Bool) → nat_lt limit (length line) ≡ b → rest_answer limit fault (k + start) line ≡ shifted k (rest_answer limit fault start line)
rest_shift limit fault k start line true e = rw (e, shift_over k start limit) refl
rest_shift limit fault k start line false e = rw e refl

goes_on_map : (f : LineAnswer → LineAnswer) (a : Answer) (rest : List LineAnswer) → goes_on a (map f rest) ≡ map f (goes_on a rest)
goes_on_map f (Ok line) rest = refl
goes_on_map f (Err error) rest = refl

fault_shift : (k : ℕ) (fault : Bool) → fault_answers fault ≡ map (shifted k) (fault_answers fault)
fault_shift k true = refl
fault_shift k false = refl

then_shift : (k : ℕ) (a : LineAnswer) (rest : List LineAnswer) → and_then (shifted k a) (map (shifted k) rest) ≡ map (shifted k) (and_then a rest)
then_shift k a rest = ap (λ l. shifted k a ∷ l) (goes_on_map (shifted k) a.answer rest)

shift_step : (limit : ℕ) (fault : Bool) (k start : ℕ) (line : List ℕ) (lines : List (List ℕ)) (b : Bool)
    → answers_from limit fault (k + (start + length line)) lines ≡ map (shifted k) (answers_from limit fault (start + length line) lines)
    → cond b (and_then (line_answer limit (k + start) line) (answers_from limit fault (k + start + length line) lines)) (rest_answer limit fault (k + start) line ∷ [])
    ≡ map (shifted k) (cond b (and_then (line_answer limit start line) (answers_from limit fault (start + length line) lines)) (rest_answer limit fault start line ∷ []))
shift_step limit fault k start line lines true more =
    rw (line_shift limit k start line (nat_lt limit (length line)) refl, shift_sum k start (length line), more)
    (then_shift k (line_answer limit start line) (answers_from limit fault (start + length line) lines))
shift_step limit fault k start line lines false more =
    ap (λ a. a ∷ []) (rest_shift limit fault k start line (nat_lt limit (length line)) refl)

pub answers_shift : (limit : ℕ) (fault : Bool) (k start : ℕ) (lines : List (List ℕ)) → answers_from limit fault (k + start) lines ≡ map (shifted k) (answers_from limit fault start lines)
answers_shift limit fault k start [] = fault_shift k fault
answers_shift limit fault k start (line ∷ lines) =
    shift_step limit fault k start line lines (list_any is_newline line) (answers_shift limit fault k (start + length line) lines)

delay_shift : (k came : ℕ) (m : List Mark) (t : Moment) → delay_of (k + came) m (moved k t) ≡ delay_of came m t
delay_shift k came m (AfterBytes n) = let e : (k + n) - (k + came) ≡ n - came = omega arith in ap (λ i. stalls_before i m) e
delay_shift k came m AtEnd = refl

pub due_shift : (k came : ℕ) (m : List Mark) (rest : List LineAnswer) → map (due (k + came) m) (map (shifted k) rest) ≡ map (due came m) rest
due_shift k came m [] = refl
due_shift k came m (a ∷ rest) = rw (delay_shift k came m a.known, due_shift k came m rest) refl

-- ---- a piece

zero_less : (n : ℕ) → 0 - n ≡ 0
zero_less n = omega arith

stalls_piece : (n : ℕ) (b : List ℕ) (m : List Mark) → stalls_before n (Piece b ∷ m) ≡ stalls_before (n - length b) m
stalls_piece zero b m = rw (zero_less (length b)) refl
stalls_piece (suc n) b m = refl

delay_piece : (came : ℕ) (b : List ℕ) (m : List Mark) (t : Moment) → delay_of came (Piece b ∷ m) t ≡ delay_of (came + length b) m t
delay_piece came b m (AfterBytes n) =
    let e : (n - came) - length b ≡ n - (came + length b) = omega arith in
    stalls_piece (n - came) b m ∙ ap (λ i. stalls_before i m) e
delay_piece came b m AtEnd = refl

due_piece : (came : ℕ) (b : List ℕ) (m : List Mark) (rest : List LineAnswer) → map (due came (Piece b ∷ m)) rest ≡ map (due (came + length b) m) rest
due_piece came b m [] = refl
due_piece came b m (a ∷ rest) = rw (delay_piece came b m a.known, due_piece came b m rest) refl

pub schedule_piece : (limit : ℕ) (came b : List ℕ) (m : List Mark) → schedule limit came (Piece b ∷ m) ≡ schedule limit (came ++ b) m
schedule_piece limit came b m =
    rw (← append_assoc came b (piece_bytes m), length-append came b, due_piece (length came) b m (line_answers limit (ends_in_fault m) ((came ++ b) ++ piece_bytes m))) refl

-- ---- a stall

abbrev pub IsLater : ℕ → Moment → Type 0
IsLater came (AfterBytes n) = came < n
IsLater came AtEnd = Unit {0}

abbrev pub AllLater : ℕ → List LineAnswer → Type 0
AllLater came [] = Unit {0}
AllLater came (a ∷ rest) = IsLater came a.known × AllLater came rest

later_goes_on : (came : ℕ) (a : Answer) (rest : List LineAnswer) → AllLater came rest → AllLater came (goes_on a rest)
later_goes_on came (Ok line) rest h = h
later_goes_on came (Err error) rest h = tt

later_fault : (came : ℕ) (fault : Bool) → AllLater came (fault_answers fault)
later_fault came true = (tt, tt)
later_fault came false = tt

not_empty : (line : List ℕ) → list_any is_newline line ≡ true → 0 < length line
not_empty [] e = absurd (cc)
not_empty (b ∷ line) e = omega arith

later_line : (came limit start : ℕ) (line : List ℕ) (b : Bool) → nat_lt limit (length line) ≡ b → came < start + limit + 1 → came < start + length line
    → IsLater came (line_answer limit start line).known
later_line came limit start line true e h k = rw e h
later_line came limit start line false e h k = rw e k

later_rest : (came limit : ℕ) (fault : Bool) (start : ℕ) (line : List ℕ) (b : Bool) → nat_lt limit (length line) ≡ b → came < start + limit + 1
    → IsLater came (rest_answer limit fault start line).known
later_rest came limit fault start line true e h = rw e h
later_rest came limit fault start line false e h = rw e tt

later_step : (came limit : ℕ) (fault : Bool) (start : ℕ) (line : List ℕ) (lines : List (List ℕ)) (b : Bool) → came < start + limit + 1 → (b ≡ true → came < start + length line)
    → AllLater came (answers_from limit fault (start + length line) lines)
    → AllLater came (cond b (and_then (line_answer limit start line) (answers_from limit fault (start + length line) lines)) (rest_answer limit fault start line ∷ []))
later_step came limit fault start line lines true h k more =
    (later_line came limit start line (nat_lt limit (length line)) refl h (k refl), later_goes_on came (line_answer limit start line).answer (answers_from limit fault (start + length line) lines) more)
later_step came limit fault start line lines false h k more =
    (later_rest came limit fault start line (nat_lt limit (length line)) refl h, tt)

all_later : (came limit : ℕ) (fault : Bool) (start : ℕ) (lines : List (List ℕ)) → came ≤ start → AllLater came (answers_from limit fault start lines)
all_later came limit fault start [] h = later_fault came fault
all_later came limit fault start (line ∷ lines) h =
    later_step came limit fault start line lines (list_any is_newline line) (omega (arith, h)) (λ e. omega (arith, h, not_empty line e))
    (all_later came limit fault (start + length line) lines (omega (arith, h)))

-- a line that has a newline is longer than its front without one
beyond : (front x : List ℕ) (b : Bool) → list_any is_newline x ≡ b → list_any is_newline front ≡ false → list_any is_newline (front ++ x) ≡ true → length front < length (front ++ x)
beyond front x true e none has = omega (arith, length-append front x, not_empty x e)
beyond front x false e none has = let n = none-append front x none e in absurd (cc)

first_later : (limit : ℕ) (fault : Bool) (came line : List ℕ) (lines : List (List ℕ)) (x : List ℕ) → list_any is_newline came ≡ false → length came ≤ limit → line ≡ came ++ x
    → AllLater (length came) (answers_from limit fault 0 (line ∷ lines))
first_later limit fault came line lines x none within is =
    let size : length line ≡ length came + length x = ap length is ∙ length-append came x in
    later_step (length came) limit fault 0 line lines (list_any is_newline line) (omega (arith, within))
    (λ e. let far = beyond came x (list_any is_newline x) refl none (sym (ap (list_any is_newline) is) ∙ e) in omega (arith, ap length is, far))
    (all_later (length came) limit fault (0 + length line) lines (omega (arith, size)))

pub later_all : (limit : ℕ) (fault : Bool) (came more : List ℕ) → IsUnfinished limit came → AllLater (length came) (line_answers limit fault (came ++ more))
later_all limit fault [] more on = all_later 0 limit fault 0 (lines_of more) (omega arith)
later_all limit fault (b ∷ front) more on =
    let p = begins b front more on.none in
    rw p.2 (first_later limit fault (b ∷ front) ((b ∷ front) ++ p.0) p.1 p.0 on.none on.within refl)

stalls_stall : (n : ℕ) (m : List Mark) → 0 < n → stalls_before n (Stall ∷ m) ≡ suc (stalls_before n m)
stalls_stall zero m h = absurd (omega (arith, h))
stalls_stall (suc n) m h = refl

delay_stall : (came : ℕ) (m : List Mark) (t : Moment) → IsLater came t → delay_of came (Stall ∷ m) t ≡ suc (delay_of came m t)
delay_stall came m (AfterBytes n) h = stalls_stall (n - came) m (omega (arith, h))
delay_stall came m AtEnd h = refl

due_stall : (came : ℕ) (m : List Mark) (rest : List LineAnswer) → AllLater came rest → map (due came (Stall ∷ m)) rest ≡ map later (map (due came m) rest)
due_stall came m [] h = refl
due_stall came m (a ∷ rest) h = rw (delay_stall came m a.known h.0, due_stall came m rest h.1) refl

ends_later : (a : Answer) (delay rest : ℕ) → ends_at a (suc delay) (suc rest) ≡ suc (ends_at a delay rest)
ends_later (Ok line) delay rest = refl
ends_later (Err error) delay rest = refl

end_later : (last : ℕ) (ds : List Due) → end_of (suc last) (map later ds) ≡ suc (end_of last ds)
end_later last [] = refl
end_later last (d ∷ ds) = rw (end_later last ds) (ends_later d.answer d.delay (end_of last ds))

pub schedule_stall : (limit : ℕ) (came : List ℕ) (m : List Mark) → IsUnfinished limit came → schedule limit came (Stall ∷ m) ≡ one_later (schedule limit came m)
schedule_stall limit came m on =
    let rest = line_answers limit (ends_in_fault m) (came ++ piece_bytes m) in
    let all = later_all limit (ends_in_fault m) came (piece_bytes m) on in
    rw (due_stall (length came) m rest all, end_later (stalls m) (map (due (length came) m) rest)) refl
