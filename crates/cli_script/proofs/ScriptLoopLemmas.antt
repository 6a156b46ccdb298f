-- The loop over a script's lines.
use Rattle.std.proofs.Common.{◌≡◌, ◌<◌, ◌≤◌, ◌^◌, ℕ, ◌+◌, true, List, [], ◌∷◌, ◌++◌, refl, sym, ◌∙◌, append_assoc, length-append, length, take, drop, subst, arith}
use Rattle.std.specs.Prelude.{OnOk, Option, None, Some, Result, Ok, Err}
use Rattle.std.specs.Option.{ForSome}
use Rattle.std.specs.Str.Lines.{strip_carriage_return}
use Rattle.std.specs.List.{AllPass, slice_split}
use Rattle.std.proofs.Math.Seq.{take-length}
use Rattle.std.proofs.lemmas.List.{append-nil, length-drop}
use Rattle.web_texts.specs.Bytes.{is_newline}
use Rattle.web_texts.specs.declared.memory.Fail.{Fail}
use Rattle.web_texts.specs.declared.memory.Fail.TheVariants as fail
use Rattle.web_request.specs.Body.{is_body, piece_bytes}
use Rattle.cli_script.specs.Acceptance.{Accepts, Refuses}
use Rattle.cli_script.specs.ExchangeSinks.{Adds}
use Rattle.cli_script.specs.Line.{Line, line_of}
use Rattle.cli_script.specs.LineFaults.{fault_of}
use Rattle.cli_script.specs.Script.{script_lines, first_fault_after, first_fault}
use Rattle.cli_script.specs.ScriptExchanges.{exchanges}
use Rattle.cli_script.specs.ScriptReading.{IsWholeRead, with_line}
use Rattle.cli_script.specs.ScriptedView.{ScriptedExchangeView}
use Rattle.cli_script.specs.Reader.{ReaderView, new_reader, refusal, after_line, completed_by, Reads}
use Rattle.cli_script.specs.declared.reason.LineFault.{LineFault}
use Rattle.cli_script.specs.declared.script.InvalidScript.{InvalidScript}
use Rattle.cli_script.proofs.ReaderLemmas.{IsRead, read_more, refusal_is, exchanges_read}
use Rattle.cli_script.proofs.MarksLemmas.{IsSound, sound_start, sound_more, bodies_read, open_body}
use Rattle.cli_script.proofs.ScriptSizeLemmas.{open_small}

-- the lines before were read, and these are left
pub record IsAt (lines before left : List Line) (whole : List ScriptedExchangeView) (s : ReaderView) : Type 0 where
  pub lines_are : lines ≡ before ++ left
  pub read : IsRead before whole s
  pub faults : first_fault_after before left ≡ first_fault lines
  pub sound : IsSound whole s

at_start : (lines : List Line) → IsAt lines [] lines [] new_reader
at_start lines = record {
  lines_are = refl;
  read = record { plan = refl; has_plan = refl; exchange = (refl, refl) };
  faults = refl;
  sound = sound_start;
}

valid_line : (before : List Line) (x : Line) (left : List Line) (all : Option InvalidScript) → fault_of before x ≡ None
    → first_fault_after before (x ∷ left) ≡ all → first_fault_after (before ++ x ∷ []) left ≡ all
valid_line before x left all valid e = rw valid at e

at_next : (lines before : List Line) (x : Line) (left : List Line) (whole : List ScriptedExchangeView) (s : ReaderView) → IsAt lines before (x ∷ left) whole s → refusal s x ≡ None
    → IsAt lines (before ++ x ∷ []) left (whole ++ completed_by s x.word) (after_line s x.word x.argument)
at_next lines before x left whole s at fine = record {
  lines_are = at.lines_are ∙ sym (append_assoc before (x ∷ []) left);
  read = read_more before whole s x.word x.argument at.read;
  faults = valid_line before x left _ (sym (refusal_is before whole s x.word x.argument at.read) ∙ fine) at.faults;
  sound = sound_more whole s x.word x.argument fine at.sound;
}

at_fault : (lines before : List Line) (x : Line) (left : List Line) (whole : List ScriptedExchangeView) (s : ReaderView) (r : LineFault) → IsAt lines before (x ∷ left) whole s → refusal s x ≡ Some r
    → first_fault lines ≡ Some (record { line = length before + 1; reason = r })
at_fault lines before x left whole s r at bad =
    let faulty : fault_of before x ≡ Some r = sym (refusal_is before whole s x.word x.argument at.read) ∙ bad in
    sym at.faults ∙ rw faulty refl

-- ---- the exchanges of a valid script have bodies

by_line : (lines before : List Line) (x : Line) (left : List Line) (whole : List ScriptedExchangeView) (s : ReaderView) (bad : Option LineFault) → refusal s x ≡ bad → IsAt lines before (x ∷ left) whole s → first_fault lines ≡ None
    → (refusal s x ≡ None → AllPass (λ e. is_body e.marks) (exchanges lines)) → AllPass (λ e. is_body e.marks) (exchanges lines)
by_line lines before x left whole s (Some r) is at valid rest = let bad = at_fault lines before x left whole s r at is in absurd (cc)
by_line lines before x left whole s None is at valid rest = rest is

bodies_on : (lines before left : List Line) (whole : List ScriptedExchangeView) (s : ReaderView) → IsAt lines before left whole s → first_fault lines ≡ None → AllPass (λ e. is_body e.marks) (exchanges lines)
bodies_on lines before [] whole s at valid =
    let all : lines ≡ before = at.lines_are ∙ append-nil before in
    rw (all, exchanges_read before whole s at.read) (bodies_read whole s at.sound)
bodies_on lines before (x ∷ left) whole s at valid =
    by_line lines before x left whole s (refusal s x) refl at valid (λ fine. bodies_on lines (before ++ x ∷ []) left _ _ (at_next lines before x left whole s at fine) valid)

pub all_bodies : (lines : List Line) → first_fault lines ≡ None → AllPass (λ e. is_body e.marks) (exchanges lines)
all_bodies lines valid = bodies_on lines [] lines [] new_reader (at_start lines) valid

-- ---- the lines of a text

first_line : (text line rest : List ℕ) → slice_split is_newline text ≡ line ∷ slice_split is_newline rest
    → script_lines text ≡ line_of (strip_carriage_return line) ∷ script_lines rest
first_line text line rest cut = rw cut refl

last_line : (text line : List ℕ) → slice_split is_newline text ≡ line ∷ [] → script_lines text ≡ line_of (strip_carriage_return line) ∷ []
last_line text line cut = rw cut refl

pub on_ok : {T E P : Type 0} (r : Result T E) → P → OnOk r P
on_ok (Ok x) p = p
on_ok (Err e) p = tt

-- ---- what a line with a number comes to

pub line_fine : (r : Result Unit (Fail LineFault)) (number : ℕ) (u : Unit) (fault : Option LineFault) (P : Type 0) → Ok u ≡ with_line number r → Accepts r fault (λ _. P) → (fault ≡ None) × P
line_fine (Ok u) number v fault P is accepts = accepts
line_fine (Err fail.NoMemory) number v fault P is accepts = absurd (cc)
line_fine (Err (fail.Of r)) number v fault P is accepts = absurd (cc)

pub on_fine : (r : Result Unit (Fail LineFault)) (number : ℕ) (u : Unit) (P : Type 0) → Ok u ≡ with_line number r → OnOk r P → P
on_fine (Ok u) number v P is p = p
on_fine (Err fail.NoMemory) number v P is p = absurd (cc)
on_fine (Err (fail.Of r)) number v P is p = absurd (cc)

line_refused : (r : Result Unit (Fail LineFault)) (number : ℕ) (e : Fail InvalidScript) (fault : Option LineFault) (first : Option InvalidScript) (P : Type 0) → Err e ≡ with_line number r
    → ((x : LineFault) → fault ≡ Some x → first ≡ Some (record { line = number; reason = x })) → Accepts r fault (λ _. P) → Refuses e first
line_refused (Ok u) number e fault first P is told accepts = absurd (cc)
line_refused (Err fail.NoMemory) number e fault first P is told accepts =
    let same : e ≡ fail.NoMemory = cc in
    rw same tt
line_refused (Err (fail.Of x)) number e fault first P is told accepts =
    let same : e ≡ fail.Of (record { line = number; reason = x }) = cc in
    rw same (told x accepts)

-- ---- a sink

module _ {S : Type 0} (holds : S → List ScriptedExchangeView → Type 0) where
  pub adds_nothing : (sink : S) → Adds holds sink sink []
  adds_nothing sink held h = rw (append-nil held) h

  adds_more : (a b c : S) (first more : List ScriptedExchangeView) → Adds holds a b first → Adds holds b c more → Adds holds a c (first ++ more)
  adds_more a b c first more f g held h = subst (holds c) (append_assoc held first more) (g (held ++ first) (f held h))

  -- these lines are left, from the one with this number on, and the sink got the exchanges before the open one
  pub record IsAtLine (bytes left : List ℕ) (start sink : S) (number : ℕ) (s : ReaderView) : Type 0 where
    pub before : List Line
    pub whole : List ScriptedExchangeView
    pub at : IsAt (script_lines bytes) before (script_lines left) whole s
    pub number_is : number ≡ length before + 1
    pub added : Adds holds start sink whole

  pub start_lines : (bytes : List ℕ) (sink : S) (s : ReaderView) → s ≡ new_reader → IsAtLine bytes bytes sink sink 1 s
  start_lines bytes sink s new = record {
    before = [];
    whole = [];
    at = rw new (at_start (script_lines bytes));
    number_is = refl;
    added = adds_nothing sink;
  }

  pub line_body : (bytes left : List ℕ) (start sink : S) (number : ℕ) (s : ReaderView) → IsAtLine bytes left start sink number s → ForSome s.open_exchange (λ e. is_body e.marks ≡ true)
  line_body bytes left start sink number s h = open_body h.whole s h.at.sound

  pub line_small : (bytes left : List ℕ) (start sink : S) (number : ℕ) (s : ReaderView) → length bytes < 2 ^ 63 → IsAtLine bytes left start sink number s → ForSome s.open_exchange (λ e. length (piece_bytes e.marks) < 2 ^ 63)
  line_small bytes left start sink number s small h = open_small bytes h.before (script_lines left) h.whole s small h.at.lines_are h.at.read

  -- a line is read: what the call says of it

  abbrev pub line_at : List ℕ → Line
  line_at first = line_of (strip_carriage_return first)

  module _ (bytes left first : List ℕ) (more : List Line) (start old : S) (number : ℕ) (s : ReaderView)
      (cut : script_lines left ≡ line_at first ∷ more) (h : IsAtLine bytes left start old number s) where
    now : IsAt (script_lines bytes) h.before (line_at first ∷ more) h.whole s
    now = subst (λ (l : List Line). IsAt (script_lines bytes) h.before l h.whole s) cut h.at

    valid_next : (t : ReaderView) → refusal s (line_at first) ≡ None → t ≡ after_line s (line_at first).word (line_at first).argument
        → IsAt (script_lines bytes) (h.before ++ line_at first ∷ []) more (h.whole ++ completed_by s (line_at first).word) t
    valid_next t fine changed = rw changed (at_next (script_lines bytes) h.before (line_at first) more h.whole s now fine)

    valid_added : (new : S) → Adds holds old new (completed_by s (line_at first).word) → Adds holds start new (h.whole ++ completed_by s (line_at first).word)
    valid_added new added = adds_more start old new h.whole _ h.added added

    faulty_line : (r : LineFault) → refusal s (line_at first) ≡ Some r → first_fault (script_lines bytes) ≡ Some (record { line = number; reason = r })
    faulty_line r bad = rw h.number_is (at_fault (script_lines bytes) h.before (line_at first) more h.whole s r now bad)

  -- a line after which others come

  pub refused_line : (bytes left first rest : List ℕ) (start old : S) (number : ℕ) (s t : ReaderView) (r : Result Unit (Fail LineFault)) (e : Fail InvalidScript)
      → slice_split is_newline left ≡ first ∷ slice_split is_newline rest → Reads s t (line_at first) r → Err e ≡ with_line number r → IsAtLine bytes left start old number s
      → Refuses e (first_fault (script_lines bytes))
  refused_line bytes left first rest start old number s t r e cut reads is h =
      line_refused r number e (refusal s (line_at first)) (first_fault (script_lines bytes)) (t ≡ after_line s (line_at first).word (line_at first).argument) is
      (faulty_line bytes left first (script_lines rest) start old number s (first_line left first rest cut) h) reads

  pub next_line : (bytes left first rest : List ℕ) (start old new : S) (number : ℕ) (s t : ReaderView) (r : Result Unit (Fail LineFault)) (u : Unit)
      → slice_split is_newline left ≡ first ∷ slice_split is_newline rest → Reads s t (line_at first) r → OnOk r (Adds holds old new (completed_by s (line_at first).word))
      → Ok u ≡ with_line number r → IsAtLine bytes left start old number s → IsAtLine bytes rest start new (number + 1) t
  next_line bytes left first rest start old new number s t r u cut reads added is h =
      let fine = line_fine r number u (refusal s (line_at first)) (t ≡ after_line s (line_at first).word (line_at first).argument) is reads in
      let got = on_fine r number u (Adds holds old new (completed_by s (line_at first).word)) is added in
      let split = first_line left first rest cut in
      record {
        before = h.before ++ line_at first ∷ [];
        whole = h.whole ++ completed_by s (line_at first).word;
        at = valid_next bytes left first (script_lines rest) start old number s split h t fine.0 fine.1;
        number_is = rw (h.number_is, length-append h.before (line_at first ∷ [])) refl;
        added = valid_added bytes left first (script_lines rest) start old number s split h new got;
      }

  -- the last line

  whole_read : (bytes : List ℕ) (start new : S) (before : List Line) (whole : List ScriptedExchangeView) (t : ReaderView) → length bytes < 2 ^ 63 → IsAt (script_lines bytes) before [] whole t → Adds holds start new whole
      → (first_fault (script_lines bytes) ≡ None) × IsWholeRead holds (script_lines bytes) start new t
  whole_read bytes start new before whole t small at added =
      let all : script_lines bytes ≡ before = at.lines_are ∙ append-nil before in (
        sym at.faults,
        record {
          before = whole;
          added = added;
          exchanges = rw all (exchanges_read before whole t at.read);
          plan = rw all at.read.plan;
          body = open_body whole t at.sound;
          small = open_small bytes before [] whole t small at.lines_are at.read;
        },
      )

  last_of : (bytes left first : List ℕ) (start old new : S) (number : ℕ) (s t : ReaderView) (r : Result Unit (Fail LineFault)) → length bytes < 2 ^ 63 → script_lines left ≡ line_at first ∷ []
      → Reads s t (line_at first) r → OnOk r (Adds holds old new (completed_by s (line_at first).word)) → IsAtLine bytes left start old number s
      → Accepts (with_line number r) (first_fault (script_lines bytes)) (λ _. IsWholeRead holds (script_lines bytes) start new t)
  last_of bytes left first start old new number s t (Ok u) small cut reads added h =
      whole_read bytes start new _ _ t small (valid_next bytes left first [] start old number s cut h t reads.0 reads.1) (valid_added bytes left first [] start old number s cut h new added)
  last_of bytes left first start old new number s t (Err fail.NoMemory) small cut reads added h = tt
  last_of bytes left first start old new number s t (Err (fail.Of x)) small cut reads added h = faulty_line bytes left first [] start old number s cut h x reads

  pub last_line_reads : (bytes left : List ℕ) (n : ℕ) (start old new : S) (number : ℕ) (s t : ReaderView) (r : Result Unit (Fail LineFault)) (result : Result Unit (Fail InvalidScript)) → length bytes < 2 ^ 63
      → slice_split is_newline left ≡ left ∷ [] → n ≡ length left
      → Reads s t (line_at (take n left)) r → OnOk r (Adds holds old new (completed_by s (line_at (take n left)).word))
      → result ≡ with_line number r → IsAtLine bytes left start old number s → Accepts result (first_fault (script_lines bytes)) (λ _. IsWholeRead holds (script_lines bytes) start new t)
  last_line_reads bytes left n start old new number s t r result small cut size reads added is h =
      let all : script_lines left ≡ line_at (take n left) ∷ [] = rw (size, take-length left) (last_line left left cut) in
      rw is (last_of bytes left (take n left) start old new number s t r small all reads added h)

-- the numbers of lines fit, since each line takes a byte
pub next_number : (text : List ℕ) (end number : ℕ) (whole : List ℕ) → end < length text → number + length text ≤ length whole + 1 → number + 1 + length (drop (end + 1) text) ≤ length whole + 1
next_number text end number whole inside fits = rw (length-drop (end + 1) text) (omega (arith, inside, fits))
