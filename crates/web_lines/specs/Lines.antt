-- The lines of a body, what is answered of each, and from which byte on that is known.
use Rattle.std.specs.Prelude.{ℕ, ◌+◌, Bool, true, false, List, [], ◌∷◌, length, nat_lt}
use Rattle.std.specs.Prelude.{Result, Ok, Err, if◌then◌else◌}
use Rattle.std.specs.List.{list_any}
use Rattle.std.specs.Str.{is_utf8}
use Rattle.web_texts.specs.Bytes.{is_newline}
use Rattle.web_body.specs.declared.message_body.PayloadError.TheVariants.{Io}
use Rattle.web_body.specs.declared.errors.lines_error.ReadlinesError.{ReadlinesError}
use Rattle.web_body.specs.declared.errors.lines_error.ReadlinesError.TheVariants.{EncodingError}
use Rattle.web_body.specs.declared.errors.lines_error.ReadlinesError.TheVariants.{LimitOverflow}
use Rattle.web_body.specs.declared.errors.lines_error.ReadlinesError.TheVariants.{Payload}

abbrev pub onto_line : ℕ → List (List ℕ) → List (List ℕ)
onto_line b [] = (b ∷ []) ∷ []
onto_line b (line ∷ lines) = (b ∷ line) ∷ lines

-- The bytes cut after each newline; an unfinished rest stands last, where it is not empty.
abbrev pub lines_of : List ℕ → List (List ℕ)
lines_of [] = []
lines_of (b ∷ bytes) =
    if is_newline b then (b ∷ []) ∷ lines_of bytes else onto_line b (lines_of bytes)

-- the first of these lines, and nothing where there is none
abbrev pub first_of : List (List ℕ) → List ℕ
first_of [] = []
first_of (line ∷ lines) = line

abbrev pub Answer : Type 0
Answer = Result (List ℕ) ReadlinesError

-- when an answer is known: once so many bytes came, or at the end of the body
pub data Moment : Type 0 where
  AfterBytes : ℕ → Moment
  AtEnd : Moment

pub record LineAnswer : Type 0 where
  pub known : Moment
  pub answer : Answer

-- a line must be UTF-8
abbrev pub text_answer : List ℕ → Answer
text_answer line = if is_utf8 line then Ok line else Err EncodingError

-- of a line that is too long, known at its first byte past the limit
abbrev pub too_long : ℕ → ℕ → LineAnswer
too_long limit start = record {
  known = AfterBytes (start + limit + 1);
  answer = Err LimitOverflow;
}

-- of a line that ends in a newline, before which so many bytes stand
abbrev pub line_answer : ℕ → ℕ → List ℕ → LineAnswer
line_answer limit start line =
    if nat_lt limit (length line) then too_long limit start
    else record { known = AfterBytes (start + length line); answer = text_answer line }

-- of the unfinished rest: a fault drops it
abbrev pub rest_answer : ℕ → Bool → ℕ → List ℕ → LineAnswer
rest_answer limit fault start line =
    if nat_lt limit (length line) then too_long limit start
    else record {
      known = AtEnd;
      answer = if fault then Err (Payload Io) else text_answer line;
    }

-- of a fault after the last newline
abbrev pub fault_answers : Bool → List LineAnswer
fault_answers true = record { known = AtEnd; answer = Err (Payload Io) } ∷ []
fault_answers false = []

abbrev pub goes_on : Answer → List LineAnswer → List LineAnswer
goes_on (Ok line) rest = rest
goes_on (Err error) rest = []

-- the first error is the last answer
abbrev pub and_then : LineAnswer → List LineAnswer → List LineAnswer
and_then first rest = first ∷ goes_on first.answer rest

abbrev pub answers_from : ℕ → Bool → ℕ → List (List ℕ) → List LineAnswer
answers_from limit fault start [] = fault_answers fault
answers_from limit fault start (line ∷ lines) =
    if list_any is_newline line
    then and_then (line_answer limit start line)
    (answers_from limit fault (start + length line) lines)
    else rest_answer limit fault start line ∷ []

-- the answers of a body of these bytes, which may end in a fault
abbrev pub line_answers : ℕ → Bool → List ℕ → List LineAnswer
line_answers limit fault bytes = answers_from limit fault 0 (lines_of bytes)
