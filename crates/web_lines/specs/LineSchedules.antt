-- How often a body stalls before each answer of its lines.
use Rattle.std.specs.Prelude.{ℕ, zero, suc, ◌-◌, ◌++◌, List, [], ◌∷◌, length, map, Ok, Err}
use Rattle.web_request.specs.declared.source.Mark.{Mark}
use Rattle.web_request.specs.declared.source.Mark.TheVariants.{Piece, Stall, Fault}
use Rattle.web_request.specs.Body.{ends_in_fault, piece_bytes, stalls}
use Rattle.web_body.specs.declared.errors.lines_error.ReadlinesError.{ReadlinesError}
use Rattle.web_lines.specs.Lines.{AfterBytes, Answer, AtEnd, LineAnswer, Moment, line_answers}

-- the stalls before so many bytes came
abbrev pub stalls_before : ℕ → List Mark → ℕ
stalls_before zero m = 0
stalls_before (suc n) [] = 0
stalls_before (suc n) (Piece b ∷ m) = stalls_before (suc n - length b) m
stalls_before (suc n) (Stall ∷ m) = suc (stalls_before (suc n) m)
stalls_before (suc n) (Fault ∷ m) = stalls_before (suc n) m

-- the same, where so many bytes came already
abbrev pub delay_of : ℕ → List Mark → Moment → ℕ
delay_of came m (AfterBytes n) = stalls_before (n - came) m
delay_of came m AtEnd = stalls m

pub record Due : Type 0 where
  -- the stalls before the answer
  pub delay : ℕ
  pub answer : Answer

pub record Schedule : Type 0 where
  pub answers : List Due
  -- the stalls before the first error or, without one, before the end
  pub ends : ℕ

abbrev pub due : ℕ → List Mark → LineAnswer → Due
due came m a = record { delay = delay_of came m a.known; answer = a.answer }

abbrev pub ends_at : Answer → ℕ → ℕ → ℕ
ends_at (Ok line) delay rest = rest
ends_at (Err error) delay rest = delay

abbrev pub end_of : ℕ → List Due → ℕ
end_of last [] = last
end_of last (d ∷ ds) = ends_at d.answer d.delay (end_of last ds)

abbrev pub scheduled : ℕ → List Due → Schedule
scheduled last ds = record { answers = ds; ends = end_of last ds }

-- the answers where these bytes came and are not answered, and these marks are left
abbrev pub schedule : ℕ → List ℕ → List Mark → Schedule
schedule limit came m =
    scheduled (stalls m)
    (map (due (length came) m) (line_answers limit (ends_in_fault m) (came ++ piece_bytes m)))

-- nothing is answered any more
abbrev pub nothing_due : Schedule
nothing_due = record { answers = []; ends = 0 }

-- an error is answered now, and nothing after it
abbrev pub error_due : ReadlinesError → Schedule
error_due error = record {
  answers = record { delay = 0; answer = Err error } ∷ [];
  ends = 0;
}

-- a line is answered now, and then these
abbrev pub line_due : List ℕ → Schedule → Schedule
line_due line s = record {
  answers = record { delay = 0; answer = Ok line } ∷ s.answers;
  ends = s.ends;
}

abbrev pub later : Due → Due
later d = record { delay = suc d.delay; answer = d.answer }

-- one more stall comes first
abbrev pub one_later : Schedule → Schedule
one_later s = record { answers = map later s.answers; ends = suc s.ends }
