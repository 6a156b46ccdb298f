-- The result of reading a body under a limit, and after how many stalls it comes.
use Rattle.std.specs.Prelude.{ℕ, List, Option, None, Some, cond, length, nat_lt}
use Rattle.std.specs.List.{find}
use Rattle.web_request.specs.declared.source.Mark.{Mark}
use Rattle.web_request.specs.Body.{piece_bytes, stalls, ends_in_fault, prefixes}

pub data Content : Type 0 where
  -- the number of bytes of the shortest prefix that has more than the limit
  Over : ℕ → Content
  Faulty : Content
  Whole : List ℕ → Content

pub record Reading : Type 0 where
  pub content : Content
  pub delay : ℕ

-- the shortest prefix of more bytes than the limit
abbrev pub first_over : ℕ → List Mark → Option (List Mark)
first_over limit m = find (λ p. nat_lt limit (length (piece_bytes p))) (prefixes m)

abbrev pub reading_at : Option (List Mark) → List Mark → Reading
reading_at (Some p) m = record { content = Over (length (piece_bytes p)); delay = stalls p }
reading_at None m = record {
  content = cond (ends_in_fault m) Faulty (Whole (piece_bytes m));
  delay = stalls m;
}

-- Where some prefix has more bytes than the limit, the shortest one decides; else the fault at the
-- end; else the result is all bytes.
unfoldable pub reading : ℕ → List Mark → Reading
reading limit m = reading_at (first_over limit m) m
