-- Bodies that a reader gives.
use Rattle.std.specs.Io.KnownBytes.{Consumes, IsAtEnd, Keeps}
use Rattle.std.specs.Prelude.{◌≡◌, ◌≤◌, ◌⊎◌, ℕ, suc, Bool, true, false, List, None, Option}
use Rattle.std.specs.Prelude.{length, ⊤}
use Rattle.web_request.specs.Feed.{Feed}
use Rattle.web_request.specs.declared.source.Turn.{Turn}
use Rattle.web_request.specs.declared.source.Turn.TheVariants.{Piece, Stall, Fault, End, NoMemory}

pub record ReaderBody : Type 0 where
  pub feed : Feed
  -- the bytes that the reader has left, where they are known
  pub left : Option (List ℕ)

-- one for each turn, and one for the fault of a turn that is not there; none once it is over
abbrev pub answers_left : Bool → ℕ → ℕ
answers_left true turns = 0
answers_left false turns = suc turns

-- a body with so many turns, of which nothing was read yet
abbrev pub reader_body : ℕ → Option (List ℕ) → ReaderBody
reader_body turns left = record {
  feed = record {
    marks = None;
    faults = 0;
    stalls = 0;
    given = 0;
    answers = suc turns;
    lacked = false;
  };
  left = left;
}

-- What each result says of the reader's bytes, as far as they are known: a piece is the next of
-- them, the end comes where none is left, and at a fault none was taken. Once the body is over,
-- nothing is read. Where there was no memory for a piece, it is lost.
abbrev pub Reads : Turn → ReaderBody → ReaderBody → Type 0
Reads (Piece b) old new = (length b ≤ 8192) × Consumes old.left new.left b
Reads Stall old new = ⊥
Reads Fault old new = Keeps old.left new.left
Reads End old new = Keeps old.left new.left × ((old.feed.answers ≡ 0) ⊎ IsAtEnd new.left)
Reads NoMemory old new = ⊤
