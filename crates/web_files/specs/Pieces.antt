-- The bytes of a reader that are sent in pieces.
use Rattle.std.specs.Prelude.{◌≡◌, ◌≤◌, ◌+◌, ℕ, List, [], ◌∷◌, ◌++◌, None, Option, false}
use Rattle.std.specs.Prelude.{Some, flat_map, length, take, ⊤}
use Rattle.std.specs.Io.KnownBytes.{Consumes, Keeps}
use Rattle.web_request.specs.Feed.{Feed}
use Rattle.web_request.specs.declared.source.Turn.{Turn}
use Rattle.web_request.specs.declared.source.Turn.TheVariants.{Piece, Stall, Fault, End, NoMemory}

pub record PiecesLeft : Type 0 where
  -- its `answers` are the bytes that are still to be given
  pub feed : Feed
  -- the bytes that the reader has left, where they are known
  pub left : Option (List ℕ)

-- so many bytes of a reader, of which nothing was read yet
abbrev pub pieces_of : ℕ → Option (List ℕ) → PiecesLeft
pieces_of count left = record {
  feed = record {
    marks = None;
    faults = 0;
    stalls = 0;
    given = 0;
    answers = count;
    lacked = false;
  };
  left = left;
}

-- What each result says of the reader's bytes, as far as they are known: a piece is the next of
-- them, and there are as many fewer to give; the end comes where all were given. At a fault none
-- was taken, and where there was no memory for a piece, it may be lost.
abbrev pub ReadsPiece : Turn → PiecesLeft → PiecesLeft → Type 0
ReadsPiece (Piece b) old new =
    (length b ≤ 65536) × Consumes old.left new.left b
    × (old.feed.answers ≡ new.feed.answers + length b)
ReadsPiece Stall old new = ⊥
ReadsPiece Fault old new = Keeps old.left new.left
ReadsPiece End old new = Keeps old.left new.left × (old.feed.answers ≡ 0)
ReadsPiece NoMemory old new = ⊤

-- a run of results that are these pieces
abbrev pub GivesPieces : PiecesLeft → List (List ℕ) → PiecesLeft → Type 0
GivesPieces old [] new = new ≡ old
GivesPieces old (piece ∷ more) new =
    (mid : PiecesLeft) × ReadsPiece (Piece piece) old mid × GivesPieces mid more new

-- the bytes of pieces, one after the other
abbrev pub bytes_of : List (List ℕ) → List ℕ
bytes_of pieces = flat_map (λ piece. piece) pieces

-- Of a reader that has these bytes left: the pieces so far are a front of them, and no longer than
-- the number that was to be given.
abbrev pub SendsAFront : Type 0
SendsAFront =
    (count : ℕ) (bytes : List ℕ) (pieces : List (List ℕ)) (last : PiecesLeft)
    → GivesPieces (pieces_of count (Some bytes)) pieces last
    → (rest : List ℕ) × (bytes ≡ bytes_of pieces ++ rest) × (length (bytes_of pieces) ≤ count)

-- Where the end comes after them, they are that many of these bytes, from the first on.
abbrev pub SendsAll : Type 0
SendsAll =
    (count : ℕ) (bytes : List ℕ) (pieces : List (List ℕ)) (last after : PiecesLeft)
    → GivesPieces (pieces_of count (Some bytes)) pieces last → ReadsPiece End last after
    → (bytes_of pieces ≡ take count bytes) × (length (bytes_of pieces) ≡ count)
