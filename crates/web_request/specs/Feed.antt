-- The state of a source as contracts see it, and how each result of `next` changes it.
use Rattle.std.specs.Prelude.{◌≡◌, ℕ, ◌<◌, ◌≤◌, List, [], ◌∷◌, length, Option, None, Some}
use Rattle.std.specs.Prelude.{Bool, true}
use Rattle.web_texts.specs.Counts.{Rose}
use Rattle.web_request.specs.declared.source.Mark.{Mark}
use Rattle.web_request.specs.declared.source.Mark.TheVariants as mark
use Rattle.web_request.specs.declared.source.Turn.{Turn}
use Rattle.web_request.specs.declared.source.Turn.TheVariants.{Piece, Stall, Fault, End, NoMemory}

pub record Feed : Type 0 where
  -- the marks that are left, where the source states them
  pub marks : Option (List Mark)
  -- how many faults and stalls it returned, and how many bytes it gave
  pub faults : ℕ
  pub stalls : ℕ
  pub given : ℕ
  -- how many more results it can return before the end
  pub answers : ℕ
  -- whether it lacked memory for a piece, which is lost
  pub lacked : Bool

-- where the marks are stated, x is the first, and is taken
abbrev pub Takes : Mark → Option (List Mark) → Option (List Mark) → Type 0
Takes x None new = new ≡ None
Takes x (Some m) new = (rest : List Mark) × (m ≡ x ∷ rest) × (new ≡ Some rest)

-- where they are stated, x is the last
abbrev pub TakesLast : Mark → Option (List Mark) → Option (List Mark) → Type 0
TakesLast x None new = new ≡ None
TakesLast x (Some m) new = (m ≡ x ∷ []) × (new ≡ Some [])

-- where they are stated, none is left
abbrev pub NoneLeft : Option (List Mark) → Option (List Mark) → Type 0
NoneLeft None new = new ≡ None
NoneLeft (Some m) new = (m ≡ []) × (new ≡ Some [])

pub record GivesPiece (b : List ℕ) (old new : Feed) : Type 0 where
  pub some : 0 < length b
  pub faults : new.faults ≡ old.faults
  pub stalls : old.stalls ≤ new.stalls
  pub answers : new.answers < old.answers
  pub takes : Takes (mark.Piece b) old.marks new.marks
  pub lacked : new.lacked ≡ old.lacked

pub record Stalls (old new : Feed) : Type 0 where
  pub faults : new.faults ≡ old.faults
  pub rose : Rose old.stalls new.stalls
  pub stalls : old.stalls ≤ new.stalls
  pub answers : new.answers < old.answers
  pub takes : Takes mark.Stall old.marks new.marks
  pub lacked : new.lacked ≡ old.lacked

pub record Fails (old new : Feed) : Type 0 where
  pub rose : Rose old.faults new.faults
  pub faults : old.faults ≤ new.faults
  pub stalls : old.stalls ≤ new.stalls
  pub answers : new.answers < old.answers
  pub last : new.answers ≡ 0
  pub takes : TakesLast mark.Fault old.marks new.marks
  pub lacked : new.lacked ≡ old.lacked

pub record Ends (old new : Feed) : Type 0 where
  pub faults : new.faults ≡ old.faults
  pub stalls : old.stalls ≤ new.stalls
  pub last : new.answers ≡ 0
  pub left : NoneLeft old.marks new.marks
  pub lacked : new.lacked ≡ old.lacked

pub record LacksMemory (old new : Feed) : Type 0 where
  pub faults : new.faults ≡ old.faults
  pub stalls : old.stalls ≤ new.stalls
  pub answers : new.answers < old.answers
  pub last : new.answers ≡ 0
  pub untold : old.marks ≡ None
  pub marks : new.marks ≡ None
  pub lacked : new.lacked ≡ true

-- what each result of `next` says
abbrev pub Next : Turn → Feed → Feed → Type 0
Next (Piece b) old new = GivesPiece b old new
Next Stall old new = Stalls old new
Next Fault old new = Fails old new
Next End old new = Ends old new
Next NoMemory old new = LacksMemory old new

-- how many bytes a result of `next` gives
abbrev pub bytes_given : Turn → ℕ
bytes_given (Piece b) = length b
bytes_given Stall = 0
bytes_given Fault = 0
bytes_given End = 0
bytes_given NoMemory = 0
