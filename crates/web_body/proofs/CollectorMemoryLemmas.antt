-- Polls of a collector that allocate nothing.
use Rattle.std.proofs.Common.{◌≡◌, ℕ, ◌<◌, ◌≤◌, List, [], ◌∷◌, length, ◌∙◌, ap, arith}
use Rattle.std.specs.Prelude.{Option, None, Some, Result, ⊤}
use Rattle.web_request.specs.declared.source.Mark.{Mark}
use Rattle.web_request.specs.declared.source.Mark.TheVariants.{Piece, Stall, Fault}
use Rattle.web_request.specs.Feed.{Takes, NoneLeft}
use Rattle.web_request.proofs.ReadingLemmas.{reading_held, goes_on-stall}
use Rattle.web_body.specs.declared.held.Held.{Held}
use Rattle.web_body.specs.declared.held.Held.TheVariants.{One, Many}
use Rattle.web_body.specs.declared.collecting.Unread.{Unread}
use Rattle.web_body.specs.declared.poll.Step.{Step}
use Rattle.web_body.specs.declared.poll.Step.TheVariants.{Pending, Ready, NoMemory}
use Rattle.web_body.specs.HeldBytes.{held_bytes, IsCopied}
use Rattle.web_body.specs.Collector.{reading_of, read_of, Allows, StallsNext, pieces_next, NeedsNoMemory}
use Rattle.web_body.specs.PollSteps.{IfReady, IsPending, NeverNoMemory}

-- the rest of a poll allocates nothing, from these marks and what is held on
abbrev pub NoneNeeded : Option (List Mark) → Held → Type 0
NoneNeeded None h = ⊥
NoneNeeded (Some []) h = IsCopied h → ⊥
NoneNeeded (Some (Piece b ∷ m)) h = (held_bytes h ≡ []) × (pieces_next m ≡ 0)
NoneNeeded (Some (Stall ∷ m)) h = ⊤
NoneNeeded (Some (Fault ∷ m)) h = ⊤

not_copied : (h : Held) → held_bytes h ≡ [] → IsCopied h → ⊥
not_copied (One b) e c = c
not_copied (Many v) e c = let none = ap length e in absurd (omega (arith, none, c))

pub needed_from : (o : Option (List Mark)) (h : Held) → NeedsNoMemory o (held_bytes h) → NoneNeeded o h
needed_from None h f = f
needed_from (Some []) h f = not_copied h f.0
needed_from (Some (Piece b ∷ m)) h f = (f.0, omega (arith, f.1))
needed_from (Some (Stall ∷ m)) h f = tt
needed_from (Some (Fault ∷ m)) h f = tt

after_piece : (m : List Mark) (h : Held) → pieces_next m ≡ 0 → (IsCopied h → ⊥) → NoneNeeded (Some m) h
after_piece [] h e n = n
after_piece (Piece b ∷ m) h e n = absurd (omega (arith, e))
after_piece (Stall ∷ m) h e n = tt
after_piece (Fault ∷ m) h e n = tt

pub needed_on : (old new : Option (List Mark)) (b : List ℕ) (h more : Held) → Takes (Piece b) old new → (held_bytes h ≡ [] → IsCopied more → ⊥) → NoneNeeded old h → NoneNeeded new more
needed_on None new b h more t single f = elim f [ ]
needed_on (Some m) new b h more t single f =
    let g = rw t.1 at f in
    rw t.2 (after_piece t.0 more g.1 (single g.0))

-- a piece is joined to bytes that are held
pub joins : (old new : Option (List Mark)) (b : List ℕ) (h : Held) → Takes (Piece b) old new → 0 < length (held_bytes h) → NoneNeeded old h → ⊥
joins None new b h t some f = f
joins (Some m) new b h t some f =
    let g = rw t.1 at f in
    let none = ap length g.0 in
    absurd (omega (arith, none, some))

-- a buffer of several pieces is handed over
pub hands_over : (old new : Option (List Mark)) (h : Held) → NoneLeft old new → IsCopied h → NoneNeeded old h → ⊥
hands_over None new h t c f = f
hands_over (Some m) new h t c f = let g = rw t.0 at f in g c

-- a source that does not state its marks may allocate
pub unstated : (o : Option (List Mark)) (h : Held) → o ≡ None → NoneNeeded o h → ⊥
unstated o h e f = let g = rw e at f in g

pub stall_needs_none : (o : Option (List Mark)) (held : List ℕ) → StallsNext o → NeedsNoMemory o held
stall_needs_none None held s = s
stall_needs_none (Some []) held s = elim s [ ]
stall_needs_none (Some (Piece b ∷ m)) held s = elim s [ ]
stall_needs_none (Some (Stall ∷ m)) held s = tt
stall_needs_none (Some (Fault ∷ m)) held s = elim s [ ]

-- where a stall is next, the value does not come in this poll
pub stall_is_pending : (limit : ℕ) (o : Option (List Mark)) (held : List ℕ) (s : Step (Result (List ℕ) Unread)) → length held ≤ limit → StallsNext o
    → IfReady s (Allows read_of (reading_of limit o held) 0) → NeverNoMemory s → IsPending s
stall_is_pending limit None held s fits next value memory = elim next [ ]
stall_is_pending limit (Some []) held s fits next value memory = elim next [ ]
stall_is_pending limit (Some (Piece b ∷ m)) held s fits next value memory = elim next [ ]
stall_is_pending limit (Some (Fault ∷ m)) held s fits next value memory = elim next [ ]
stall_is_pending limit (Some (Stall ∷ m)) held Pending fits next value memory = tt
stall_is_pending limit (Some (Stall ∷ m)) held (Ready x) fits next value memory =
    let later = reading_held limit held (Stall ∷ m) fits ∙ goes_on-stall limit held m fits in
    let delay = rw later at value.0 in
    absurd (omega (arith, delay))
stall_is_pending limit (Some (Stall ∷ m)) held NoMemory fits next value memory = memory
