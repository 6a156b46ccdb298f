-- What one answer of a payload means for a collector.
use Rattle.std.proofs.Common.{◌≡◌, ℕ, suc, ◌+◌, ◌<◌, ◌≤◌, List, [], ◌∷◌, ◌++◌, length, refl, ◌∙◌, ap, arith, subst}
use Rattle.std.specs.Prelude.{Option, None, Some, Result, Ok, Err, ⊤}
use Rattle.std.proofs.lemmas.List.{length-append}
use Rattle.web_request.specs.declared.source.Mark.{Mark}
use Rattle.web_request.specs.declared.source.Mark.TheVariants.{Piece, Stall, Fault}
use Rattle.web_request.specs.Reading.{Over, Faulty, Whole, Content, Reading}
use Rattle.web_request.specs.Feed.{Takes, TakesLast, NoneLeft}
use Rattle.web_request.proofs.ReadingLemmas.{reading_held, goes_on, goes_on-piece, goes_on-over, goes_on-stall, goes_on-fault, goes_on-end}
use Rattle.web_body.specs.declared.collecting.Unread.{Unread}
use Rattle.web_body.specs.declared.collecting.Unread.TheVariants.{TooLong, Failed}
use Rattle.web_body.specs.Collector.{reading_of, read_of, Allows}

-- where it is told, this is the result, and it comes now
abbrev pub IsNow : Option Reading → Content → Type 0
IsNow None r = ⊤
IsNow (Some x) r = x ≡ record { content = r; delay = 0 }

pub now_allows : (o : Option Reading) (r : Content) → IsNow o r → Allows read_of o 0 (read_of r)
now_allows None r h = tt
now_allows (Some x) r h = rw h (refl, refl)

-- where it is told, the same comes one stall later
abbrev pub IsLater : Option Reading → Option Reading → Type 0
IsLater None new = new ≡ None
IsLater (Some x) new = (y : Reading) × (new ≡ Some y) × (x ≡ record { content = y.content; delay = suc (y.delay) })

pub later_allows : (old new : Option Reading) → IsLater old new → (n : ℕ) (x : Result (List ℕ) Unread) → Allows read_of new n x → Allows read_of old (suc n) x
later_allows None new h n x a = tt
later_allows (Some r) new h n x a =
    let b = subst (λ (o : Option Reading). Allows read_of o n x) h.1 a in
    rw h.2 (ap suc b.0, b.1)

pub turn-over : (old new : Option (List Mark)) (held b : List ℕ) (limit : ℕ) → length held ≤ limit → limit < length held + length b
    → Takes (Piece b) old new → IsNow (reading_of limit old held) (Over (length held + length b))
turn-over None new held b limit h over t = tt
turn-over (Some m) new held b limit h over t =
    rw (t.1, reading_held limit held (Piece b ∷ t.0) h) (goes_on-over limit held b t.0 h over)

pub turn-piece : (old new : Option (List Mark)) (held b : List ℕ) (limit : ℕ) → length held + length b ≤ limit
    → Takes (Piece b) old new → reading_of limit new (held ++ b) ≡ reading_of limit old held
turn-piece None new held b limit h t = rw t refl
turn-piece (Some m) new held b limit h t =
    let fits : length held ≤ limit = omega arith in
    let both : length (held ++ b) ≤ limit = rw (length-append held b) h in
    rw (t.2, t.1, reading_held limit held (Piece b ∷ t.0) fits, goes_on-piece limit held b t.0 fits, reading_held limit (held ++ b) t.0 both) refl

pub turn-stall : (old new : Option (List Mark)) (held : List ℕ) (limit : ℕ) → length held ≤ limit
    → Takes Stall old new → IsLater (reading_of limit old held) (reading_of limit new held)
turn-stall None new held limit h t = rw t refl
turn-stall (Some m) new held limit h t =
    rw (t.2, t.1, reading_held limit held (Stall ∷ t.0) h, goes_on-stall limit held t.0 h)
    (goes_on limit held t.0, ap Some (reading_held limit held t.0 h), refl)

pub turn-fault : (old new : Option (List Mark)) (held : List ℕ) (limit : ℕ) → length held ≤ limit
    → TakesLast Fault old new → IsNow (reading_of limit old held) Faulty
turn-fault None new held limit h t = tt
turn-fault (Some m) new held limit h t = rw (t.0, reading_held limit held (Fault ∷ []) h) (goes_on-fault limit held h)

pub turn-end : (old new : Option (List Mark)) (held : List ℕ) (limit : ℕ) → length held ≤ limit
    → NoneLeft old new → IsNow (reading_of limit old held) (Whole held)
turn-end None new held limit h t = tt
turn-end (Some m) new held limit h t = rw (t.0, reading_held limit held [] h) (goes_on-end limit held h)

-- the same, of a reading that has not changed since the poll began
module _ (old new : Option (List Mark)) (held : List ℕ) (limit : ℕ) (first : Option Reading) (within : length held ≤ limit) (same : reading_of limit old held ≡ first) where
  pub over_value : (b : List ℕ) → limit < length held + length b → Takes (Piece b) old new → Allows read_of first 0 (Err (TooLong (length held + length b)))
  over_value b over t = now_allows first (Over (length held + length b)) (subst (λ (o : Option Reading). IsNow o (Over (length held + length b))) same (turn-over old new held b limit within over t))

  pub stall_later : Takes Stall old new → IsLater first (reading_of limit new held)
  stall_later t = subst (λ (o : Option Reading). IsLater o (reading_of limit new held)) same (turn-stall old new held limit within t)

  pub stall_allows : Takes Stall old new → (n : ℕ) (x : Result (List ℕ) Unread) → Allows read_of (reading_of limit new held) n x → Allows read_of first (suc n) x
  stall_allows t = later_allows first (reading_of limit new held) (stall_later t)

  pub fault_now : TakesLast Fault old new → IsNow first Faulty
  fault_now t = subst (λ (o : Option Reading). IsNow o Faulty) same (turn-fault old new held limit within t)

  pub end_now : NoneLeft old new → IsNow first (Whole held)
  end_now t = subst (λ (o : Option Reading). IsNow o (Whole held)) same (turn-end old new held limit within t)

  pub fault_value : TakesLast Fault old new → Allows read_of first 0 (Err Failed)
  fault_value t = now_allows first Faulty (fault_now t)

  pub end_value : (b : List ℕ) → b ≡ held → NoneLeft old new → Allows read_of first 0 (Ok b)
  end_value b e t = rw e (now_allows first (Whole held) (end_now t))

  pub piece_same : (b : List ℕ) → length held + length b ≤ limit → Takes (Piece b) old new → reading_of limit new (held ++ b) ≡ first
  piece_same b fits t = turn-piece old new held b limit fits t ∙ same
