-- What the turns of a payload mean for the parts that are due.
use Rattle.std.proofs.Common.{◌≡◌, ◌<◌, ◌≤◌, ◌+◌, ℕ, List, [], ◌∷◌, Option, None, Some, refl, sym, ◌∙◌, ap, length, subst, arith, length-append}
use Rattle.std.specs.Prelude.{IfSome, option_map}
use Rattle.web_texts.specs.Counts.{Rose}
use Rattle.web_request.specs.declared.source.Mark.{Mark}
use Rattle.web_request.specs.declared.source.Mark.TheVariants.{Piece, Stall, Fault}
use Rattle.web_request.specs.Feed.{Ends, Fails, Feed, GivesPiece, LacksMemory, NoneLeft, Stalls, Takes, TakesLast}
use Rattle.web_body.specs.declared.message_body.PayloadError.{PayloadError}
use Rattle.web_body.specs.declared.message_body.PayloadError.TheVariants as payload
use Rattle.web_body.specs.declared.message_body.PayloadError.TheVariants.{Io}
use Rattle.web_body.specs.declared.payload.Payload.{Payload}
use Rattle.web_body.specs.declared.payload.Payload.TheVariants as kind
use Rattle.web_body.specs.Collector.{StallsNext}
use Rattle.web_body.specs.Payload.{GivesBytes, KeepsPayload, payload_feed}
use Rattle.web_lines.specs.LastPieces.{LastTaken}
use Rattle.web_lines.proofs.BufferLemmas.{none_taken, takes_fault as fault_taken, takes_none as none_more_taken, takes_piece as piece_taken, takes_stall as stall_taken, takes_untold as untold_taken}
use Rattle.web_multipart_parts.specs.Parts.{Closes, Fails as Refuses}
use Rattle.web_multipart_parts.specs.PartReading.{GivesEnd, GivesPart, GoesOn, Reader, Waits, parts_left, wait_size}
use Rattle.web_multipart_parts.specs.declared.part.Part.{Part}
use Rattle.web_multipart_parts.specs.declared.part.PartError.{PartError}
use Rattle.web_multipart_parts.specs.declared.part.PartError.TheVariants as part_error
use Rattle.web_multipart_stream.specs.MultipartErrors.{IfIo, multipart_error}
use Rattle.web_multipart_stream.specs.PartSchedules.{Closed, Failed, Schedule, ended, fed, one_later, part_due, schedule}
use Rattle.web_multipart_stream.specs.PartTurns.{NextPart, NoPieceNext}
use Rattle.web_multipart_parts.specs.Settled.{IsSettled}
use Rattle.web_multipart_stream.specs.declared.error.MultipartError.{MultipartError}
use Rattle.web_multipart_stream.specs.declared.error.MultipartError.TheVariants as multipart
use Rattle.web_multipart_stream.specs.declared.stream.PartTurn.TheVariants as turn
use Rattle.web_multipart_stream.proofs.ScheduleLemmas.{schedule_closes, schedule_fails, schedule_fault, schedule_goes, schedule_none, schedule_part, schedule_piece, schedule_stall}

-- ---- over the marks that are left, where they are stated

marks_go : (a b : Reader) → GoesOn a b → (m : Option (List Mark)) → option_map (schedule b) m ≡ option_map (schedule a) m
marks_go a b g None = refl
marks_go a b g (Some m) = ap Some (sym (schedule_goes a b m g))

marks_part : (a : Reader) (part : Part) (b : Reader) → GivesPart a part b → (m : Option (List Mark)) → option_map (schedule a) m ≡ option_map (part_due part) (option_map (schedule b) m)
marks_part a part b g None = refl
marks_part a part b g (Some m) = ap Some (schedule_part a part b m g)

marks_close : (a : Reader) → GivesEnd a Closes → (m : Option (List Mark)) → IfSome (option_map (schedule a) m) (λ s. s ≡ ended Closed)
marks_close a g None = tt
marks_close a g (Some m) = schedule_closes a m g

marks_fail : (a : Reader) (error : PartError) → GivesEnd a (λ n. Refuses n error) → (m : Option (List Mark)) → IfSome (option_map (schedule a) m) (λ s. s ≡ ended (Failed (multipart_error error)))
marks_fail a error g None = tt
marks_fail a error g (Some m) = schedule_fails a error m g

turn_piece : (r : Reader) (b : List ℕ) (old new : Option (List Mark)) → Takes (Piece b) old new → option_map (schedule (fed r b)) new ≡ option_map (schedule r) old
turn_piece r b None new t = rw t refl
turn_piece r b (Some m) new t = rw (t.2, t.1) (ap Some (sym (schedule_piece r b t.0)))

turn_stall : (r : Reader) → Waits r → (old new : Option (List Mark)) → Takes Stall old new → option_map (schedule r) old ≡ option_map one_later (option_map (schedule r) new)
turn_stall r w None new t = rw t refl
turn_stall r w (Some m) new t = rw (t.2, t.1) (ap Some (schedule_stall r t.0 w))

turn_fault : (r : Reader) → Waits r → (old new : Option (List Mark)) → TakesLast Fault old new → IfSome (option_map (schedule r) old) (λ s. s ≡ ended (Failed (multipart.Payload Io)))
turn_fault r w None new t = tt
turn_fault r w (Some m) new t = rw t.0 (schedule_fault r w)

turn_end : (r : Reader) → Waits r → (old new : Option (List Mark)) → NoneLeft old new → IfSome (option_map (schedule r) old) (λ s. s ≡ ended (Failed multipart.Grammar))
turn_end r w None new t = tt
turn_end r w (Some m) new t = rw t.0 (schedule_none r w)

-- ---- the payload

module _ {S : Type 0} (feed : S → Feed) where
  keeps_self : (p : Payload S) → KeepsPayload feed p p
  keeps_self kind.None = tt
  keeps_self (kind.Whole b) = tt
  keeps_self (kind.Stream s) = record { faults = omega arith; stalls = omega arith; given = omega arith }

  keeps_turn : (p q : Payload S) (n : ℕ) → GivesBytes feed p n q → (payload_feed feed p).faults ≤ (payload_feed feed q).faults → (payload_feed feed p).stalls ≤ (payload_feed feed q).stalls
      → KeepsPayload feed p q
  keeps_turn kind.None kind.None n gave f s = tt
  keeps_turn kind.None (kind.Whole c) n gave f s = tt
  keeps_turn kind.None (kind.Stream t) n gave f s = elim gave [ ]
  keeps_turn (kind.Whole b) kind.None n gave f s = tt
  keeps_turn (kind.Whole b) (kind.Whole c) n gave f s = tt
  keeps_turn (kind.Whole b) (kind.Stream t) n gave f s = elim gave [ ]
  keeps_turn (kind.Stream a) kind.None n gave f s = elim gave [ ]
  keeps_turn (kind.Stream a) (kind.Whole c) n gave f s = elim gave [ ]
  keeps_turn (kind.Stream a) (kind.Stream t) n gave f s = record { faults = f; stalls = s; given = omega (arith, gave) }

  keeps_on : (p q t : Payload S) → KeepsPayload feed p q → KeepsPayload feed q t → KeepsPayload feed p t
  keeps_on kind.None kind.None t k l = l
  keeps_on kind.None (kind.Whole c) t k l = l
  keeps_on kind.None (kind.Stream c) t k l = elim k [ ]
  keeps_on (kind.Whole b) kind.None t k l = l
  keeps_on (kind.Whole b) (kind.Whole c) t k l = l
  keeps_on (kind.Whole b) (kind.Stream c) t k l = elim k [ ]
  keeps_on (kind.Stream a) kind.None t k l = elim k [ ]
  keeps_on (kind.Stream a) (kind.Whole c) t k l = elim k [ ]
  keeps_on (kind.Stream a) (kind.Stream b) kind.None k l = elim l [ ]
  keeps_on (kind.Stream a) (kind.Stream b) (kind.Whole c) k l = elim l [ ]
  keeps_on (kind.Stream a) (kind.Stream b) (kind.Stream c) k l =
      let f1 = k.faults in
      let f2 = l.faults in
      let s1 = k.stalls in
      let s2 = l.stalls in
      let g1 = k.given in
      let g2 = l.given in
      record { faults = omega (arith, f1, f2); stalls = omega (arith, s1, s2); given = omega (arith, g1, g2) }

-- ---- a stall that is next

stall_piece : (a b new : Option (List Mark)) (piece : List ℕ) → StallsNext a → b ≡ a → Takes (Piece piece) b new → ⊥
stall_piece (Some (Stall ∷ m)) (Some k) new piece next is t = let e : k ≡ Stall ∷ m = cc is in cc (e, t.1)
stall_piece (Some (Stall ∷ m)) None new piece next is t = cc is
stall_piece (Some (Piece x ∷ m)) b new piece next is t = next
stall_piece (Some (Fault ∷ m)) b new piece next is t = next
stall_piece (Some []) b new piece next is t = next
stall_piece None b new piece next is t = next

stall_fault : (a b new : Option (List Mark)) → StallsNext a → b ≡ a → TakesLast Fault b new → ⊥
stall_fault (Some (Stall ∷ m)) (Some k) new next is t = let e : k ≡ Stall ∷ m = cc is in cc (e, t.0)
stall_fault (Some (Stall ∷ m)) None new next is t = cc is
stall_fault (Some (Piece x ∷ m)) b new next is t = next
stall_fault (Some (Fault ∷ m)) b new next is t = next
stall_fault (Some []) b new next is t = next
stall_fault None b new next is t = next

stall_end : (a b new : Option (List Mark)) → StallsNext a → b ≡ a → NoneLeft b new → ⊥
stall_end (Some (Stall ∷ m)) (Some k) new next is t = let e : k ≡ Stall ∷ m = cc is in cc (e, t.0)
stall_end (Some (Stall ∷ m)) None new next is t = cc is
stall_end (Some (Piece x ∷ m)) b new next is t = next
stall_end (Some (Fault ∷ m)) b new next is t = next
stall_end (Some []) b new next is t = next
stall_end None b new next is t = next

stall_untold : (a b : Option (List Mark)) → StallsNext a → b ≡ a → b ≡ None → ⊥
stall_untold (Some (Stall ∷ m)) b next is none = cc (is, none)
stall_untold (Some (Piece x ∷ m)) b next is none = next
stall_untold (Some (Fault ∷ m)) b next is none = next
stall_untold (Some []) b next is none = next
stall_untold None b next is none = next

-- ---- no piece that is next

piece_none : (b new : Option (List Mark)) (piece : List ℕ) → Takes (Piece piece) b new → NoPieceNext b → ⊥
piece_none None new piece t none = none
piece_none (Some []) new piece t none = cc (t.1)
piece_none (Some (Piece x ∷ m)) new piece t none = none
piece_none (Some (Stall ∷ m)) new piece t none = cc (t.1)
piece_none (Some (Fault ∷ m)) new piece t none = cc (t.1)

untold_none : (b : Option (List Mark)) → b ≡ None → NoPieceNext b → ⊥
untold_none None is none = none
untold_none (Some m) is none = absurd (cc is)

-- ---- what a loop over turns keeps

pub record ReadsOn {S : Type 0} (feed : S → Feed) (p : Payload S) (r : Reader) (first : ℕ) (q : Payload S) (s : Reader) (last : ℕ) : Type 0 where
  pub payload : KeepsPayload feed p q
  pub form : s.form ≡ r.form
  pub same : option_map (schedule s) (payload_feed feed q).marks ≡ option_map (schedule r) (payload_feed feed p).marks
  pub small : length s.came < wait_size s.form + last
  pub fewer : parts_left s ≤ parts_left r
  pub faults : (payload_feed feed q).faults ≡ (payload_feed feed p).faults
  pub lacked : (payload_feed feed q).lacked ≡ (payload_feed feed p).lacked
  pub stalled : StallsNext (payload_feed feed p).marks → (payload_feed feed q).marks ≡ (payload_feed feed p).marks
  pub memory : IsSettled r → NoPieceNext (payload_feed feed p).marks → IsSettled s × NoPieceNext (payload_feed feed q).marks
  pub stalls : (payload_feed feed p).stalls ≤ (payload_feed feed q).stalls
  pub taken : LastTaken (payload_feed feed p).marks first (payload_feed feed q).marks last

rose_on : (a b c : ℕ) → a ≤ b → Rose b c → Rose a c
rose_on a b c h rose = grind (arith, h, rose)

-- an error of the parts is no fault of the payload
no_io : (error : PartError) (P : Type 0) → IfIo (multipart_error error) P
no_io part_error.Grammar P = tt
no_io part_error.Head P = tt
no_io part_error.TooMany P = tt
no_io part_error.PartOverflow P = tt

payload_io : (error : PayloadError) (P : Type 0) → IfIo (multipart.Payload error) ⊥ → IfIo (multipart.Payload error) P
payload_io payload.Overflow P h = tt
payload_io payload.UnknownLength P h = tt
payload_io payload.Io P h = absurd h
payload_io payload.UnsupportedEncoding P h = tt

-- nor is one of the head
pub head_io : (error : MultipartError) (P : Type 0) → IfIo error ⊥ → IfIo error P
head_io multipart.ContentType P h = tt
head_io multipart.PartOverflow P h = tt
head_io multipart.TooMany P h = tt
head_io multipart.Grammar P h = tt
head_io multipart.Head P h = tt
head_io (multipart.Payload error) P h = payload_io error P h

module _ {S : Type 0} (feed : S → Feed) (p : Payload S) (r : Reader) (first : ℕ) where
  pub reads_start : length r.came < wait_size r.form + first → ReadsOn feed p r first p r first
  reads_start small = record {
    payload = keeps_self feed p;
    form = refl;
    same = refl;
    small = small;
    fewer = omega arith;
    faults = refl;
    lacked = refl;
    stalled = λ next. refl;
    memory = λ settled none. (settled, none);
    stalls = omega arith;
    taken = none_taken (payload_feed feed p).marks first;
  }

  module _ (q : Payload S) (s : Reader) (last : ℕ) (on : ReadsOn feed p r first q s last) where
    pub takes_part : (part : Part) (new : Reader) → GivesPart s part new → NextPart feed p r first (turn.Part part) q new last
    takes_part part new g =
        let size = g.size in
        let small = on.small in
        let one = g.fewer in
        let two = on.fewer in
        let same : wait_size new.form ≡ wait_size s.form = ap wait_size g.form in
        record {
          payload = on.payload;
          form = g.form ∙ on.form;
          gives = sym on.same ∙ marks_part s part new g (payload_feed feed q).marks;
          small = omega (arith, size, small, same);
          fewer = omega (arith, one, two);
          rose = tt;
          failed = tt;
          lacked = on.lacked;
          stalled = on.stalled;
          memory = λ settled none. tt;
          settled = tt;
          last = on.taken;
        }

    module _ (new : Reader) (new_held : length new.came ≤ length s.came) (new_form : new.form ≡ s.form) (new_fewer : parts_left new ≤ parts_left s) where
      new_small : length new.came < wait_size new.form + last
      new_small =
          let small = on.small in
          let same : wait_size new.form ≡ wait_size s.form = ap wait_size new_form in
          omega (arith, small, same, new_held)

      still_fewer : 0 + parts_left new ≤ parts_left r
      still_fewer = let two = on.fewer in omega (arith, new_fewer, two)

      pub takes_close : GivesEnd s Closes → NextPart feed p r first turn.Closed q new last
      takes_close g = record {
        payload = on.payload;
        form = new_form ∙ on.form;
        gives = subst (λ (o : Option Schedule). IfSome o (λ x. x ≡ ended Closed)) on.same (marks_close s g (payload_feed feed q).marks);
        small = new_small;
        fewer = still_fewer;
        rose = tt;
        failed = tt;
        lacked = on.lacked;
        stalled = on.stalled;
        memory = λ settled none. tt;
        settled = tt;
        last = on.taken;
      }

      pub takes_fail : (error : PartError) → GivesEnd s (λ n. Refuses n error) → (e : MultipartError) → e ≡ multipart_error error → NextPart feed p r first (turn.Failed e) q new last
      takes_fail error g e is = rw is (record {
        payload = on.payload;
        form = new_form ∙ on.form;
        gives = subst (λ (o : Option Schedule). IfSome o (λ x. x ≡ ended (Failed (multipart_error error)))) on.same (marks_fail s error g (payload_feed feed q).marks);
        small = new_small;
        fewer = still_fewer;
        rose = tt;
        failed = no_io error _;
        lacked = on.lacked;
        stalled = on.stalled;
        memory = λ settled none. tt;
        settled = tt;
        last = on.taken;
      })

      pub takes_no_memory : (IsSettled s → ⊥) → NextPart feed p r first turn.NoMemory q new last
      takes_no_memory quiet = record {
        payload = on.payload;
        form = new_form ∙ on.form;
        gives = tt;
        small = new_small;
        fewer = still_fewer;
        rose = tt;
        failed = tt;
        lacked = tt;
        stalled = on.stalled;
        memory = λ settled none. absurd (quiet (on.memory settled none).0);
        settled = tt;
        last = on.taken;
      }

    -- nothing stands: it reads on
    module _ (new : Reader) (goes : GoesOn s new) (waits : Waits new) where
      goes_same : option_map (schedule new) (payload_feed feed q).marks ≡ option_map (schedule r) (payload_feed feed p).marks
      goes_same = marks_go s new goes (payload_feed feed q).marks ∙ on.same

      short_of : (n : ℕ) → length new.came < wait_size new.form + n
      short_of n = let short = waits.short in omega (arith, short)

      goes_fewer : parts_left new ≤ parts_left r
      goes_fewer = let one = goes.fewer in let two = on.fewer in omega (arith, one, two)

      none_more : 0 + parts_left new ≤ parts_left r
      none_more = let few = goes_fewer in omega (arith, few)

      module _ (t : Payload S) (n : ℕ) (gave : GivesBytes feed q n t) where
        keeps_then : (payload_feed feed q).faults ≤ (payload_feed feed t).faults → (payload_feed feed q).stalls ≤ (payload_feed feed t).stalls → KeepsPayload feed p t
        keeps_then f st = keeps_on feed p q t on.payload (keeps_turn feed q t n gave f st)

      pub takes_piece : (piece : List ℕ) (t : Payload S) → GivesPiece piece (payload_feed feed q) (payload_feed feed t) → GivesBytes feed q (length piece) t → (after : Reader) → after ≡ fed new piece → (n : ℕ) → n ≡ length piece
          → ReadsOn feed p r first t after n
      takes_piece piece t g gave after after_is n n_is =
          let short = waits.short in
          let s1 = g.stalls in
          let s0 = on.stalls in
          let f1 = g.faults in
          let f0 = on.faults in
          rw (after_is, n_is) (record {
            payload = keeps_then t (length piece) gave (omega (arith, f1)) s1;
            form = goes.form ∙ on.form;
            same = turn_piece new piece (payload_feed feed q).marks (payload_feed feed t).marks g.takes ∙ goes_same;
            small = omega (arith, short, length-append new.came piece);
            fewer = goes_fewer;
            faults = f1 ∙ f0;
            lacked = g.lacked ∙ on.lacked;
            stalled = λ next. absurd (stall_piece _ _ _ piece next (on.stalled next) g.takes);
            memory = λ settled none. absurd (piece_none _ _ piece g.takes (on.memory settled none).1);
            stalls = omega (arith, s1, s0);
            taken = piece_taken _ _ _ _ _ piece on.taken g.takes;
          })

      pub takes_stall : IsSettled new → (t : Payload S) → Stalls (payload_feed feed q) (payload_feed feed t) → GivesBytes feed q 0 t → NextPart feed p r first turn.Pending t new last
      takes_stall now t g gave =
          let f = g.faults in
          record {
            payload = keeps_then t 0 gave (omega (arith, f)) g.stalls;
            form = goes.form ∙ on.form;
            gives = sym goes_same ∙ turn_stall new waits (payload_feed feed q).marks (payload_feed feed t).marks g.takes;
            small = short_of last;
            fewer = none_more;
            rose = rose_on (payload_feed feed p).stalls (payload_feed feed q).stalls (payload_feed feed t).stalls on.stalls g.rose;
            failed = tt;
            lacked = g.lacked ∙ on.lacked;
            stalled = λ next. tt;
            memory = λ settled none. tt;
            settled = now;
            last = stall_taken _ _ _ _ _ on.taken g.takes;
          }

      pub takes_fault : (t : Payload S) → Fails (payload_feed feed q) (payload_feed feed t) → GivesBytes feed q 0 t → NextPart feed p r first (turn.Failed (multipart.Payload Io)) t new last
      takes_fault t g gave = record {
        payload = keeps_then t 0 gave g.faults g.stalls;
        form = goes.form ∙ on.form;
        gives = subst (λ (o : Option Schedule). IfSome o (λ x. x ≡ ended (Failed (multipart.Payload Io)))) goes_same (turn_fault new waits (payload_feed feed q).marks (payload_feed feed t).marks g.takes);
        small = short_of last;
        fewer = none_more;
        rose = tt;
        failed = subst (λ (n : ℕ). Rose n (payload_feed feed t).faults) on.faults g.rose;
        lacked = g.lacked ∙ on.lacked;
        stalled = λ next. absurd (stall_fault _ _ _ next (on.stalled next) g.takes);
        memory = λ settled none. tt;
        settled = tt;
        last = fault_taken _ _ _ _ _ on.taken g.takes;
      }

      pub takes_end : (t : Payload S) → Ends (payload_feed feed q) (payload_feed feed t) → GivesBytes feed q 0 t → NextPart feed p r first (turn.Failed multipart.Grammar) t new last
      takes_end t g gave =
          let f = g.faults in
          record {
            payload = keeps_then t 0 gave (omega (arith, f)) g.stalls;
            form = goes.form ∙ on.form;
            gives = subst (λ (o : Option Schedule). IfSome o (λ x. x ≡ ended (Failed multipart.Grammar))) goes_same (turn_end new waits (payload_feed feed q).marks (payload_feed feed t).marks g.left);
            small = short_of last;
            fewer = none_more;
            rose = tt;
            failed = tt;
            lacked = g.lacked ∙ on.lacked;
            stalled = λ next. absurd (stall_end _ _ _ next (on.stalled next) g.left);
            memory = λ settled none. tt;
            settled = tt;
            last = none_more_taken _ _ _ _ _ on.taken g.left;
          }

      pub takes_untold : (t : Payload S) → LacksMemory (payload_feed feed q) (payload_feed feed t) → GivesBytes feed q 0 t → NextPart feed p r first turn.NoMemory t new last
      takes_untold t g gave =
          let f = g.faults in
          record {
            payload = keeps_then t 0 gave (omega (arith, f)) g.stalls;
            form = goes.form ∙ on.form;
            gives = tt;
            small = short_of last;
            fewer = none_more;
            rose = tt;
            failed = tt;
            lacked = tt;
            stalled = λ next. absurd (stall_untold _ _ next (on.stalled next) g.untold);
            memory = λ settled none. absurd (untold_none _ g.untold (on.memory settled none).1);
            settled = tt;
            last = untold_taken _ _ _ _ _ on.taken g.untold g.marks;
          }

      -- the piece could not be held
      pub loses_piece : (piece : List ℕ) (t : Payload S) → GivesPiece piece (payload_feed feed q) (payload_feed feed t) → GivesBytes feed q (length piece) t → (after : Reader) → after ≡ new → (n : ℕ) → n ≡ length piece
          → NextPart feed p r first turn.NoMemory t after n
      loses_piece piece t g gave after after_is n n_is =
          let f = g.faults in
          rw (after_is, n_is) (record {
            payload = keeps_then t (length piece) gave (omega (arith, f)) g.stalls;
            form = goes.form ∙ on.form;
            gives = tt;
            small = short_of (length piece);
            fewer = none_more;
            rose = tt;
            failed = tt;
            lacked = tt;
            stalled = λ next. absurd (stall_piece _ _ _ piece next (on.stalled next) g.takes);
            memory = λ settled none. absurd (piece_none _ _ piece g.takes (on.memory settled none).1);
            settled = tt;
            last = piece_taken _ _ _ _ _ piece on.taken g.takes;
          })
