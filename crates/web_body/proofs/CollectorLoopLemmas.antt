-- What a collector keeps while it reads on.
use Rattle.std.proofs.Common.{◌≡◌, ℕ, ◌+◌, ◌<◌, ◌≤◌, List, [], ◌++◌, length, refl, ◌∙◌, ap, arith}
use Rattle.std.specs.Prelude.{Ok, Err}
use Rattle.std.proofs.lemmas.List.{length-append}
use Rattle.web_request.specs.Feed.{Feed, GivesPiece, Stalls, Fails, Ends}
use Rattle.web_body.specs.declared.payload.Payload.{Payload}
use Rattle.web_body.specs.declared.held.Held.{Held}
use Rattle.web_body.specs.declared.collecting.Unread.TheVariants.{TooLong, Failed}
use Rattle.web_body.specs.declared.poll.Step.TheVariants.{Pending, Ready}
use Rattle.web_body.specs.HeldBytes.{held_bytes, IsCopied}
use Rattle.web_body.specs.Payload.{payload_feed, GivesBytes}
use Rattle.web_body.specs.Collector.{reading_of, NeedsNoMemory}
use Rattle.web_body.proofs.CollectorMemoryLemmas.{NoneNeeded, needed_from, needed_on}
use Rattle.web_body.specs.CollectorPolls.{Collects}
use Rattle.web_body.proofs.CollectorTurnLemmas.{over_value, stall_allows, fault_value, end_value, piece_same}
use Rattle.web_body.proofs.PayloadCountLemmas.{gave_none, gave_more}

pub record Reading_on {S : Type 0} (feed : S → Feed) (limit : ℕ) (first : Payload S) (first_held : Held) (now : Payload S) (now_held : Held) : Type 0 where
  pub within : length (held_bytes now_held) ≤ limit
  pub same : reading_of limit (payload_feed feed now).marks (held_bytes now_held) ≡ reading_of limit (payload_feed feed first).marks (held_bytes first_held)
  pub given : ℕ
  pub gave : GivesBytes feed first given now
  pub grew : length (held_bytes now_held) ≡ length (held_bytes first_held) + given
  pub faults : (payload_feed feed now).faults ≡ (payload_feed feed first).faults
  pub lacked : (payload_feed feed now).lacked ≡ (payload_feed feed first).lacked
  pub stalls : (payload_feed feed first).stalls ≤ (payload_feed feed now).stalls
  pub memory : NeedsNoMemory (payload_feed feed first).marks (held_bytes first_held) → NoneNeeded (payload_feed feed now).marks now_held

module _ {S : Type 0} (feed : S → Feed) (limit : ℕ) where
  pub starts : (first : Payload S) (held : Held) → length (held_bytes held) ≤ limit → Reading_on feed limit first held first held
  starts first held within = record {
    within = within;
    same = refl;
    given = 0;
    gave = gave_none feed first;
    grew = omega arith;
    faults = refl;
    lacked = refl;
    stalls = omega arith;
    memory = needed_from (payload_feed feed first).marks held;
  }

  module _ (first : Payload S) (first_held : Held) (now : Payload S) (held : Held) (on : Reading_on feed limit first first_held now held) (new : Payload S) where
    pub reads_piece : (b : List ℕ) (more : Held) → held_bytes more ≡ held_bytes held ++ b → (held_bytes held ≡ [] → IsCopied more → ⊥) → length (held_bytes held) + length b ≤ limit
        → GivesPiece b (payload_feed feed now) (payload_feed feed new) → GivesBytes feed now (length b) new
        → Reading_on feed limit first first_held new more
    reads_piece b more items single fits next gave =
        let size : length (held_bytes more) ≡ length (held_bytes held) + length b = ap length items ∙ length-append (held_bytes held) b in
        record {
          within = omega (arith, size, fits);
          same = rw items (piece_same _ _ _ _ _ on.within on.same b fits next.takes);
          given = on.given + length b;
          gave = gave_more feed first on.given now (length b) new on.gave gave;
          grew = omega (arith, size, on.grew);
          faults = next.faults ∙ on.faults;
          lacked = next.lacked ∙ on.lacked;
          stalls = omega (arith, on.stalls, next.stalls);
          memory = λ need. needed_on _ _ b held more next.takes single (on.memory need);
        }

    pub passes_reads : (b : List ℕ) → limit < length (held_bytes held) + length b
        → GivesPiece b (payload_feed feed now) (payload_feed feed new)
        → (more : List ℕ) → Collects limit (payload_feed feed first).marks (held_bytes first_held) (Ready (Err (TooLong (length (held_bytes held) + length b)))) (payload_feed feed new).marks more
    passes_reads b over next more = (over_value _ _ _ _ _ on.within on.same b over next.takes, tt)

    pub stalls_reads : Stalls (payload_feed feed now) (payload_feed feed new)
        → Collects limit (payload_feed feed first).marks (held_bytes first_held) Pending (payload_feed feed new).marks (held_bytes held)
    stalls_reads next = (tt, stall_allows _ _ _ _ _ on.within on.same next.takes)

    pub fails_reads : Fails (payload_feed feed now) (payload_feed feed new)
        → (more : List ℕ) → Collects limit (payload_feed feed first).marks (held_bytes first_held) (Ready (Err Failed)) (payload_feed feed new).marks more
    fails_reads next more = (fault_value _ _ _ _ _ on.within on.same next.takes, tt)

    pub ends_reads : Ends (payload_feed feed now) (payload_feed feed new)
        → (b : List ℕ) → b ≡ held_bytes held → (more : List ℕ)
        → Collects limit (payload_feed feed first).marks (held_bytes first_held) (Ready (Ok b)) (payload_feed feed new).marks more
    ends_reads next b e more = (end_value _ _ _ _ _ on.within on.same b e next.left, tt)
