-- A connection that waits, of whose chunks the lines may have been dropped.
use Rattle.std.proofs.Common.{◌≡◌, ℕ, ◌+◌, ◌-◌, ◌≤◌, Bool, true, List, [], ◌∷◌, ◌++◌, length, drop, Option, None, Some, refl, sym, ap, ◌∙◌, subst, arith, append-nil}
use Rattle.web_worker.specs.Setting.{Setting}
use Rattle.web_messages.specs.Joining.{HasFewLines, JoinsTo, ReadsAlike, resized, with_used}
use Rattle.web_messages.specs.NextMessage.{IsNext}
use Rattle.web_messages.specs.Progress.{HasFewBlank, IsProgress, IsShort}
use Rattle.web_messages.specs.Sameness.{SameAhead}
use Rattle.web_messages.specs.declared.limits.Limits.{Limits}
use Rattle.web_messages.specs.declared.message.Message.{Message}
use Rattle.web_messages.specs.declared.message.Next.{Next}
use Rattle.web_messages.specs.declared.message.Next.TheVariants as next
use Rattle.web_messages.specs.declared.progress.Progress.{Progress}
use Rattle.web_messages.proofs.SkipLemmas.{same_ahead}
use Rattle.web_http1.specs.declared.answered.Answered.{Answered}
use Rattle.web_http1.specs.declared.answered.Answered.TheVariants as answered
use Rattle.web_http1.specs.declared.answering.Turned.TheVariants as turned
use Rattle.web_http1.specs.declared.ended.Ended.{Ended}
use Rattle.web_http1.specs.Answers.{Answer, Behind, Served, replies, sent_answer}
use Rattle.web_http1.specs.BegunAnswers.{WaitsAfter}
use Rattle.web_http1.specs.Connections.{AllOpen, ConnectionView, IsOpen, IsOwnEnd, StepsTo, bytes_open, open_at, open_bytes}
use Rattle.web_http1.specs.ConnectionSteps.{WaitsBehind}
use Rattle.web_http1.specs.OneAnswer.{EndsOne, IsAnswered, Waits, WaitsWhere}
use Rattle.web_http1.proofs.ConnectionLemmas.{ended_as, failed_steps, then_steps}
use Rattle.web_http1.proofs.OneLemmas.{ends_one, keeps_few}

-- ---- bytes that read the same, but for how many they are

same_used : (limits : Limits) (bytes : List ℕ) (x : Next) → IsNext limits bytes x → IsNext limits bytes (resized (length bytes) (length bytes) x)
same_used limits bytes next.Closed h = h
same_used limits bytes (next.Refused w) h = h
same_used limits bytes (next.Message m) h =
    let used : m.used ≡ m.used + length bytes - length bytes = omega arith in
    subst (λ (n : ℕ). IsNext limits bytes (next.Message (with_used m n))) used h

pub alike_same : (limits : Limits) (bytes : List ℕ) → ReadsAlike limits bytes bytes
alike_same limits bytes = record {
  there = same_used limits bytes;
  back = same_used limits bytes;
  behind = λ m h. let used : m.used ≡ m.used + length bytes - length bytes = omega arith in ap (λ (n : ℕ). drop n bytes) used;
}

-- where no message is next, they read the same
same_none : (limits : Limits) (a b : List ℕ) → ReadsAlike limits a b → ((m : Message) → ¬ (IsNext limits a (next.Message m))) → SameAhead limits b a
same_none limits a b alike none = record { there = there; back = back; behind = λ m h. absurd (none _ (alike.back (next.Message m) h)) }
  where
    there : (x : Next) → IsNext limits b x → IsNext limits a x
    there next.Closed h = alike.back next.Closed h
    there (next.Refused w) h = alike.back (next.Refused w) h
    there (next.Message m) h = absurd (none _ (alike.back (next.Message m) h))

    back : (x : Next) → IsNext limits a x → IsNext limits b x
    back next.Closed h = alike.there next.Closed h
    back (next.Refused w) h = alike.there (next.Refused w) h
    back (next.Message m) h = absurd (none m h)

open_back : (old new : ℕ) (x : Next) → IsOpen (resized old new x) → IsOpen x
open_back old new next.Closed o = o
open_back old new (next.Refused w) o = o
open_back old new (next.Message m) o = o

alike_now : (limits : Limits) (a b : List ℕ) → ReadsAlike limits (a ++ []) (b ++ []) → ReadsAlike limits a b
alike_now limits a b alike =
    subst (λ (t : List ℕ). ReadsAlike limits t b) (append-nil a) (subst (λ (t : List ℕ). ReadsAlike limits (a ++ []) t) (append-nil b) alike)

-- ---- the answers of such bytes

module _ {S L D C V K : Type 0} (s : Setting S L D C V K) where
  served_alike : (limits : Limits) (a b : List ℕ) (xs : List Answer) (rest : List ℕ) (closed : Bool) → ReadsAlike limits a b → Served s limits a xs rest closed
      → (ys : List Answer) × (end : List ℕ) × SameAhead limits end rest × Served s limits b ys end closed × (replies xs ≡ replies ys)
  served_alike limits a b [] rest closed alike v = (
    [],
    b,
    subst (SameAhead limits b) (sym v.1) (same_none limits a b alike v.0),
    (λ m h. v.0 _ (alike.back (next.Message m) h), refl, v.2),
    refl,
  )
  served_alike limits a b (x ∷ xs) rest closed alike v =
      let n = x.message.used + length b - length a in
      let y : Answer = record { message = with_used x.message n; delay = x.delay; reply = x.reply } in (
        y ∷ xs,
        rest,
        same_ahead limits rest,
        (
          alike.there (next.Message x.message) v.0,
          record { once = v.1.once; soon = v.1.soon; states = v.1.states },
          subst (λ (t : List ℕ). Behind (sent_answer x).closes ((xs ≡ []) × (rest ≡ t) × (closed ≡ true)) (Served s limits t xs rest closed))
              (alike.behind x.message v.0) v.2,
        ),
        refl,
      )

  -- ---- a connection that waits

  waits_goes : (middle new : ConnectionView) (before : List ℕ) (r : Answered) → WaitsAfter middle new r → StepsTo s middle new before before
  waits_goes middle new before answered.Replied w = absurd w
  waits_goes middle new before answered.Waits w = (
    [],
    sym (append-nil before),
    λ more xs rest closed v.
        let on = served_alike middle.limits (middle.left ++ more) (new.left ++ more) xs rest closed (w.3 more) v in
        ended_as s new None new.ended more xs [] rest closed w.0 (
          on.0,
          on.1,
          subst (λ (l : Limits). SameAhead l on.1 rest) (sym w.1) on.2,
          subst (λ (l : Limits). Served s l (new.left ++ more) on.0 on.1 closed) (sym w.1) on.3,
          on.4,
        ),
  )
  waits_goes middle new before (answered.Ended end) w =
      failed_steps s middle new before before (ap (λ (v : ConnectionView). v.ended) w.1) refl

pub wait_limits : (middle new : ConnectionView) (r : Answered) → WaitsAfter middle new r → new.limits ≡ middle.limits
wait_limits middle new answered.Replied w = absurd w
wait_limits middle new answered.Waits w = w.1
wait_limits middle new (answered.Ended end) w = ap (λ (v : ConnectionView). v.limits) w.1

module _ {S L D C V K : Type 0} (s : Setting S L D C V K) where
  pub wait_goes : (old middle new : ConnectionView) (before behind : List ℕ) (r : Answered) → middle.ended ≡ None → StepsTo s old middle before behind
      → WaitsAfter middle new r → StepsTo s old new before behind
  wait_goes old middle new before behind r unended steps w =
      then_steps s old middle new before behind behind unended (wait_limits middle new r w) steps (waits_goes s middle new behind r w)

  pub wait_answered : (old middle new : ConnectionView) (before behind : List ℕ) (r : Answered) → old.ended ≡ None → behind ≡ before → WaitsAfter middle new r
      → IsAnswered s old new before behind r
  wait_answered old middle new before behind answered.Replied unended same w = absurd w
  wait_answered old middle new before behind answered.Waits unended same w = (unended, w.0, same)
  wait_answered old middle new before behind (answered.Ended end) unended same w = (
    ap (λ (v : ConnectionView). v.ended) w.1 ∙ ap Some (sym w.0),
    ends_one s old.ended old.limits old.left before behind end unended
        (subst (λ (x : Ended). EndsOne s old.limits old.left before behind x) (sym w.0) same),
  )

-- no more bytes are left
pub wait_made : (middle new : ConnectionView) (r : Answered) → WaitsAfter middle new r → bytes_open new ≤ length middle.left
wait_made middle new answered.Replied w = absurd w
wait_made middle new answered.Waits w = subst (λ (o : Option Ended). open_bytes o (length new.left) ≤ length middle.left) (sym w.0) w.2
wait_made middle new (answered.Ended end) w = subst (λ (v : ConnectionView). bytes_open v ≤ length middle.left) (sym w.1) (omega arith)

pub wait_where : (middle new : ConnectionView) (r : Answered) → WaitsAfter middle new r → WaitsWhere r new
wait_where middle new answered.Replied w = absurd w
wait_where middle new answered.Waits w = w.4
wait_where middle new (answered.Ended end) w = tt

-- where it did not end, it waits
pub wait_open : (middle new : ConnectionView) (r : Answered) → WaitsAfter middle new r → new.ended ≡ None → Waits new
wait_open middle new answered.Replied w open' = absurd w
wait_open middle new answered.Waits w open' = w.4
wait_open middle new (answered.Ended end) w open' = absurd (let e = sym (ap (λ (v : ConnectionView). v.ended) w.1) ∙ open' in cc)

pub wait_own : (middle new : ConnectionView) (r : Answered) → WaitsAfter middle new r → IsOwnEnd new.ended
wait_own middle new answered.Replied w = absurd w
wait_own middle new answered.Waits w = subst IsOwnEnd (sym w.0) tt
wait_own middle new (answered.Ended end) w = subst (λ (v : ConnectionView). IsOwnEnd v.ended) (sym w.1) tt

-- ---- what is left

module _ (limits : Limits) (bytes : List ℕ) (p : Progress) (open' : AllOpen limits bytes) (few : HasFewBlank limits bytes) where
  pub waits_so : (o : Option Ended) → IsProgress limits bytes p → IsShort limits bytes p → HasFewLines p → Waits (record { limits = limits; left = bytes; ended = o })
  waits_so o is short lines = (λ e. open', few, keeps_few limits bytes p is few short lines)

  -- the same of the bytes that stand for them
  pub waits_joined : (o : Option Ended) (other : List ℕ) (q : Progress) → JoinsTo limits bytes other q
      → Waits (record { limits = limits; left = other; ended = o })
  waits_joined o other q j =
      let alike = alike_now limits bytes other (j.alike []) in
      let blank : HasFewBlank limits other = λ is. let less = few (alike.back next.Closed is) in let size = j.fewer in omega (arith, less, size) in
      (λ e x is. open_back (length other) (length bytes) x (open' _ (alike.back x is)), blank, keeps_few limits other q j.is_progress blank j.short j.few)

module _ (limits : Limits) (left rest : List ℕ) (skipped : ℕ) (o : Option Ended) (p : Progress) (unended : o ≡ None) (rest_is : rest ≡ drop skipped left)
    (behind : WaitsBehind limits left (turned.Waits skipped p)) where
  -- the bytes stay
  pub stay_so : (other : List ℕ) (q : Progress) → other ≡ drop skipped left → (q ≡ p) × HasFewLines q
      → WaitsAfter (open_at limits (drop skipped left)) (record { limits = limits; left = other; ended = o }) answered.Waits
  stay_so other q is lines =
      subst (λ (t : List ℕ). WaitsAfter (open_at limits (drop skipped left)) (record { limits = limits; left = t; ended = o }) answered.Waits) (sym is) (
        unended,
        refl,
        omega arith,
        λ more. alike_same limits (drop skipped left ++ more),
        waits_so limits (drop skipped left) p behind.1 behind.0.few o behind.0.is_progress behind.2 (subst HasFewLines lines.0 lines.1),
      )

  -- others stand for them
  pub joined_so : (other : List ℕ) (q : Progress) → JoinsTo limits rest other q
      → WaitsAfter (open_at limits (drop skipped left)) (record { limits = limits; left = other; ended = o }) answered.Waits
  joined_so other q joins =
      let j = subst (λ (t : List ℕ). JoinsTo limits t other q) rest_is joins in (
        unended,
        refl,
        j.fewer,
        j.alike,
        waits_joined limits (drop skipped left) p behind.1 behind.0.few o other q j,
      )
