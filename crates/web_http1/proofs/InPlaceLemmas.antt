-- A piece that is answered, and a reply that is written, where it stands.
use Rattle.std.proofs.Common.{◌≡◌, ℕ, ◌+◌, ◌<◌, ◌≤◌, ◌⊎◌, inl, inr, Bool, false, List, [], ◌∷◌, ◌++◌, length, drop, Option, None, Some, Result, Ok, Err, refl, sym, ap, ◌∙◌, subst, arith}
use Rattle.std.specs.Prelude.{IfOk, OnErr}
use Rattle.web_texts.specs.declared.memory.NoMemory.{NoMemory}
use Rattle.web_reply.specs.ResponseBodies.{Plain}
use Rattle.web_reply.specs.Replies.{Reply}
use Rattle.web_reply.specs.declared.head.ResponseHead.{ResponseHead}
use Rattle.web_worker.specs.Exchanges.{FlightView, FlightView.Answered}
use Rattle.web_worker.specs.OutcomeFunctions.{AnswersOnce}
use Rattle.web_worker.specs.Setting.{Setting}
use Rattle.web_messages.specs.Progress.{HasFewBlank, IsProgress, IsShort, Skips}
use Rattle.web_messages.specs.Sameness.{SameAhead, SameMessage}
use Rattle.web_messages.specs.declared.limits.Limits.{Limits}
use Rattle.web_messages.specs.declared.message.Message.{Message}
use Rattle.web_messages.specs.declared.progress.Progress.{Progress}
use Rattle.web_messages.proofs.SkipLemmas.{same_ahead}
use Rattle.web_http1.specs.declared.answered.Answered.{Answered as AnsweredAs}
use Rattle.web_http1.specs.declared.answering.Turned.TheVariants as turned
use Rattle.web_http1.specs.declared.ended.Ended.{Ended}
use Rattle.web_http1.specs.declared.ended.Ended.TheVariants as ended
use Rattle.web_http1.specs.Answers.{Answer, IsAnswerTo, StatesMarks, answer_bytes, asks_end, is_head, sent_answer}
use Rattle.web_http1.specs.BegunAnswers.{WaitsAfter, moved}
use Rattle.web_http1.specs.Connections.{AllOpen, ConnectionView, IsOwnEnd, StepsFrom, StepsTo, bytes_open, ended_at, open_at, open_bytes}
use Rattle.web_http1.specs.ConnectionSteps.{IsReplied, WaitsBehind, with_piece}
use Rattle.web_http1.specs.InPlace.{IsLastWritten, IsWritten, KeepsRest, WritesAtOnce}
use Rattle.web_http1.specs.MessageExchanges.{exchange_of}
use Rattle.web_http1.specs.OneAnswer.{Waits}
use Rattle.web_http1.specs.Polls.{AllowedBy, AnsweredBy, LastReplied}
use Rattle.web_http1.specs.ReplyBytes.{Sent, SentFrom, content_of, sent_bytes, sent_reply, sent_with}
use Rattle.web_http1.proofs.AllowedLemmas.{reply_allowed}
use Rattle.web_http1.proofs.BufferLemmas.{steps_from}
use Rattle.web_http1.proofs.ConnectionLemmas.{ended_only, failed_steps, replied_so, same_exchange, then_steps}
use Rattle.web_http1.proofs.PollLemmas.{reply_is}
use Rattle.web_http1.proofs.WaitLemmas.{wait_goes, wait_limits, wait_made, wait_open, wait_own}

pub drop_none : (t : List ℕ) → drop 0 t ≡ t
drop_none [] = refl
drop_none (b ∷ t) = refl

-- ---- what is kept of a piece

-- more bytes have to come, none of which is skipped
pub behind_place : (limits : Limits) (now rest : List ℕ) (p : Progress) → now ≡ rest → IsProgress limits rest p → AllOpen limits rest → HasFewBlank limits rest
    → IsShort limits rest p → WaitsBehind limits now (turned.Waits 0 p)
behind_place limits now rest p is so_far open' few short =
    subst (λ (t : List ℕ). WaitsBehind limits t (turned.Waits 0 p)) (sym is)
    (subst
    (λ (t : List ℕ). Skips limits rest p 0 × AllOpen limits t × IsShort limits t p)
    (sym (drop_none rest)) (
      record {
        inside = omega arith;
        is_progress = subst (λ (t : List ℕ). IsProgress limits t p) (sym (drop_none rest)) so_far;
        same = λ more. subst (λ (t : List ℕ). SameAhead limits (rest ++ more) (t ++ more)) (sym (drop_none rest)) (same_ahead limits (rest ++ more));
        few = subst (λ (t : List ℕ). HasFewBlank limits t) (sym (drop_none rest)) few;
      },
      open',
      short,
    ))

-- the same of a connection that has these bytes after none
pub kept_behind : (c middle : ConnectionView) (rest : List ℕ) (p : Progress) → c.left ≡ []
    → middle ≡ record { limits = c.limits; left = c.left ++ rest; ended = c.ended } → WaitsBehind c.limits rest (turned.Waits 0 p)
    → WaitsBehind middle.limits middle.left (turned.Waits 0 p)
kept_behind c middle rest p empty is h =
    subst (λ (v : ConnectionView). WaitsBehind v.limits v.left (turned.Waits 0 p)) (sym is)
    (subst (λ (t : List ℕ). WaitsBehind c.limits t (turned.Waits 0 p)) (sym (ap (λ (l : List ℕ). l ++ rest) empty)) h)

-- an allocation failed
pub keeps_none : (c middle new : ConnectionView) (rest : List ℕ) (r : AnsweredAs) → c.left ≡ [] → middle ≡ c
    → new ≡ ended_at middle.limits middle.left ended.NoMemory → KeepsRest c.limits rest new r
keeps_none c middle new rest r empty same is =
    inr (is ∙ ap (λ (v : ConnectionView). ended_at v.limits v.left ended.NoMemory) same ∙ ap (λ (t : List ℕ). ended_at c.limits t ended.NoMemory) empty)

pub kept_rest : (c middle new : ConnectionView) (rest : List ℕ) (r : AnsweredAs) → c.left ≡ []
    → middle ≡ record { limits = c.limits; left = c.left ++ rest; ended = c.ended } → WaitsAfter (moved middle 0 false) new r
    → KeepsRest c.limits rest new r
kept_rest c middle new rest r empty is w =
    let left = ap (λ (l : List ℕ). drop 0 (l ++ rest)) empty ∙ drop_none rest in
    inl (subst (λ (t : List ℕ). WaitsAfter (open_at c.limits t) new r) left
    (subst (λ (v : ConnectionView). WaitsAfter (moved v 0 false) new r) is w))

pub rest_limits : (limits : Limits) (rest : List ℕ) (new : ConnectionView) (r : AnsweredAs) → KeepsRest limits rest new r → new.limits ≡ limits
rest_limits limits rest new r (inl w) = wait_limits (open_at limits rest) new r w
rest_limits limits rest new r (inr e) = ap (λ (v : ConnectionView). v.limits) e

pub rest_made : (limits : Limits) (rest : List ℕ) (new : ConnectionView) (r : AnsweredAs) → KeepsRest limits rest new r → bytes_open new ≤ length rest
rest_made limits rest new r (inl w) = wait_made (open_at limits rest) new r w
rest_made limits rest new r (inr e) = subst (λ (v : ConnectionView). bytes_open v ≤ length rest) (sym e) (omega arith)

pub rest_waits : (limits : Limits) (rest : List ℕ) (new : ConnectionView) (r : AnsweredAs) → KeepsRest limits rest new r → new.ended ≡ None → Waits new
rest_waits limits rest new r (inl w) open' = wait_open (open_at limits rest) new r w open'
rest_waits limits rest new r (inr e) open' = absurd (let f = sym (ap (λ (v : ConnectionView). v.ended) e) ∙ open' in cc)

pub rest_own : (limits : Limits) (rest : List ℕ) (new : ConnectionView) (r : AnsweredAs) → KeepsRest limits rest new r → IsOwnEnd new.ended
rest_own limits rest new r (inl w) = wait_own (open_at limits rest) new r w
rest_own limits rest new r (inr e) = subst (λ (v : ConnectionView). IsOwnEnd v.ended) (sym e) tt

module _ {S L D C V K : Type 0} (s : Setting S L D C V K) where
  pub rest_goes : (limits : Limits) (old rest : List ℕ) (new : ConnectionView) (before behind : List ℕ) (r : AnsweredAs)
      → StepsTo s (open_at limits old) (open_at limits rest) before behind → KeepsRest limits rest new r → StepsTo s (open_at limits old) new before behind
  rest_goes limits old rest new before behind r steps (inl w) =
      wait_goes s (open_at limits old) (open_at limits rest) new before behind r refl steps w
  rest_goes limits old rest new before behind r steps (inr e) =
      then_steps s (open_at limits old) (open_at limits rest) new before behind behind refl (ap (λ (v : ConnectionView). v.limits) e) steps
      (failed_steps s (open_at limits rest) new behind behind (ap (λ (v : ConnectionView). v.ended) e) refl)

  -- it ended, with other bytes left
  pub ends_so : (limits : Limits) (old left rest : List ℕ) (end : Ended) (new : ConnectionView) (before behind : List ℕ) → new ≡ ended_at limits left end
      → StepsTo s (open_at limits old) (ended_at limits rest end) before behind → StepsTo s (open_at limits old) new before behind
  ends_so limits old left rest end new before behind is steps =
      subst (λ (v : ConnectionView). StepsTo s (open_at limits old) v before behind) (sym is) (
        steps.0,
        steps.1,
        λ more xs rest' closed v.
            ended_only s (ended_at limits rest end) (ended_at limits left end) end more xs steps.0 rest' closed refl (steps.2 more xs rest' closed v),
      )

  -- ---- a piece that is answered where it stands

  pub place_goes : (limits : Limits) (piece now rest : List ℕ) (new : ConnectionView) (before behind : List ℕ) (r : AnsweredAs) → now ≡ rest
      → StepsTo s (open_at limits (drop 0 piece)) (open_at limits rest) before behind → KeepsRest limits now new r → StepsTo s (open_at limits piece) new before behind
  place_goes limits piece now rest new before behind r is steps kept =
      rest_goes limits piece now new before behind r
      (subst (λ (t : List ℕ). StepsTo s (open_at limits t) (open_at limits now) before behind) (drop_none piece)
      (subst (λ (t : List ℕ). StepsTo s (open_at limits (drop 0 piece)) (open_at limits t) before behind) (sym is) steps)) kept

  pub place_ends : (limits : Limits) (piece left rest : List ℕ) (end : Ended) (new : ConnectionView) (before behind : List ℕ) → new ≡ ended_at limits left end
      → StepsTo s (open_at limits (drop 0 piece)) (ended_at limits rest end) before behind → StepsTo s (open_at limits piece) new before behind
  place_ends limits piece left rest end new before behind is steps =
      subst (λ (t : List ℕ). StepsTo s (open_at limits t) new before behind) (drop_none piece)
      (ends_so limits (drop 0 piece) left rest end new before behind is steps)

-- ---- a piece where nothing was kept

pub piece_alone : (c : ConnectionView) (piece : List ℕ) → c.left ≡ [] → c.left ++ piece ≡ piece
piece_alone c piece empty = ap (λ (l : List ℕ). l ++ piece) empty

pub open_alone : (c : ConnectionView) (piece : List ℕ) → c.ended ≡ None → c.left ≡ [] → bytes_open (with_piece c piece) ≡ length piece
open_alone c piece unended empty =
    ap (λ (o : Option _). open_bytes o (length (c.left ++ piece))) unended ∙ ap length (piece_alone c piece empty)

module _ {S L D C V K : Type 0} (s : Setting S L D C V K) where
  pub steps_alone : (c new : ConnectionView) (piece before behind : List ℕ) → c.ended ≡ None → c.left ≡ []
      → StepsTo s (open_at c.limits piece) new before behind → StepsFrom s (with_piece c piece) new before behind
  steps_alone c new piece before behind unended empty steps =
      steps_from s c.limits (c.left ++ piece) c.ended new before behind unended
      (subst (λ (t : List ℕ). StepsTo s (open_at c.limits t) new before behind) (sym (piece_alone c piece empty)) steps)

-- ---- a reply that was written

same_reply : {S L D C K : Type 0} (flights : List (FlightView S L D C K)) (p q : Reply Plain) → AnsweredBy p flights → LastReplied flights q → q ≡ p
same_reply flights p q a last =
    reply_is flights [] (Answered a.0) p q a a.1 (sym (last (Answered a.0) a.1))

module _ {S L D C V K : Type 0} (s : Setting S L D C V K) (m : Message) (flights : List (FlightView S L D C K)) (asked head : Bool) (before behind : List ℕ)
    (asked_is : asked ≡ asks_end m) (head_is : head ≡ is_head m) (allowed : AllowedBy s (exchange_of m) flights)
    (answered : (d : ℕ) (r : Reply Plain) → AnswersOnce s (exchange_of m) d r → d < 18446744073709551615 → AnsweredBy r flights) where
  answered_so : (closes : Bool) (w : IsLastWritten asked head flights before behind closes) (x : Answer) → SameMessage m x.message → IsAnswerTo s x
      → (closes ≡ (sent_answer x).closes) × (sent_bytes head w.sent ≡ answer_bytes x)
  answered_so closes w x same to =
      let once = subst (λ e. AnswersOnce s e x.delay x.reply) (sym (same_exchange m x.message same)) to.once in
      let plain = same_reply flights x.reply w.reply (answered x.delay x.reply once to.soon) w.last in
      let states = subst (λ (r : Reply Plain). StatesMarks r.body) (sym plain) to.states in
      replied_so m x same asked head closes w.sent w.reply asked_is head_is (w.states states) plain w.written.0

  pub replied_by : (r : Result Bool NoMemory) → IfOk r (IsLastWritten asked head flights before behind) → OnErr r (behind ≡ before)
      → IsReplied s m before behind r
  replied_by (Ok closes) w none = (
    sent_bytes head w.sent,
    w.written.1,
    answered_so closes w,
    w.sent,
    w.written.0,
    ap (λ (b : Bool). sent_bytes b w.sent) head_is,
    w.reply,
    reply_allowed s (exchange_of m) flights w.reply allowed w.last,
    λ states. w.states states ∙ ap (λ (b : Bool). sent_reply b w.reply) asked_is,
    subst (λ (b : Bool). SentFrom b w.reply.head w.sent) asked_is w.from,
  )
  replied_by (Err e) w none = none

-- a body that is in memory
pub at_once : (head asked : Bool) (r : Reply Plain) (h : ResponseHead) (content : List ℕ) (before behind : List ℕ) (closes : Bool) → h ≡ r.head
    → content_of r.body ≡ Some content → IsWritten head (sent_with asked h (Some content)) before behind closes
    → WritesAtOnce head asked r before behind (Some closes)
at_once head asked r h content before behind closes head_is body_is w =
    subst (λ (s : Sent). IsWritten head s before behind closes)
    (ap (λ (x : ResponseHead). sent_with asked x (Some content)) head_is ∙ ap (sent_with asked r.head) (sym body_is)) w

pub last_at_once : {S L D C K : Type 0} (asked head : Bool) (flights : List (FlightView S L D C K)) (before behind : List ℕ) (closes : Bool) (r : Reply Plain)
    → LastReplied flights r → WritesAtOnce head asked r before behind (Some closes) → IsLastWritten asked head flights before behind closes
last_at_once asked head flights before behind closes r last w = record {
  reply = r;
  last = last;
  sent = sent_reply asked r;
  states = λ states. refl;
  from = (content_of r.body, refl);
  written = w;
}
