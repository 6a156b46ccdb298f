-- The steps of a connection, whatever bytes follow.
use Rattle.std.proofs.Common.{◌≡◌, ℕ, ◌==◌, ◌+◌, ◌<◌, ◌≤◌, inl, inr, Bool, true, false, List, [], ◌∷◌, ◌++◌, length, drop, Option, None, Some, Ok, refl, sym, ap, ◌∙◌, subst, arith, append_assoc, append-nil}
use Rattle.std.specs.Prelude.{MatchOption, if◌then◌else◌, ⊤}
use Rattle.std.proofs.lemmas.List.{drop-append-le, drop-drop}
use Rattle.web_reply.specs.ResponseBodies.{Plain}
use Rattle.web_reply.specs.Replies.{Reply}
use Rattle.web_request.specs.Request.{Request}
use Rattle.web_request.specs.declared.source.Mark.{Mark}
use Rattle.web_request.specs.Feed.{Feed}
use Rattle.web_worker.specs.ServicePromises.{Promise, SameService}
use Rattle.web_worker.specs.Exchanges.{ExchangeView}
use Rattle.web_worker.specs.Setting.{Setting, setting_with}
use Rattle.web_messages.specs.HeadFaults.{head_fault}
use Rattle.web_messages.specs.NextMessage.{IsNext}
use Rattle.web_messages.specs.Progress.{IsSettled, IsShort, Skips, next_at_end}
use Rattle.web_messages.specs.Progress as reading
use Rattle.web_messages.specs.Sameness.{SameAhead, SameMessage, SameNext}
use Rattle.web_messages.specs.declared.limits.HeadFault.{HeadFault}
use Rattle.web_messages.specs.declared.limits.Limits.{Limits}
use Rattle.web_messages.specs.declared.limits.Wrong.{Wrong}
use Rattle.web_messages.specs.declared.limits.Wrong.TheVariants as wrong
use Rattle.web_messages.specs.declared.message.Message.{Message}
use Rattle.web_messages.specs.declared.message.Next.{Next}
use Rattle.web_messages.specs.declared.message.Next.TheVariants as next
use Rattle.web_messages.specs.declared.progress.Progress.{Progress}
use Rattle.web_messages.specs.declared.progress.Progress.TheVariants as progress
use Rattle.web_messages.proofs.OneLemmas.{one_next}
use Rattle.web_messages.proofs.SkipLemmas.{ahead_back, ahead_then, same_ahead}
use Rattle.web_messages.proofs.UseLemmas.{uses_some, uses_within}
use Rattle.web_http1.specs.declared.answering.Turned.{Turned}
use Rattle.web_http1.specs.declared.answering.Turned.TheVariants as turned
use Rattle.web_http1.specs.declared.ended.Ended.{Ended}
use Rattle.web_http1.specs.declared.ended.Ended.TheVariants as ended
use Rattle.web_http1.specs.Answers.{Answer, Behind, IsAnswerTo, MayGoOn, MayStand, Served, answer_bytes, asks_end, is_head, refusal_bytes, replies, sent_answer}
use Rattle.web_http1.specs.Connections.{AllOpen, ConnectionView, FinishesWith, GoesOn, IsOpen, IsOwnEnd, StepsFrom, StepsTo, WaitsForMore, ended_at, open_at}
use Rattle.web_http1.specs.ConnectionSteps.{IsReplied, IsServed, IsTurned, RefusedWith, TakesPiece, WaitsBehind, turned_left, with_piece}
use Rattle.web_http1.specs.MessageExchanges.{exchange_of}
use Rattle.web_http1.specs.ReplyBytes.{Sent, sent_bytes, sent_reply}
use Rattle.web_http1.proofs.SettingLemmas.{served_as, service_back}

behind_true : (c : Bool) (A B : Type 0) → c ≡ true → Behind c A B → A
behind_true true A B e x = x
behind_true false A B e x = cc

behind_false : (c : Bool) (A B : Type 0) → c ≡ false → Behind c A B → B
behind_false false A B e x = x
behind_false true A B e x = cc

-- ---- two readings of one message

module _ (m n : Message) (same : SameMessage m n) where
  pub same_end : asks_end m ≡ asks_end n
  same_end = cc (same.version, same.headers)

  pub same_head : is_head m ≡ is_head n
  same_head = cc (same.method)

  pub same_exchange : {S L D C : Type 0} → ◌≡◌ {A = ExchangeView S L D C} (exchange_of m) (exchange_of n)
  same_exchange = cc (same.method, same.scheme, same.authority, same.path_and_query, same.version, same.headers, same.body)

-- the reply that was written is that of the answer
pub replied_so : (m : Message) (x : Answer) → SameMessage m x.message → (asked head closes : Bool) (sent : Sent) (r : Reply Plain) → asked ≡ asks_end m
    → head ≡ is_head m → sent ≡ sent_reply asked r → r ≡ x.reply → closes ≡ sent.closes
    → (closes ≡ (sent_answer x).closes) × (sent_bytes head sent ≡ answer_bytes x)
replied_so m x same asked head closes sent r asked_is head_is sent_is reply_is closes_is =
    let whole : sent ≡ sent_answer x =
    sent_is ∙ ap (λ (b : Bool). sent_reply b r) (asked_is ∙ same_end m x.message same)
    ∙ ap (λ (q : Reply Plain). sent_reply (asks_end x.message) q) reply_is in (
      closes_is ∙ ap (λ (t : Sent). t.closes) whole,
      ap (λ (b : Bool). sent_bytes b sent) (head_is ∙ same_head m x.message same) ∙ ap (sent_bytes (is_head x.message)) whole,
    )

-- a step that does not wait for more bytes
abbrev pub IsKnown : Turned → Type 0
IsKnown (turned.Goes used) = ⊤
IsKnown (turned.Waits skipped p) = ⊥
IsKnown (turned.Ended e) = ⊤

-- a settled message leaves those after it
pub left_behind : (limits : Limits) (left : List ℕ) (m : Message) → IsSettled limits left (next.Message m) → IsNext limits left (next.Message m)
left_behind limits left m is = subst (λ (t : List ℕ). IsNext limits t (next.Message m)) (append-nil left) (is [])

module _ {S L D C V K : Type 0} (s : Setting S L D C V K) where
  -- what is served begins with a settled message
  pub record Begins (limits : Limits) (left : List ℕ) (m : Message) (more : List ℕ) (xs : List Answer) (rest : List ℕ) (closed : Bool) : Type 0 where
    pub first : Answer
    pub others : List Answer
    pub all : xs ≡ first ∷ others
    pub same : SameMessage m first.message
    pub replied : IsAnswerTo s first
    pub behind : Behind (sent_answer first).closes ((others ≡ []) × (rest ≡ drop first.message.used (left ++ more)) × (closed ≡ true))
        (Served s limits (drop first.message.used (left ++ more)) others rest closed)

  pub begins : (limits : Limits) (left : List ℕ) (m : Message) → IsSettled limits left (next.Message m) → (more : List ℕ) (xs : List Answer) (rest : List ℕ) (closed : Bool)
      → Served s limits (left ++ more) xs rest closed → Begins limits left m more xs rest closed
  begins limits left m is more [] rest closed v = absurd (v.0 m (is more))
  begins limits left m is more (x ∷ xs) rest closed v = record {
    first = x;
    others = xs;
    all = refl;
    same = one_next limits (left ++ more) (next.Message m) (next.Message x.message) (is more) v.0;
    replied = v.1;
    behind = v.2;
  }

  -- none is served before a settled refusal
  pub none_before : (limits : Limits) (left : List ℕ) (w : Wrong) → IsSettled limits left (next.Refused w) → (more : List ℕ) (xs : List Answer) (rest : List ℕ) (closed : Bool)
      → Served s limits (left ++ more) xs rest closed → (xs ≡ []) × (rest ≡ left ++ more) × (closed ≡ false)
  none_before limits left w is more [] rest closed v = (refl, v.1, v.2)
  none_before limits left w is more (x ∷ xs) rest closed v =
      absurd (one_next limits (left ++ more) (next.Refused w) (next.Message x.message) (is more) v.0)

  pub ended_as : (c : ConnectionView) (e f : Option Ended) (more : List ℕ) (xs : List Answer) (given rest : List ℕ) (closed : Bool) → f ≡ e → GoesOn s c e more xs given rest closed
      → GoesOn s c f more xs given rest closed
  ended_as c e f more xs given rest closed same h = subst (λ (o : Option Ended). GoesOn s c o more xs given rest closed) (sym same) h

  -- an allocation failed
  pub failed_steps : (old new : ConnectionView) (before behind : List ℕ) → new.ended ≡ Some ended.NoMemory → behind ≡ before → StepsTo s old new before behind
  failed_steps old new before behind is same = (
    [],
    same ∙ sym (append-nil before),
    λ more xs rest closed v. ended_as new (Some ended.NoMemory) new.ended more xs [] rest closed is (replies xs, refl),
  )

  -- where the message has one reply, that was written
  abbrev pub WritesReply : Message → List ℕ → List ℕ → Bool → Type 0
  WritesReply m before behind closes =
      (given : List ℕ) × (behind ≡ before ++ given)
      × ((x : Answer) → SameMessage m x.message → IsAnswerTo s x → (closes ≡ (sent_answer x).closes) × (given ≡ answer_bytes x))

  pub writes_reply : (m : Message) (before behind : List ℕ) (closes : Bool) → IsReplied s m before behind (Ok closes) → WritesReply m before behind closes
  writes_reply m before behind closes h = (h.0, h.1, h.2)

  module _ (old new : ConnectionView) (m : Message) (is : IsSettled old.limits old.left (next.Message m)) where
    pub message_fits : m.used ≤ length old.left
    message_fits = uses_within old.limits old.left m (left_behind old.limits old.left m is)

    pub message_some : 0 < m.used
    message_some = uses_some old.limits old.left m (left_behind old.limits old.left m is)

    -- the reply was written, and closes the connection
    pub closed_steps : (before behind : List ℕ) (closes : Bool) → closes ≡ true → new.ended ≡ Some ended.Closed
        → WritesReply m before behind closes → StepsTo s old new before behind
    closed_steps before behind closes true_is end h = (
      h.0,
      h.1,
      λ more xs rest closed v.
          let b = begins old.limits old.left m is more xs rest closed v in
          let written = h.2 b.first b.same b.replied in
          let last = behind_true (sent_answer b.first).closes _ _ (sym written.0 ∙ true_is) b.behind in
          ended_as new (Some ended.Closed) new.ended more xs h.0 rest closed end (
            last.2,
            written.1 ∙ sym (append-nil (answer_bytes b.first))
                ∙ sym (ap replies (b.all ∙ ap (λ (ys : List Answer). b.first ∷ ys) last.0)),
          ),
    )

    -- the reply was written, and the connection stays open
    pub open_steps : (before behind : List ℕ) (closes : Bool) → closes ≡ false → new.ended ≡ None → new.limits ≡ old.limits → new.left ≡ drop m.used old.left
        → WritesReply m before behind closes → StepsTo s old new before behind
    open_steps before behind closes false_is end same left h = (
      h.0,
      h.1,
      λ more xs rest closed v.
          let b = begins old.limits old.left m is more xs rest closed v in
          let written = h.2 b.first b.same b.replied in
          let others = behind_false (sent_answer b.first).closes _ _ (sym written.0 ∙ false_is) b.behind in
          let bytes : drop b.first.message.used (old.left ++ more) ≡ new.left ++ more =
          ap (λ (n : ℕ). drop n (old.left ++ more)) (sym b.same.used) ∙ drop-append-le m.used old.left more message_fits
          ∙ ap (λ (t : List ℕ). t ++ more) (sym left) in
          ended_as new None new.ended more xs h.0 rest closed end (
            b.others,
            rest,
            same_ahead new.limits rest,
            subst (λ (l : Limits). Served s l (new.left ++ more) b.others rest closed) (sym same)
                (subst (λ (t : List ℕ). Served s old.limits t b.others rest closed) bytes others),
            ap replies b.all ∙ ap (λ (t : List ℕ). t ++ replies b.others) (sym written.1),
          ),
    )

  -- a refusal that stands whatever follows
  may_stand : (w : Wrong) → reading.MayStand (next.Refused w) → MayStand w
  may_stand (wrong.Head f) h = tt
  may_stand (wrong.Length f) h = tt
  may_stand wrong.TooLarge h = tt
  may_stand wrong.Chunk h = tt
  may_stand wrong.Cut h = h

  pub refused_steps : (limits : Limits) (left : List ℕ) (w : Wrong) (end : Ended) (before behind : List ℕ) → reading.MayStand (next.Refused w)
      → IsSettled limits left (next.Refused w) → RefusedWith w end before behind → IsTurned s limits left before behind (turned.Ended end)
  refused_steps limits left w ended.Closed before behind stands is h = absurd h
  refused_steps limits left w ended.SourceFault before behind stands is h = absurd h
  refused_steps limits left w ended.NoMemory before behind stands is h =
      (tt, failed_steps (open_at limits left) (ended_at limits left ended.NoMemory) before behind refl h)
  refused_steps limits left w (ended.Refused v) before behind stands is h = (
    tt,
    (
      refusal_bytes w,
      h.1,
      λ more xs rest closed served.
          let none = none_before limits left w is more xs rest closed served in (
            none.2,
            subst MayStand (sym h.0) (may_stand w stands),
            subst (λ (u : Wrong). IsNext limits rest (next.Refused u)) (sym h.0)
                (subst (λ (t : List ℕ). IsNext limits t (next.Refused w)) (sym none.1) (is more)),
            ap (λ (ys : List Answer). replies ys ++ refusal_bytes w) (sym none.0)
                ∙ ap (λ (u : Wrong). replies xs ++ refusal_bytes u) (sym h.0),
          ),
    ),
  )

  -- a message that was answered
  pub served_turns : (limits : Limits) (rest : List ℕ) (m : Message) (before behind : List ℕ) (t : Turned) → IsSettled limits rest (next.Message m)
      → IsServed s m before behind t → IsTurned s limits rest before behind t
  served_turns limits rest m before behind (turned.Goes used) is h = (
    subst (λ (n : ℕ). 0 < n) (sym h.0) (message_some (open_at limits rest) (open_at limits (drop used rest)) m is),
    subst (λ (n : ℕ). n ≤ length rest) (sym h.0) (message_fits (open_at limits rest) (open_at limits (drop used rest)) m is),
    open_steps (open_at limits rest) (open_at limits (drop used rest)) m is before behind false refl refl refl (ap (λ (n : ℕ). drop n rest) h.0)
        (writes_reply m before behind false h.1),
  )
  served_turns limits rest m before behind (turned.Waits skipped p) is h = absurd h
  served_turns limits rest m before behind (turned.Ended ended.Closed) is h =
      (tt, closed_steps (open_at limits rest) (ended_at limits rest ended.Closed) m is before behind true refl refl (writes_reply m before behind true h))
  served_turns limits rest m before behind (turned.Ended (ended.Refused w)) is h = absurd h
  served_turns limits rest m before behind (turned.Ended ended.SourceFault) is h = absurd h
  served_turns limits rest m before behind (turned.Ended ended.NoMemory) is h =
      (tt, failed_steps (open_at limits rest) (ended_at limits rest ended.NoMemory) before behind refl h)

  pub served_known : (m : Message) (before behind : List ℕ) (t : Turned) → IsServed s m before behind t → IsKnown t
  served_known m before behind (turned.Goes used) h = tt
  served_known m before behind (turned.Waits skipped p) h = h
  served_known m before behind (turned.Ended e) h = tt

  -- what is known uses some bytes, for one more record
  pub fewer_left : (limits : Limits) (rest before behind : List ℕ) (t : Turned) (old new : ℕ) → IsKnown t → IsTurned s limits rest before behind t
      → 0 < length rest → new ≤ old + 1 → new + turned_left t (length rest) ≤ old + length rest
  fewer_left limits rest before behind (turned.Goes used) old new known h some made = let a = h.0 in let b = h.1 in omega (arith, a, b, some, made)
  fewer_left limits rest before behind (turned.Waits skipped p) old new known h some made = absurd known
  fewer_left limits rest before behind (turned.Ended e) old new known h some made = omega (arith, some, made)

  -- nothing was known
  pub waits_steps : (old new : ConnectionView) (before behind : List ℕ) → new ≡ old → old.ended ≡ None → behind ≡ before → StepsTo s old new before behind
  waits_steps old new before behind same unended written = (
    [],
    written ∙ sym (append-nil before),
    λ more xs rest closed v. ended_as new None new.ended more xs [] rest closed (ap (λ (c : ConnectionView). c.ended) same ∙ unended) (
      xs,
      rest,
      same_ahead new.limits rest,
      subst (λ (c : ConnectionView). Served s c.limits (c.left ++ more) xs rest closed) (sym same) v,
      refl,
    ),
  )

  -- what goes on after what was given
  pub goes_then : (c : ConnectionView) (e : Option Ended) (more : List ℕ) (xs ys : List Answer) (given next' rest : List ℕ) (closed : Bool) → replies xs ≡ given ++ replies ys
      → GoesOn s c e more ys next' rest closed → GoesOn s c e more xs (given ++ next') rest closed
  goes_then c None more xs ys given next' rest closed split g =
      (g.0, g.1, g.2, g.3, split ∙ ap (λ (t : List ℕ). given ++ t) g.4 ∙ sym (append_assoc given next' (replies g.0)))
  goes_then c (Some ended.Closed) more xs ys given next' rest closed split g =
      (g.0, ap (λ (t : List ℕ). given ++ t) g.1 ∙ sym split)
  goes_then c (Some (ended.Refused w)) more xs ys given next' rest closed split g = (
    g.0,
    g.1,
    g.2,
    ap (λ (t : List ℕ). given ++ t) g.3 ∙ sym (append_assoc given (replies ys) (refusal_bytes w))
        ∙ ap (λ (t : List ℕ). t ++ refusal_bytes w) (sym split),
  )
  goes_then c (Some ended.SourceFault) more xs ys given next' rest closed split g = g
  goes_then c (Some ended.NoMemory) more xs ys given next' rest closed split g =
      (g.0, split ∙ ap (λ (t : List ℕ). given ++ t) g.1 ∙ sym (append_assoc given next' g.0))

  -- what goes on to the end of bytes that read the same
  pub goes_to : (c : ConnectionView) (e : Option Ended) (more : List ℕ) (xs : List Answer) (given rest other : List ℕ) (closed : Bool) → SameAhead c.limits rest other
      → GoesOn s c e more xs given rest closed → GoesOn s c e more xs given other closed
  goes_to c None more xs given rest other closed same g = (g.0, g.1, ahead_then g.2 same, g.3, g.4)
  goes_to c (Some ended.Closed) more xs given rest other closed same g = g
  goes_to c (Some (ended.Refused w)) more xs given rest other closed same g = (g.0, g.1, same.there (next.Refused w) g.2, g.3)
  goes_to c (Some ended.SourceFault) more xs given rest other closed same g = g
  goes_to c (Some ended.NoMemory) more xs given rest other closed same g = g

  -- a step after what was given
  pub goes_further : (middle new : ConnectionView) (more : List ℕ) (xs : List Answer) (given next' rest : List ℕ) (closed : Bool) → new.limits ≡ middle.limits
      → (g : GoesOn s middle None more xs given rest closed) → GoesOn s new new.ended more g.0 next' g.1 closed
      → GoesOn s new new.ended more xs (given ++ next') rest closed
  goes_further middle new more xs given next' rest closed same g h =
      goes_then new new.ended more xs g.0 given next' rest closed g.4
      (goes_to new new.ended more g.0 next' g.1 rest closed (subst (λ (l : Limits). SameAhead l g.1 rest) (sym same) g.2) h)

  -- two steps
  pub then_steps : (old middle new : ConnectionView) (a b c : List ℕ) → middle.ended ≡ None → new.limits ≡ middle.limits → StepsTo s old middle a b → StepsTo s middle new b c
      → StepsTo s old new a c
  then_steps old middle new a b c unended same h k = (
    h.0 ++ k.0,
    k.1 ∙ ap (λ (t : List ℕ). t ++ k.0) h.1 ∙ append_assoc a h.0 k.0,
    λ more xs rest closed v.
        let first = subst (λ (o : Option Ended). GoesOn s middle o more xs h.0 rest closed) unended (h.2 more xs rest closed v) in
        goes_further middle new more xs h.0 k.0 rest closed same first (k.2 more first.0 first.1 closed first.3),
  )

  -- bytes that read the same give the same answers
  served_same : (limits : Limits) (a b : List ℕ) (xs : List Answer) (rest : List ℕ) (closed : Bool) → SameAhead limits a b → Served s limits a xs rest closed
      → (end : List ℕ) × SameAhead limits end rest × Served s limits b xs end closed
  served_same limits a b [] rest closed same v = (
    b,
    subst (SameAhead limits b) (sym v.1) (ahead_back same),
    (λ m h. v.0 m (same.back (next.Message m) h), refl, v.2),
  )
  served_same limits a b (x ∷ xs) rest closed same v = (
    rest,
    same_ahead limits rest,
    (
      same.there (next.Message x.message) v.0,
      v.1,
      subst (λ (t : List ℕ). Behind (sent_answer x).closes ((xs ≡ []) × (rest ≡ t) × (closed ≡ true)) (Served s limits t xs rest closed)) (same.behind x.message v.0) v.2,
    ),
  )

  -- the bytes that are skipped
  pub skipped_steps : (limits : Limits) (rest other : List ℕ) (before behind : List ℕ) → ((more : List ℕ) → SameAhead limits (rest ++ more) (other ++ more)) → behind ≡ before
      → StepsTo s (open_at limits rest) (open_at limits other) before behind
  skipped_steps limits rest other before behind same written = (
    [],
    written ∙ sym (append-nil before),
    λ more xs end closed v.
        let others = served_same limits (rest ++ more) (other ++ more) xs end closed (same more) v in
        (xs, others.0, others.1, others.2, refl),
  )

  pub waits_turns : (limits : Limits) (rest before behind : List ℕ) (t : Turned) → WaitsBehind limits rest t → behind ≡ before → IsTurned s limits rest before behind t
  waits_turns limits rest before behind (turned.Goes used) h written = absurd h
  waits_turns limits rest before behind (turned.Waits skipped p) h written =
      (h, skipped_steps limits rest (drop skipped rest) before behind h.0.same written)
  waits_turns limits rest before behind (turned.Ended end) h written = absurd h

-- more bytes have to come where what is next at the end of the bytes lets the connection go on
pub open_as : (x y : Next) → SameNext x y → IsOpen y → IsOpen x
open_as next.Closed y same o = tt
open_as (next.Refused w) (next.Refused v) same o = subst MayGoOn (sym same) o
open_as (next.Refused w) next.Closed same o = absurd same
open_as (next.Refused w) (next.Message n) same o = absurd same
open_as (next.Message m) (next.Message n) same o = absurd o
open_as (next.Message m) next.Closed same o = absurd same
open_as (next.Message m) (next.Refused v) same o = absurd same

head_open : (b : Bool) (f : HeadFault) → IsOpen (if b then next.Closed else next.Refused (wrong.Head f))
head_open true f = tt
head_open false f = tt

open_at_end : (limits : Limits) (p : Progress) (bytes : List ℕ) → IsOpen (next_at_end limits p bytes)
open_at_end limits (progress.Head s) bytes = head_open (s.blank == length bytes) (head_fault limits bytes)
open_at_end limits (progress.Sized head size) bytes = tt
open_at_end limits (progress.Chunked head place body) bytes = tt

pub all_open : (limits : Limits) (rest : List ℕ) (p : Progress) → IsNext limits rest (next_at_end limits p rest) → AllOpen limits rest
all_open limits rest p is x g =
    open_as x (next_at_end limits p rest) (one_next limits rest x (next_at_end limits p rest) g is) (open_at_end limits p rest)

-- more bytes have to come where the bytes that are left read the same
open_ahead : (limits : Limits) (rest other : List ℕ) → SameAhead limits rest other → AllOpen limits rest → AllOpen limits other
open_ahead limits rest other same opens x is = opens x (same.back x is)

pub waits_behind : (limits : Limits) (rest : List ℕ) (p q : Progress) (skipped : ℕ) → Skips limits rest q skipped → IsNext limits rest (next_at_end limits p rest)
    → IsShort limits (drop skipped rest) q → WaitsBehind limits rest (turned.Waits skipped q)
waits_behind limits rest p q skipped skips is short = (
  skips,
  open_ahead limits rest (drop skipped rest)
      (subst (λ (t : List ℕ). SameAhead limits t (drop skipped rest)) (append-nil rest)
      (subst (λ (t : List ℕ). SameAhead limits (rest ++ []) t) (append-nil (drop skipped rest)) (skips.same [])))
      (all_open limits rest p is),
  short,
)

-- what is kept of a step that waits
pub waits_made : (limits : Limits) (rest : List ℕ) (t : Turned) (old new : ℕ) → WaitsBehind limits rest t → new ≡ old → new + turned_left t (length rest) ≤ old + length rest
waits_made limits rest (turned.Goes used) old new h same = absurd h
waits_made limits rest (turned.Waits skipped p) old new h same = omega (arith, same)
waits_made limits rest (turned.Ended end) old new h same = absurd h

-- a refusal at the end of the bytes
pub refused_end : (limits : Limits) (rest : List ℕ) (w : Wrong) (end : Ended) (before behind : List ℕ) → IsNext limits rest (next.Refused w)
    → RefusedWith w end before behind → FinishesWith limits rest end before behind
refused_end limits rest w ended.Closed before behind is h = absurd h
refused_end limits rest w ended.SourceFault before behind is h = absurd h
refused_end limits rest w ended.NoMemory before behind is h = inr (refl, h)
refused_end limits rest w (ended.Refused v) before behind is h = inl (
  refusal_bytes w,
  h.1,
  (subst (λ (u : Wrong). IsNext limits rest (next.Refused u)) (sym h.0) is, ap refusal_bytes (sym h.0)),
)

-- what may stand uses some bytes
pub some_rest : (limits : Limits) (rest : List ℕ) (x : Next) → reading.MayStand x → IsSettled limits rest x → 0 < length rest
some_rest limits [] (next.Message m) stands is = let blank = (is []).0 in absurd (cc)
some_rest limits [] (next.Refused (wrong.Head f)) stands is = let blank = (is []).0 in absurd (cc)
some_rest limits [] (next.Refused (wrong.Length f)) stands is = let blank = (is []).0 in absurd (cc)
some_rest limits [] (next.Refused wrong.TooLarge) stands is = let blank = (is []).0 in absurd (cc)
some_rest limits [] (next.Refused wrong.Chunk) stands is = let blank = (is []).0 in absurd (cc)
some_rest limits [] (next.Refused wrong.Cut) stands is = absurd stands
some_rest limits [] next.Closed stands is = absurd stands
some_rest limits (b ∷ rest) x stands is = omega arith

-- one more step, over the bytes of a buffer
pub rest_steps : {S L D C V K : Type 0} (s : Setting S L D C V K) (limits : Limits) (buffer old : List ℕ) (place used : ℕ) (rest : List ℕ) (end : Option Ended)
    (a b c : List ℕ) → rest ≡ drop place buffer → StepsTo s (open_at limits old) (open_at limits (drop place buffer)) a b
    → StepsTo s (open_at limits rest) (record { limits = limits; left = drop used rest; ended = end }) b c
    → StepsTo s (open_at limits old) (record { limits = limits; left = drop (place + used) buffer; ended = end }) a c
rest_steps s limits buffer old place used rest end a b c e h k =
    let there = subst (λ (t : List ℕ). StepsTo s (open_at limits t) (record { limits = limits; left = drop used t; ended = end }) b c) e k in
    let joined = subst (λ (t : List ℕ). StepsTo s (open_at limits (drop place buffer)) (record { limits = limits; left = t; ended = end }) b c) (drop-drop used place buffer) there in
    then_steps s (open_at limits old) (open_at limits (drop place buffer)) (record { limits = limits; left = drop (place + used) buffer; ended = end }) a b c refl refl h joined

-- the last step, over the bytes of a buffer
pub end_steps : {S L D C V K : Type 0} (s : Setting S L D C V K) (limits : Limits) (buffer old : List ℕ) (place : ℕ) (rest : List ℕ) (end : Ended)
    (a b c : List ℕ) → rest ≡ drop place buffer → StepsTo s (open_at limits old) (open_at limits (drop place buffer)) a b
    → StepsTo s (open_at limits rest) (ended_at limits rest end) b c → StepsTo s (open_at limits old) (ended_at limits (drop place buffer) end) a c
end_steps s limits buffer old place rest end a b c e h k =
    let there = subst (λ (t : List ℕ). StepsTo s (open_at limits t) (ended_at limits t end) b c) e k in
    then_steps s (open_at limits old) (open_at limits (drop place buffer)) (ended_at limits (drop place buffer) end) a b c refl refl h there

-- a piece that was taken and answered
module _ {S L D C V K : Type 0} (s : Setting S L D C V K) where
  pub ended_only : (c d : ConnectionView) (e : Ended) (more : List ℕ) (xs : List Answer) (given rest : List ℕ) (closed : Bool) → c.limits ≡ d.limits
      → GoesOn s c (Some e) more xs given rest closed → GoesOn s d (Some e) more xs given rest closed
  ended_only c d ended.Closed more xs given rest closed same g = g
  ended_only c d (ended.Refused w) more xs given rest closed same g =
      (g.0, g.1, subst (λ (l : Limits). IsNext l rest (next.Refused w)) same g.2, g.3)
  ended_only c d ended.SourceFault more xs given rest closed same g = g
  ended_only c d ended.NoMemory more xs given rest closed same g = g

  not_ended : (c d : ConnectionView) (o : Option Ended) (before behind : List ℕ) → o ≡ None → MatchOption o (StepsTo s c d before behind) (λ e. (d ≡ c) × (behind ≡ before))
      → StepsTo s c d before behind
  not_ended c d None before behind e h = h
  not_ended c d (Some x) before behind e h = absurd (cc)

  pub taken : (old middle new : ConnectionView) (piece before behind : List ℕ) (result : Option Ended) → middle ≡ with_piece old piece → old.ended ≡ None
      → StepsFrom s middle new before behind → new.limits ≡ middle.limits → WaitsForMore new → (middle.ended ≡ None → IsOwnEnd new.ended) → result ≡ new.ended
      → TakesPiece s old new piece before behind result
  taken old middle new piece before behind result is unended h same waits own result_is = of result result_is
    where
      middle_open : middle.ended ≡ None
      middle_open = ap (λ (c : ConnectionView). c.ended) is ∙ unended

      limits_are : new.limits ≡ old.limits
      limits_are = same ∙ ap (λ (c : ConnectionView). c.limits) is

      steps : StepsTo s (with_piece old piece) new before behind
      steps = subst (λ (c : ConnectionView). StepsTo s c new before behind) is (not_ended middle new middle.ended before behind middle_open h)

      of : (r : Option Ended) → r ≡ new.ended → TakesPiece s old new piece before behind r
      of None e = (sym e, limits_are, waits, steps)
      of (Some end) e = (
        subst IsOwnEnd (sym e) (own middle_open),
        (
          steps.0,
          steps.1,
          λ more xs rest closed v.
              ended_only new (ended_at old.limits [] end) end more xs steps.0 rest closed limits_are
              (subst (λ (o : Option Ended). GoesOn s new o more xs steps.0 rest closed) (sym e) (steps.2 more xs rest closed v)),
        ),
      )

-- a step, where the service promises the same
module _ {S L D C V K : Type 0} (feed : S → Feed) (request : ExchangeView S L D C → Request L D C)
    (c_a c_b : Request L D C → Request L D C) (p_a p_b : Request L D C → List Mark → Promise V) (l_a l_b : K → Request L D C → Promise V)
    (h : SameService c_a c_b p_a p_b l_a l_b) where
  goes_as : (c : ConnectionView) (e : Option Ended) (more : List ℕ) (xs : List Answer) (given rest : List ℕ) (closed : Bool) → GoesOn (setting_with c_b p_b l_b feed request) c e more xs given rest closed
      → GoesOn (setting_with c_a p_a l_a feed request) c e more xs given rest closed
  goes_as c None more xs given rest closed g =
      (g.0, g.1, g.2, served_as feed request c_b c_a p_b p_a l_b l_a (service_back h) c.limits (c.left ++ more) g.0 g.1 closed g.3, g.4)
  goes_as c (Some ended.Closed) more xs given rest closed g = g
  goes_as c (Some (ended.Refused w)) more xs given rest closed g = g
  goes_as c (Some ended.SourceFault) more xs given rest closed g = g
  goes_as c (Some ended.NoMemory) more xs given rest closed g = g

  pub steps_as : (old new : ConnectionView) (before behind : List ℕ) → StepsTo (setting_with c_b p_b l_b feed request) old new before behind → StepsTo (setting_with c_a p_a l_a feed request) old new before behind
  steps_as old new before behind t = (
    t.0,
    t.1,
    λ more xs rest closed v.
        goes_as new new.ended more xs t.0 rest closed (t.2 more xs rest closed (served_as feed request c_a c_b p_a p_b l_a l_b h old.limits (old.left ++ more) xs rest closed v)),
  )
