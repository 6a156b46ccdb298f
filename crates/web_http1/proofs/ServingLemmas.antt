-- A connection over a source, turn by turn.
use Rattle.std.proofs.Common.{◌≡◌, ◌≢◌, ℕ, ◌⊎◌, inl, inr, Bool, true, false, List, [], ◌∷◌, ◌++◌, Option, None, Some, refl, sym, ap, ◌∙◌, subst, append_assoc, append-nil}
use Rattle.std.specs.Prelude.{MatchOption}
use Rattle.web_request.specs.Body.{ends_in_fault, piece_bytes}
use Rattle.web_request.specs.Feed.{Feed, GivesPiece, Stalls, Fails, Ends, Takes, TakesLast, NoneLeft}
use Rattle.web_request.specs.declared.source.Mark.{Mark}
use Rattle.web_request.specs.declared.source.Mark.TheVariants as mark
use Rattle.web_worker.specs.Setting.{Setting}
use Rattle.web_messages.specs.NextMessage.{IsNext}
use Rattle.web_messages.specs.declared.limits.Limits.{Limits}
use Rattle.web_messages.specs.declared.limits.Wrong.{Wrong}
use Rattle.web_messages.specs.declared.message.Next.TheVariants as next
use Rattle.web_messages.specs.Sameness.{SameAhead}
use Rattle.web_messages.proofs.OneLemmas.{one_next}
use Rattle.web_messages.proofs.SkipLemmas.{same_ahead}
use Rattle.web_http1.specs.declared.ended.Ended.{Ended}
use Rattle.web_http1.specs.declared.ended.Ended.TheVariants as ended
use Rattle.web_http1.specs.Answers.{Answer, AnswersAtFault, Behind, EndsAtEnd, EndsAtFault, MayGoOn, Served, refusal_bytes, replies}
use Rattle.web_http1.specs.Connections.{AllOpen, ConnectionView, Finishes, FinishesWith, GoesOn, IsOwn, StepsTo, WaitsForMore, open_at}
use Rattle.web_http1.specs.ConnectionSteps.{with_piece}
use Rattle.web_http1.specs.Serving.{AnswersAll, AnswersUpToFault, Appends, StopsAtFault, UnlessLacking}
use Rattle.web_http1.proofs.ConnectionLemmas.{goes_further, open_as}

-- ---- the marks of the source

-- where the marks were these, the others are left
pub record IsLeft (marks : List Mark) (feed : Feed) (left : List Mark) : Type 0 where
  pub left_is : feed.marks ≡ Some left
  pub fault : ends_in_fault left ≡ ends_in_fault marks

took : (x : Mark) (o n : Option (List Mark)) (left : List Mark) → o ≡ Some left → Takes x o n → (rest : List Mark) × (left ≡ x ∷ rest) × (n ≡ Some rest)
took x None n left is t = absurd (cc)
took x (Some m) n left is t = (t.0, cc (is, t.1), t.2)

last_of : (x : Mark) (o n : Option (List Mark)) (left : List Mark) → o ≡ Some left → TakesLast x o n → left ≡ x ∷ []
last_of x None n left is t = absurd (cc)
last_of x (Some m) n left is t = cc (is, t.0)

none_of : (o n : Option (List Mark)) (left : List Mark) → o ≡ Some left → NoneLeft o n → left ≡ []
none_of None n left is t = absurd (cc)
none_of (Some m) n left is t = cc (is, t.0)

module _ {S L D C V K : Type 0} (s : Setting S L D C V K) (limits : Limits) where
  -- so far these bytes were written: what is left of the connection and the bytes of the marks that are left give the other answers
  pub record SoFar (marks : List Mark) (feed : Feed) (c : ConnectionView) (before behind : List ℕ) : Type 0 where
    pub left : List Mark
    pub is_left : IsLeft marks feed left
    pub given : List ℕ
    pub written : behind ≡ before ++ given
    pub goes : (xs : List Answer) (rest : List ℕ) (closed : Bool) → Served s limits (piece_bytes marks) xs rest closed
        → GoesOn s c c.ended (piece_bytes left) xs given rest closed

  pub starts : (marks : List Mark) (feed : Feed) (c : ConnectionView) (before : List ℕ) → feed.marks ≡ Some marks → c.limits ≡ limits → c.left ≡ [] → c.ended ≡ None
      → SoFar marks feed c before before
  starts marks feed c before is same none unended = record {
    left = marks;
    is_left = record { left_is = is; fault = refl };
    given = [];
    written = sym (append-nil before);
    goes = λ xs rest closed v.
        subst (λ (o : Option Ended). GoesOn s c o (piece_bytes marks) xs [] rest closed) (sym unended) (
          xs,
          rest,
          same_ahead c.limits rest,
          subst (λ (l : Limits). Served s l (c.left ++ piece_bytes marks) xs rest closed) (sym same)
              (subst (λ (t : List ℕ). Served s limits (t ++ piece_bytes marks) xs rest closed) (sym none) v),
          refl,
        );
  }

  module _ (marks : List Mark) (old new : Feed) (c : ConnectionView) (before behind : List ℕ) (unended : c.ended ≡ None) (same : c.limits ≡ limits) (h : SoFar marks old c before behind) where
    open_goes : (xs : List Answer) (rest : List ℕ) (closed : Bool) → Served s limits (piece_bytes marks) xs rest closed
        → GoesOn s c None (piece_bytes h.left) xs h.given rest closed
    open_goes xs rest closed v = subst (λ (o : Option Ended). GoesOn s c o (piece_bytes h.left) xs h.given rest closed) unended (h.goes xs rest closed v)

    -- a stall
    pub stalled : Stalls old new → SoFar marks new c before behind
    stalled g =
        let t = took mark.Stall old.marks new.marks h.left h.is_left.left_is g.takes in
        record {
          left = t.0;
          is_left = record { left_is = t.2; fault = ap ends_in_fault (sym t.1) ∙ h.is_left.fault };
          given = h.given;
          written = h.written;
          goes = λ xs rest closed v.
              subst (λ (m : List Mark). GoesOn s c c.ended (piece_bytes m) xs h.given rest closed) t.1 (h.goes xs rest closed v);
        }

    -- reading failed, or the source ended
    pub last_fault : Fails old new → h.left ≡ mark.Fault ∷ []
    last_fault g = last_of mark.Fault old.marks new.marks h.left h.is_left.left_is g.takes

    pub is_faulty : Fails old new → ends_in_fault marks ≡ true
    is_faulty g = sym h.is_left.fault ∙ ap ends_in_fault (last_fault g)

    pub none_after : Ends old new → h.left ≡ []
    none_after g = none_of old.marks new.marks h.left h.is_left.left_is g.left

    pub is_faultless : Ends old new → ends_in_fault marks ≡ false
    is_faultless g = sym h.is_left.fault ∙ ap ends_in_fault (none_after g)

    -- a piece: the step of the connection that has it, to d
    pub pieced : (b : List ℕ) (d : ConnectionView) (further : List ℕ) → d.limits ≡ c.limits → GivesPiece b old new → StepsTo s (with_piece c b) d behind further
        → SoFar marks new d before further
    pieced b d further kept g step =
        let t = took (mark.Piece b) old.marks new.marks h.left h.is_left.left_is g.takes in
        record {
          left = t.0;
          is_left = record { left_is = t.2; fault = ap ends_in_fault (sym t.1) ∙ h.is_left.fault };
          given = h.given ++ step.0;
          written = step.1 ∙ ap (λ (x : List ℕ). x ++ step.0) h.written ∙ append_assoc before h.given step.0;
          goes = λ xs rest closed v.
              let now = subst (λ (m : List Mark). GoesOn s c None (piece_bytes m) xs h.given rest closed) t.1 (open_goes xs rest closed v) in
              let served = subst (λ (x : List ℕ). Served s c.limits x now.0 now.1 closed) (sym (append_assoc c.left b (piece_bytes t.0))) now.3 in
              goes_further s (with_piece c b) d (piece_bytes t.0) xs h.given step.0 rest closed kept (now.0, now.1, now.2, served, now.4)
              (step.2 (piece_bytes t.0) now.0 now.1 closed served);
        }

  -- ---- the ends

  -- an answer's text, in two parts
  split_text : (xs : List Answer) (given back tail text : List ℕ) → replies xs ≡ given ++ back → text ≡ replies xs ++ tail → text ≡ given ++ (back ++ tail)
  split_text xs given back tail text e is = is ∙ ap (λ (t : List ℕ). t ++ tail) e ∙ append_assoc given back tail

  same_ends : (rest tail tail' : List ℕ) (end end' : Ended) → EndsAtEnd limits rest tail end → EndsAtEnd limits rest tail' end' → (end' ≡ end) × (tail' ≡ tail)
  same_ends rest tail tail' ended.Closed ended.Closed a b = (refl, b.1 ∙ sym a.1)
  same_ends rest tail tail' ended.Closed (ended.Refused w) a b = absurd (one_next limits rest next.Closed (next.Refused w) a.0 b.0)
  same_ends rest tail tail' (ended.Refused v) ended.Closed a b = absurd (one_next limits rest (next.Refused v) next.Closed a.0 b.0)
  same_ends rest tail tail' (ended.Refused v) (ended.Refused w) a b =
      let same : v ≡ w = one_next limits rest (next.Refused v) (next.Refused w) a.0 b.0 in
      (ap ended.Refused (sym same), b.1 ∙ ap refusal_bytes (sym same) ∙ sym a.1)
  same_ends rest tail tail' ended.Closed ended.SourceFault a b = absurd b
  same_ends rest tail tail' ended.Closed ended.NoMemory a b = absurd b
  same_ends rest tail tail' (ended.Refused v) ended.SourceFault a b = absurd b
  same_ends rest tail tail' (ended.Refused v) ended.NoMemory a b = absurd b
  same_ends rest tail tail' ended.SourceFault end' a b = absurd a
  same_ends rest tail tail' ended.NoMemory end' a b = absurd a

  -- bytes that read the same end so
  ends_ahead : (a b tail : List ℕ) (end : Ended) → SameAhead limits a b → EndsAtEnd limits a tail end → EndsAtEnd limits b tail end
  ends_ahead a b tail ended.Closed same h = (same.there next.Closed h.0, h.1)
  ends_ahead a b tail (ended.Refused w) same h = (same.there (next.Refused w) h.0, h.1)
  ends_ahead a b tail ended.SourceFault same h = h
  ends_ahead a b tail ended.NoMemory same h = h

  behind_false : (c : Bool) (A B : Type 0) → c ≡ false → Behind c A B → B
  behind_false false A B e x = x
  behind_false true A B e x = cc

  behind_true : (c : Bool) (A B : Type 0) → c ≡ true → Behind c A B → A
  behind_true true A B e x = x
  behind_true false A B e x = cc

  to_false : (c : Bool) (A B : Type 0) → c ≡ false → B → Behind c A B
  to_false false A B e x = x
  to_false true A B e x = cc

  to_true : (c : Bool) (A B : Type 0) → c ≡ true → A → Behind c A B
  to_true true A B e x = x
  to_true false A B e x = cc

  -- no message is next where more bytes have to come
  none_left : (left : List ℕ) (ys : List Answer) (rest : List ℕ) (closed : Bool) → AllOpen limits left → Served s limits (left ++ []) ys rest closed
      → (ys ≡ []) × (rest ≡ left) × (closed ≡ false)
  none_left left [] rest closed unended v = (refl, v.1 ∙ append-nil left, v.2)
  none_left left (y ∷ ys) rest closed unended v =
      absurd (unended (next.Message y.message) (subst (λ (t : List ℕ). IsNext limits t (next.Message y.message)) (append-nil left) v.0))

  module _ (marks : List Mark) (feed : Feed) (c : ConnectionView) (before behind : List ℕ) (h : SoFar marks feed c before behind) where
    -- an allocation failed somewhere
    goes_prefix : (e : Option Ended) (xs : List Answer) (given rest : List ℕ) (closed : Bool) → (e ≡ None) ⊎ (e ≡ Some ended.NoMemory) → GoesOn s c e (piece_bytes h.left) xs given rest closed
        → (back : List ℕ) × (replies xs ≡ given ++ back)
    goes_prefix None xs given rest closed which g = (replies g.0, g.4)
    goes_prefix (Some ended.NoMemory) xs given rest closed which g = g
    goes_prefix (Some ended.Closed) xs given rest closed (inl e) g = absurd (cc)
    goes_prefix (Some ended.Closed) xs given rest closed (inr e) g = absurd (cc)
    goes_prefix (Some (ended.Refused w)) xs given rest closed (inl e) g = absurd (cc)
    goes_prefix (Some (ended.Refused w)) xs given rest closed (inr e) g = absurd (cc)
    goes_prefix (Some ended.SourceFault) xs given rest closed which g = absurd g

    pub lacks_memory : (c.ended ≡ None) ⊎ (c.ended ≡ Some ended.NoMemory) → AnswersAll s limits (piece_bytes marks) ended.NoMemory before behind
    lacks_memory which text end a =
        let b = goes_prefix c.ended a.answers h.given a.rest a.closed which (h.goes a.answers a.rest a.closed a.served) in
        inr (refl, h.given, b.0 ++ a.tail, split_text a.answers h.given b.0 a.tail text b.1 a.text_is, h.written)

    -- it ended before the bytes did
    pub ended_all : (e : Ended) → c.ended ≡ Some e → c.limits ≡ limits → AnswersAll s limits (piece_bytes marks) e before behind
    ended_all e is same text end a = of e (subst (λ (o : Option Ended). GoesOn s c o (piece_bytes h.left) a.answers h.given a.rest a.closed) is (h.goes a.answers a.rest a.closed a.served))
      where
        of : (e : Ended) → GoesOn s c (Some e) (piece_bytes h.left) a.answers h.given a.rest a.closed
            → ((e ≡ end) × (behind ≡ before ++ text)) ⊎ ((e ≡ ended.NoMemory) × (front : List ℕ) × (back : List ℕ) × (text ≡ front ++ back) × (behind ≡ before ++ front))
        of ended.Closed g =
            let ends = behind_true a.closed _ _ g.0 a.ends in
            inl (sym ends.1, h.written ∙ ap (λ (t : List ℕ). before ++ t) (g.1 ∙ sym (append-nil (replies a.answers)) ∙ ap (λ (t : List ℕ). replies a.answers ++ t) (sym ends.0) ∙ sym a.text_is))
        of (ended.Refused w) g =
            let ends = behind_false a.closed _ _ g.0 a.ends in
            let same' = same_ends a.rest a.tail (refusal_bytes w) end (ended.Refused w) ends (subst (λ (l : Limits). IsNext l a.rest (next.Refused w)) same g.2, refl) in
            inl (same'.0, h.written ∙ ap (λ (t : List ℕ). before ++ t) (g.3 ∙ ap (λ (t : List ℕ). replies a.answers ++ t) same'.1 ∙ sym a.text_is))
        of ended.SourceFault g = absurd g
        of ended.NoMemory g = inr (refl, h.given, g.0 ++ a.tail, split_text a.answers h.given g.0 a.tail text g.1 a.text_is, h.written)

    pub ended_up_to : (e : Ended) → c.ended ≡ Some e → c.limits ≡ limits → AnswersUpToFault s limits (piece_bytes marks) e before behind
    ended_up_to e is same text end a some = of e some (subst (λ (o : Option Ended). GoesOn s c o (piece_bytes h.left) a.answers h.given a.rest a.closed) is (h.goes a.answers a.rest a.closed a.served))
      where
        of : (e : Ended) → (e ≢ ended.NoMemory) → GoesOn s c (Some e) (piece_bytes h.left) a.answers h.given a.rest a.closed
            → (written : List ℕ) × AnswersAtFault s limits (piece_bytes marks) written e × (behind ≡ before ++ written)
        of ended.Closed some g = (
          h.given,
          record {
            answers = a.answers;
            rest = a.rest;
            closed = a.closed;
            served = a.served;
            tail = [];
            text_is = g.1 ∙ sym (append-nil (replies a.answers));
            ends = to_true a.closed _ _ g.0 (refl, refl);
          },
          h.written,
        )
        of (ended.Refused w) some g = (
          h.given,
          record {
            answers = a.answers;
            rest = a.rest;
            closed = a.closed;
            served = a.served;
            tail = refusal_bytes w;
            text_is = g.3;
            ends = to_false a.closed _ _ g.0 (g.1, subst (λ (l : Limits). IsNext l a.rest (next.Refused w)) same g.2, refl);
          },
          h.written,
        )
        of ended.SourceFault some g = absurd g
        of ended.NoMemory some g = absurd (some refl)

    module _ (unended : c.ended ≡ None) (same : c.limits ≡ limits) (waits : WaitsForMore c) where
      all_open : AllOpen limits c.left
      all_open x is = waits unended x (subst (λ (l : Limits). IsNext l c.left x) (sym same) is)

      last_served : piece_bytes h.left ≡ [] → (xs : List Answer) (rest : List ℕ) (closed : Bool) → Served s limits (piece_bytes marks) xs rest closed
          → (h.given ≡ replies xs) × SameAhead limits c.left rest × (closed ≡ false)
      last_served none xs rest closed v =
          let g = subst (λ (o : Option Ended). GoesOn s c o (piece_bytes h.left) xs h.given rest closed) unended (h.goes xs rest closed v) in
          let sv = subst (λ (t : List ℕ). Served s limits (c.left ++ t) g.0 g.1 closed) none (subst (λ (l : Limits). Served s l (c.left ++ piece_bytes h.left) g.0 g.1 closed) same g.3) in
          let none_is = none_left c.left g.0 g.1 closed all_open sv in (
            sym (append-nil h.given) ∙ sym (g.4 ∙ ap (λ (ys : List Answer). h.given ++ replies ys) none_is.0),
            subst (λ (t : List ℕ). SameAhead limits t rest) none_is.1 (subst (λ (l : Limits). SameAhead l g.1 rest) same g.2),
            none_is.2,
          )

      -- the bytes ended
      pub finished : (result : Ended) (further : List ℕ) → h.left ≡ [] → FinishesWith limits c.left result behind further
          → AnswersAll s limits (piece_bytes marks) result before further
      finished result further none (inr f) text end a =
          let l = last_served (ap piece_bytes none) a.answers a.rest a.closed a.served in
          inr (f.0, h.given, a.tail, a.text_is ∙ ap (λ (t : List ℕ). t ++ a.tail) (sym l.0), f.1 ∙ h.written)
      finished result further none (inl f) text end a =
          let l = last_served (ap piece_bytes none) a.answers a.rest a.closed a.served in
          let ends = behind_false a.closed _ _ l.2 a.ends in
          let same' = same_ends a.rest a.tail f.0 end result ends (ends_ahead c.left a.rest f.0 result l.1 f.2) in
          inl (
            same'.0,
            f.1 ∙ ap (λ (t : List ℕ). t ++ f.0) h.written ∙ append_assoc before h.given f.0
                ∙ ap (λ (t : List ℕ). before ++ t) (ap (λ (t : List ℕ). h.given ++ t) same'.1 ∙ ap (λ (t : List ℕ). t ++ a.tail) l.0 ∙ sym a.text_is),
          )

      goes_on : (w : Wrong) → IsNext limits c.left (next.Refused w) → MayGoOn w
      goes_on w is = all_open (next.Refused w) is

      -- reading failed
      pub failed_up_to : h.left ≡ mark.Fault ∷ [] → AnswersUpToFault s limits (piece_bytes marks) ended.SourceFault before behind
      failed_up_to last text end a some =
          let l = last_served (ap piece_bytes last) a.answers a.rest a.closed a.served in (
            h.given,
            record {
              answers = a.answers;
              rest = a.rest;
              closed = a.closed;
              served = a.served;
              tail = [];
              text_is = l.0 ∙ sym (append-nil (replies a.answers));
              ends = to_false a.closed _ _ l.2 (of end l.1 (behind_false a.closed _ _ l.2 a.ends));
            },
            h.written,
          )
        where
          of : (end : Ended) → SameAhead limits c.left a.rest → EndsAtFault limits a.rest a.tail end → EndsAtFault limits a.rest [] ended.SourceFault
          of ended.Closed e f = absurd f
          of (ended.Refused w) e f = (refl, inr (w, goes_on w (e.back (next.Refused w) f.1), f.1))
          of ended.SourceFault e f = (refl, f.1)
          of ended.NoMemory e f = absurd f

-- ---- a connection of which no byte came, and how it ends

pub waits_empty : (limits : Limits) (c : ConnectionView) → c ≡ open_at limits [] → WaitsForMore c
waits_empty limits c is =
    let base : WaitsForMore (open_at limits []) = λ e x g. open_as x next.Closed (one_next limits [] x next.Closed g refl) tt in
    subst WaitsForMore (sym is) base

pub stops_own : (e : Ended) (old new : ℕ) → IsOwn e → new ≡ old → StopsAtFault e old new
stops_own ended.Closed old new own same = same
stops_own (ended.Refused w) old new own same = same
stops_own ended.SourceFault old new own same = absurd own
stops_own ended.NoMemory old new own same = tt

pub stops_finished : (limits : Limits) (rest : List ℕ) (e : Ended) (before behind : List ℕ) (old new : ℕ) → FinishesWith limits rest e before behind → new ≡ old
    → StopsAtFault e old new
stops_finished limits rest ended.Closed before behind old new f same = same
stops_finished limits rest (ended.Refused w) before behind old new f same = same
stops_finished limits rest ended.SourceFault before behind old new (inl f) same = absurd f.2
stops_finished limits rest ended.SourceFault before behind old new (inr f) same = let e = f.0 in absurd (cc)
stops_finished limits rest ended.NoMemory before behind old new f same = tt

open_part : (o : Option Ended) (A : Type 0) (B : Ended → Type 0) → o ≡ None → MatchOption o A B → A
open_part None A B e h = h
open_part (Some x) A B e h = absurd (cc)

pub finishes_open : (c : ConnectionView) (e : Ended) (before behind : List ℕ) → c.ended ≡ None → Finishes c e before behind → FinishesWith c.limits c.left e before behind
finishes_open c e before behind unended f = open_part c.ended _ _ unended f

pub unless_lacking : (e : Ended) {P : Type 0} → P → UnlessLacking e P
unless_lacking ended.Closed p = p
unless_lacking (ended.Refused w) p = p
unless_lacking ended.SourceFault p = p
unless_lacking ended.NoMemory p = tt

-- ---- what is written stands after what stood there

pub appends_none : (a : List ℕ) → Appends a a
appends_none a = ([], sym (append-nil a))

pub appends_then : (a b c : List ℕ) → Appends a b → Appends b c → Appends a c
appends_then a b c h k = (h.0 ++ k.0, k.1 ∙ ap (λ (t : List ℕ). t ++ k.0) h.1 ∙ append_assoc a h.0 k.0)

pub appends_finished : (limits : Limits) (rest : List ℕ) (e : Ended) (before behind : List ℕ) → FinishesWith limits rest e before behind → Appends before behind
appends_finished limits rest e before behind (inl f) = (f.0, f.1)
appends_finished limits rest e before behind (inr f) = ([], f.1 ∙ sym (append-nil before))
