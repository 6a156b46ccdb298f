-- What a service promises of a request, or of a call under way.
use Rattle.std.specs.Prelude.{◌≡◌, ℕ, suc, ◌+◌, ◌<◌, List, Option, None, Some, ⊤}
use Rattle.web_request.specs.declared.source.Mark.{Mark}
use Rattle.web_reply.specs.ResponseBodies.{Plain}
use Rattle.web_reply.specs.Replies.{Reply}
use Rattle.web_worker.specs.Outcomes.{OutcomeView}
use Rattle.web_worker.specs.Outcomes.{OutcomeView.Replied, OutcomeView.Unfinished}
use Rattle.web_worker.specs.Outcomes.{OutcomeView.NoMemory}

-- V are the extractors of the service's handler
pub record Promise (V : Type 0) : Type 1 where
  -- this reply may come after this number of polls that leave it open
  pub gives : ℕ → Reply Plain → Type 0
  -- every reply comes before this number of polls
  pub before : ℕ → Type 0
  -- the extractors may come as this value, or be refused, after this number of polls that leave
  -- them open
  pub arguments : ℕ → Option V → Type 0

module _ {V : Type 0} where
  -- all that `small` allows, `large` allows
  pub record Narrows (small large : Promise V) : Type 0 where
    pub gives : (d : ℕ) (r : Reply Plain) → small.gives d r → large.gives d r
    pub before : (n : ℕ) → large.before n → small.before n
    pub arguments : (k : ℕ) (y : Option V) → small.arguments k y → large.arguments k y

  -- what is left of a promise after one poll that leaves it open
  abbrev pub one_later : Promise V → Promise V
  one_later p = record {
    gives = λ d r. p.gives (suc d) r;
    before = λ n. p.before (suc n);
    arguments = λ k y. p.arguments (suc k) y;
  }

  -- the same after n such polls
  abbrev pub later : ℕ → Promise V → Promise V
  later n p = record {
    gives = λ d r. p.gives (n + d) r;
    before = λ k. p.before (n + k);
    arguments = λ k y. p.arguments (n + k) y;
  }

  -- a call that was begun over a payload with these marks; over marks that are not stated nothing
  -- is promised
  abbrev pub Begins : (List Mark → Promise V) → Option (List Mark) → Promise V → Type 0
  Begins promise None left = ⊤
  Begins promise (Some m) left = Narrows left (promise m)

  -- one poll: its reply was allowed now, or what is left was allowed one poll later
  abbrev pub Polls : OutcomeView → Promise V → Promise V → Type 0
  Polls (Replied r) old new = old.gives 0 r
  Polls Unfinished old new = Narrows new (one_later old)
  Polls NoMemory old new = ⊤

  -- exactly this reply, after this number of polls that leave it open
  pub record Once (p : Promise V) (d : ℕ) (r : Reply Plain) : Type 0 where
    pub once : (k : ℕ) (s : Reply Plain) → p.gives k s → (k ≡ d) × (s ≡ r)
    pub comes : (n : ℕ) → d < n → p.before n

  -- the same is promised as before, of each request and of each call under way, and the same is
  -- added to each request
  pub record SameService
      {Q C : Type 0}
      (completed_old completed_new : Q → Q)
      (promise_old promise_new : Q → List Mark → Promise V)
      (left_old left_new : C → Q → Promise V) : Type 0 where
    pub completed : (q : Q) → completed_new q ≡ completed_old q
    pub requests : (q : Q) (m : List Mark) → Narrows (promise_new q m) (promise_old q m)
    pub requests_back : (q : Q) (m : List Mark) → Narrows (promise_old q m) (promise_new q m)
    pub calls : (c : C) (q : Q) → Narrows (left_new c q) (left_old c q)
    pub calls_back : (c : C) (q : Q) → Narrows (left_old c q) (left_new c q)

-- P, where no answer came
abbrev pub OnUnfinished : OutcomeView → Type 0 → Type 0
OnUnfinished (Replied r) P = ⊤
OnUnfinished Unfinished P = P
OnUnfinished NoMemory P = ⊤
