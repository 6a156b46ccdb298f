-- What a handler promises as a service: its requests are answered by its extractors, or by it.
use Rattle.std.proofs.Common.{arith, refl}
use Rattle.std.specs.Prelude.{◌≡◌, ℕ, suc, ◌<◌, Bool, false, List, Option, None, Some, Result, Ok}
use Rattle.std.specs.Prelude.{Err, ⊤}
use Rattle.web_request.specs.declared.source.Mark.{Mark}
use Rattle.web_request.specs.Feed.{Feed}
use Rattle.web_request.specs.Pool.{Pool}
use Rattle.web_request.specs.Request.{Request}
use Rattle.web_body.specs.PollSteps.{GivesSome}
use Rattle.web_reply.specs.ResponseBodies.{Plain}
use Rattle.web_reply.specs.Replies.{Fault, Reply}
use Rattle.web_worker.specs.declared.handler_service.Work.{Work}
use Rattle.web_worker.specs.declared.handler_service.Work.TheVariants.{Extracting, Handling}
use Rattle.web_worker.specs.ExchangeRules.{Rules, After, Replies, ComesBefore, RepliesBefore}
use Rattle.web_worker.specs.HandlerPromises.{SamePromises}
use Rattle.web_worker.specs.Outcomes.{OutcomeView}
use Rattle.web_worker.specs.Outcomes.{OutcomeView.Replied, OutcomeView.Unfinished}
use Rattle.web_worker.specs.Outcomes.{OutcomeView.NoMemory}
use Rattle.web_worker.specs.ServicePromises.{Narrows, Promise, SameService}
use Rattle.web_worker.specs.Setting.{Setting, setting_of}

abbrev pub rules_of : {L D C V E Y : Type 0}
    → (Request L D C → List Mark → List Mark → ℕ → Result V E → Type 0)
    → (E → Fault → Type 0)
    → (V → ℕ → Y → Type 0)
    → (Y → Request L D C → Reply Plain → Type 0)
    → Rules L D C V E Y
rules_of means converts answers responds = record {
  means = means;
  converts = converts;
  answers = answers;
  responds = responds;
}

-- as what extractors may come, without the cause of a refusal
abbrev pub Come : {V E : Type 0} → (ℕ → Result V E → Type 0) → ℕ → Option V → Type 0
Come gives k (Some v) = gives k (Ok v)
Come {V} {E} gives k None = (e : E) × gives k (Err e)

module _ {L D C V E Y : Type 0} (R : Rules L D C V E Y) where
  -- the extractors may come as x after n polls, whatever they leave
  abbrev pub Means : Request L D C → List Mark → ℕ → Result V E → Type 0
  Means q m n x = (rest : List Mark) × R.means q m rest n x

  -- a request whose payload has these marks
  abbrev pub request_promise : Request L D C → List Mark → Promise V
  request_promise q m = record {
    gives = Replies R q m;
    before = RepliesBefore R q m;
    arguments = Come (Means q m);
  }

  -- a call that waits for its extractors
  abbrev pub extracting_promise : {U : Type 0} → (U → ℕ → Result V E → Type 0) → U → Request L D C
      → Promise V
  extracting_promise extracts f q = record {
    gives = λ d r. (n : ℕ) × (x : Result V E) × extracts f n x × After R q n x d r;
    before = λ polls. (n : ℕ) (x : Result V E) → extracts f n x → ComesBefore R polls n x;
    arguments = Come (extracts f);
  }

  -- a call that waits for the handler
  abbrev pub handling_promise : {W : Type 0} → (W → ℕ → Y → Type 0) → W → Request L D C → Promise V
  handling_promise handles f q = record {
    gives = λ d r. (y : Y) × handles f d y × R.responds y q r;
    before = λ polls. (n : ℕ) (y : Y) → handles f n y → n < polls;
    arguments = λ k y. ⊥;
  }

  -- a call under way
  abbrev pub work_promise : {U W : Type 0} → (U → ℕ → Result V E → Type 0) → (W → ℕ → Y → Type 0)
      → Work U W → Request L D C → Promise V
  work_promise extracts handles (Extracting f) q = extracting_promise extracts f q
  work_promise extracts handles (Handling f) q = handling_promise handles f q

-- the setting of a worker with this pool, whose service is a handler
abbrev pub handler_setting : {S L D C V E Y U W : Type 0}
    → (Request L D C → List Mark → List Mark → ℕ → Result V E → Type 0)
    → (E → Fault → Type 0)
    → (V → ℕ → Y → Type 0)
    → (Y → Request L D C → Reply Plain → Type 0)
    → (S → Feed)
    → (U → ℕ → Result V E → Type 0)
    → (W → ℕ → Y → Type 0)
    → Pool L
    → Setting S L D C V (Work U W)
handler_setting means converts answers responds feed extracts handles pool =
    setting_of (λ q. q) (request_promise (rules_of means converts answers responds))
    (work_promise (rules_of means converts answers responds) extracts handles) feed pool

abbrev pub work_finished : {U W : Type 0} → (U → Bool) → (W → Bool) → Work U W → Bool
work_finished u w (Extracting f) = u f
work_finished u w (Handling f) = w f

-- a handler that was called, whose future stays in its place with what was allowed one poll later
abbrev pub StaysHandling : {U W Y : Type 0} → (W → Bool) → (W → ℕ → Y → Type 0) → W → Work U W
    → Type 0
StaysHandling finished handles f (Extracting u) = ⊥
StaysHandling {U} {W} {Y} finished handles f (Handling g) =
    (finished g ≡ false) × ((n : ℕ) (y : Y) → handles g n y → handles f (suc n) y)

-- the first poll of a future f of a handler: it is stored, or its value is there
abbrev pub HandledOrStays : {U W Y Q : Type 0} → (W → Bool) → (W → ℕ → Y → Type 0)
    → (Y → Q → Reply Plain → Type 0) → W → Q → Work U W → OutcomeView → Type 0
HandledOrStays finished handles responds f q call Unfinished =
    StaysHandling finished handles f call
HandledOrStays {U} {W} {Y} finished handles responds f q call (Replied r) =
    (y : Y) × handles f 0 y × responds y q r
HandledOrStays finished handles responds f q call NoMemory = ⊤

not_before_first : (n : ℕ) → n < 0 → ⊥
not_before_first n h = absurd (omega arith)

module _ {L D C V E Y : Type 0} (R : Rules L D C V E Y) where
  pub comes_never : (n : ℕ) (x : Result V E) → ComesBefore R 0 n x → ⊥
  comes_never n (Err e) h = not_before_first n h
  comes_never n (Ok v) h = not_before_first n h.0

  -- a call whose future is not finished cannot have come before the first poll
  pub work_open : {U W : Type 0}
      (extracts : U → ℕ → Result V E → Type 0) (handles : W → ℕ → Y → Type 0)
      (u : U → Bool) (w : W → Bool)
      → ((f : U) → u f ≡ false → GivesSome (extracts f))
      → ((f : W) → w f ≡ false → GivesSome (handles f))
      → (c : Work U W) (q : Request L D C) → work_finished u w c ≡ false
      → (work_promise R extracts handles c q).before 0 → ⊥
  work_open extracts handles u w some1 some2 (Extracting f) q h before =
      some1 f h (λ n x gives. comes_never n x (before n x gives))
  work_open extracts handles u w some1 some2 (Handling f) q h before =
      some2 f h (λ n y gives. not_before_first n (before n y gives))

-- where a handler answers the same, its service promises the same
module _ {L D C V E Y U W : Type 0}
    (means : Request L D C → List Mark → List Mark → ℕ → Result V E → Type 0)
    (converts : E → Fault → Type 0) (responds : Y → Request L D C → Reply Plain → Type 0)
    (extracts : U → ℕ → Result V E → Type 0) (handles : W → ℕ → Y → Type 0)
    (a b : V → ℕ → Y → Type 0) where
  after_as : ((v : V) (n : ℕ) (y : Y) → b v n y → a v n y) → (q : Request L D C) (n : ℕ)
      (x : Result V E) (d : ℕ) (r : Reply Plain)
      → After (rules_of means converts b responds) q n x d r
      → After (rules_of means converts a responds) q n x d r
  after_as kept q n (Err e) d r h = h
  after_as kept q n (Ok v) d r h = (h.0, h.1, kept v h.0 h.1 h.2, h.3, h.4)

  comes_as : ((v : V) (n : ℕ) (y : Y) → b v n y → a v n y) → (polls n : ℕ) (x : Result V E)
      → ComesBefore (rules_of means converts a responds) polls n x
      → ComesBefore (rules_of means converts b responds) polls n x
  comes_as kept polls n (Err e) h = h
  comes_as kept polls n (Ok v) h = (h.0, λ k y g. h.1 k y (kept v k y g))

  request_narrows : ((v : V) (n : ℕ) (y : Y) → b v n y → a v n y) → (q : Request L D C)
      (m : List Mark)
      → Narrows (request_promise (rules_of means converts b responds) q m)
      (request_promise (rules_of means converts a responds) q m)
  request_narrows kept q m = record {
    gives = λ d r g. (g.0, g.1, g.2, g.3, after_as kept q g.1 g.2 d r g.4);
    before = λ n h rest k x g. comes_as kept n k x (h rest k x g);
    arguments = λ k y g. g;
  }

  call_narrows : ((v : V) (n : ℕ) (y : Y) → b v n y → a v n y) → (c : Work U W) (q : Request L D C)
      → Narrows (work_promise (rules_of means converts b responds) extracts handles c q)
      (work_promise (rules_of means converts a responds) extracts handles c q)
  call_narrows kept (Extracting f) q = record {
    gives = λ d r g. (g.0, g.1, g.2, after_as kept q g.0 g.1 d r g.3);
    before = λ n h k x g. comes_as kept n k x (h k x g);
    arguments = λ k y g. g;
  }
  call_narrows kept (Handling f) q = record {
    gives = λ d r g. g;
    before = λ n h. h;
    arguments = λ k y g. g;
  }

  both_ways : ((v : V) (n : ℕ) (y : Y) → b v n y → a v n y)
      → ((q : Request L D C) (m : List Mark)
      → Narrows (request_promise (rules_of means converts b responds) q m)
      (request_promise (rules_of means converts a responds) q m))
      × ((c : Work U W) (q : Request L D C)
      → Narrows (work_promise (rules_of means converts b responds) extracts handles c q)
      (work_promise (rules_of means converts a responds) extracts handles c q))
  both_ways kept = (request_narrows kept, call_narrows kept)

pub handler_keeps : {L D C V E Y U W : Type 0}
    (means : Request L D C → List Mark → List Mark → ℕ → Result V E → Type 0)
    (converts : E → Fault → Type 0) (responds : Y → Request L D C → Reply Plain → Type 0)
    (extracts : U → ℕ → Result V E → Type 0) (handles : W → ℕ → Y → Type 0)
    (a b : V → ℕ → Y → Type 0) → SamePromises a b
    → SameService (λ q. q) (λ q. q)
    (request_promise (rules_of means converts a responds))
    (request_promise (rules_of means converts b responds))
    (work_promise (rules_of means converts a responds) extracts handles)
    (work_promise (rules_of means converts b responds) extracts handles)
handler_keeps means converts responds extracts handles a b same =
    let on = both_ways means converts responds extracts handles a b same.kept in
    let back = both_ways means converts responds extracts handles b a same.same in
    record {
      completed = λ q. refl;
      requests = on.0;
      requests_back = back.0;
      calls = on.1;
      calls_back = back.1;
    }
