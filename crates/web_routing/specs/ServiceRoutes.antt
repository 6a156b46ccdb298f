-- One of two services, and a service whose replies are changed.
use Rattle.std.proofs.Common.{refl, ◌∙◌}
use Rattle.std.specs.Prelude.{◌≡◌, ◌⊎◌, ◌-◌, nat_lt, ℕ, List, ⊤, Bool, true, false, Option, None}
use Rattle.std.specs.Prelude.{Some, [], ◌∷◌, ◌++◌}
use Rattle.web_request.specs.declared.source.Mark.{Mark}
use Rattle.web_request.specs.Request.{Request}
use Rattle.web_reply.specs.ResponseBodies.{Plain}
use Rattle.web_reply.specs.Replies.{Reply}
use Rattle.web_worker.specs.ServicePromises.{Narrows, Promise, SameService}
use Rattle.web_worker.specs.ServiceStates.{States}
use Rattle.web_worker.specs.declared.service.Whole.{Whole}
use Rattle.web_routing.specs.declared.route.OneOf.{OneOf}
use Rattle.web_routing.specs.declared.route.OneOf.TheVariants.{First, Other}

-- the first where it is chosen, else the other
abbrev pub chosen_promise : {V : Type 0} → Bool → Promise V → Promise V → Promise V
chosen_promise true first other = first
chosen_promise false first other = other

abbrev pub chosen_request : {Q : Type 0} → Bool → Q → Q → Q
chosen_request true first other = first
chosen_request false first other = other

abbrev pub one_promise : {V C D Q : Type 0} → (C → Q → Promise V) → (D → Q → Promise V)
    → OneOf C D → Q → Promise V
one_promise first other (First c) q = first c q
one_promise first other (Other d) q = other d q

abbrev pub one_finished : {C D : Type 0} → (C → Bool) → (D → Bool) → OneOf C D → Bool
one_finished first other (First c) = first c
one_finished first other (Other d) = other d

-- the states of two services side by side; a step is one of the first, or of the other
abbrev pub both_states : {R S T Q : Type 0} → (R → S) → (R → T) → States S Q → States T Q
    → States R Q
both_states first other a b = record {
  State = a.State × b.State;
  state = λ r. (a.state (first r), b.state (other r));
  steps = λ r x q p y.
      (a.steps (first r) x.0 q p y.0 × (y.1 ≡ x.1))
      ⊎ (b.steps (other r) x.1 q p y.1 × (y.0 ≡ x.0));
}

-- the request with one more layer, the nearest
abbrev pub with_layer : {L D C : Type 0} → L → Request L D C → Request L D C
with_layer layer q = record q { layers = q.layers ++ layer ∷ [] }

-- the states of the service inside
abbrev pub inner_states : {R S Q : Type 0} → (R → S) → States S Q → States R Q
inner_states inner a = record {
  State = a.State;
  state = λ r. a.state (inner r);
  steps = λ r x q p y. a.steps (inner r) x q p y;
}

-- each reply as it may be changed
abbrev pub changed : {V : Type 0} → (Reply Plain → Reply Plain → Type 0) → Promise V → Promise V
changed changes p = record {
  gives = λ d r. (s : Reply Plain) × p.gives d s × changes s r;
  before = p.before;
  arguments = p.arguments;
}

-- a step with the reply as it may be changed; one that could not be changed is lost
abbrev pub ChangedSteps : {X Q : Type 0} → (Q → Reply Plain → Reply Plain → Type 0)
    → (X → Q → Option (Reply Plain) → X → Type 0) → X → Q → Option (Reply Plain) → X → Type 0
ChangedSteps changes steps x q (Some p) y =
    (s : Reply Plain) × steps x q (Some s) y × changes q s p
ChangedSteps changes steps x q None y =
    steps x q None y ⊎ ((s : Reply Plain) × steps x q (Some s) y)

-- the states of the service inside
abbrev pub changed_states : {R S Q : Type 0} → (R → S)
    → (R → Q → Reply Plain → Reply Plain → Type 0) → States S Q → States R Q
changed_states inner changes a = record {
  State = a.State;
  state = λ r. a.state (inner r);
  steps = λ r x q p y. ChangedSteps (changes r) (a.steps (inner r)) x q p y;
}

abbrev pub StaysOpen : {V C Q : Type 0} → (C → Bool) → (C → Q → Promise V) → Type 0
StaysOpen {V} {C} {Q} finished left =
    (c : C) (q : Q) → finished c ≡ false → (left c q).before 0 → ⊥

pub one_open : {V C D Q : Type 0} (first : C → Bool) (other : D → Bool)
    (left_first : C → Q → Promise V) (left_other : D → Q → Promise V)
    → StaysOpen first left_first → StaysOpen other left_other
    → (c : OneOf C D) (q : Q) → one_finished first other c ≡ false
    → (one_promise left_first left_other c q).before 0 → ⊥
one_open first other left_first left_other open1 open2 (First c) q h before = open1 c q h before
one_open first other left_first left_other open1 open2 (Other d) q h before = open2 d q h before

-- the promise of a service of whole requests: what its handler is called with is not said
abbrev pub whole_promise : {V : Type 0} → Promise V → Promise Whole
whole_promise p = record { gives = p.gives; before = p.before; arguments = λ k y. ⊤ }

pub same_still : {T : Type 0} {a b c : T} → b ≡ a → c ≡ b → c ≡ a
same_still e f = f ∙ e

-- ---- what promises the same

itself : {V : Type 0} (p : Promise V) → Narrows p p
itself p = record { gives = λ d r g. g; before = λ n b. b; arguments = λ k y a. a }

pub itself_keeps : {V Q C : Type 0} (c : Q → Q) (p : Q → List Mark → Promise V)
    (l : C → Q → Promise V) → SameService c c p p l l
itself_keeps c p l = record {
  completed = λ q. refl;
  requests = λ q m. itself (p q m);
  requests_back = λ q m. itself (p q m);
  calls = λ k q. itself (l k q);
  calls_back = λ k q. itself (l k q);
}

whole_narrows : {V : Type 0} (small large : Promise V) → Narrows small large
    → Narrows (whole_promise small) (whole_promise large)
whole_narrows small large n =
    record { gives = n.gives; before = n.before; arguments = λ k y a. tt }

pub whole_keeps : {V Q C : Type 0} (c1 c2 : Q → Q) (p1 p2 : Q → List Mark → Promise V)
    (l1 l2 : C → Q → Promise V) → SameService c1 c2 p1 p2 l1 l2
    → SameService c1 c2 (λ q m. whole_promise (p1 q m)) (λ q m. whole_promise (p2 q m))
    (λ c q. whole_promise (l1 c q)) (λ c q. whole_promise (l2 c q))
whole_keeps c1 c2 p1 p2 l1 l2 same = record {
  completed = same.completed;
  requests = λ q m. whole_narrows (p2 q m) (p1 q m) (same.requests q m);
  requests_back = λ q m. whole_narrows (p1 q m) (p2 q m) (same.requests_back q m);
  calls = λ c q. whole_narrows (l2 c q) (l1 c q) (same.calls c q);
  calls_back = λ c q. whole_narrows (l1 c q) (l2 c q) (same.calls_back c q);
}

changed_narrows : {V : Type 0} (changes : Reply Plain → Reply Plain → Type 0)
    (small large : Promise V) → Narrows small large
    → Narrows (changed changes small) (changed changes large)
changed_narrows changes small large n = record {
  gives = λ d r g. (g.0, n.gives d g.0 g.1, g.2);
  before = n.before;
  arguments = n.arguments;
}

pub changed_keeps : {X V Q C : Type 0} (changes : X → Q → Reply Plain → Reply Plain → Type 0)
    (a b : X) (c1 c2 : Q → Q) (p1 p2 : Q → List Mark → Promise V) (l1 l2 : C → Q → Promise V)
    → b ≡ a → SameService c1 c2 p1 p2 l1 l2
    → SameService c1 c2
    (λ q m. changed (changes a (c1 q)) (p1 q m)) (λ q m. changed (changes b (c2 q)) (p2 q m))
    (λ c q. changed (changes a q) (l1 c q)) (λ c q. changed (changes b q) (l2 c q))
changed_keeps changes a b c1 c2 p1 p2 l1 l2 e same = rw e (record {
  completed = same.completed;
  requests = λ q m. rw (same.completed q)
      (changed_narrows (changes a (c1 q)) (p2 q m) (p1 q m) (same.requests q m));
  requests_back = λ q m. rw (same.completed q)
      (changed_narrows (changes a (c1 q)) (p1 q m) (p2 q m) (same.requests_back q m));
  calls = λ c q. changed_narrows (changes a q) (l2 c q) (l1 c q) (same.calls c q);
  calls_back = λ c q. changed_narrows (changes a q) (l1 c q) (l2 c q) (same.calls_back c q);
})

chosen_narrows : {V : Type 0} (b : Bool) (p1 p2 q1 q2 : Promise V) → Narrows p1 q1 → Narrows p2 q2
    → Narrows (chosen_promise b p1 p2) (chosen_promise b q1 q2)
chosen_narrows true p1 p2 q1 q2 first other = first
chosen_narrows false p1 p2 q1 q2 first other = other

chosen_equal : {Q : Type 0} (b : Bool) (p1 p2 q1 q2 : Q) → p1 ≡ q1 → p2 ≡ q2
    → chosen_request b p1 p2 ≡ chosen_request b q1 q2
chosen_equal true p1 p2 q1 q2 first other = first
chosen_equal false p1 p2 q1 q2 first other = other

one_narrows : {V C D Q : Type 0} (a1 b1 : C → Q → Promise V) (a2 b2 : D → Q → Promise V)
    → ((c : C) (q : Q) → Narrows (a1 c q) (b1 c q)) → ((d : D) (q : Q) → Narrows (a2 d q) (b2 d q))
    → (c : OneOf C D) (q : Q) → Narrows (one_promise a1 a2 c q) (one_promise b1 b2 c q)
one_narrows a1 b1 a2 b2 first other (First c) q = first c q
one_narrows a1 b1 a2 b2 first other (Other d) q = other d q

pub route_keeps : {X V Q C D : Type 0} (chosen : X → Q → Bool) (a b : X)
    (c1 c2 : Q → Q) (p1 p2 : Q → List Mark → Promise V) (l1 l2 : C → Q → Promise V)
    (d1 d2 : Q → Q) (q1 q2 : Q → List Mark → Promise V) (k1 k2 : D → Q → Promise V) → b ≡ a
    → SameService c1 c2 p1 p2 l1 l2 → SameService d1 d2 q1 q2 k1 k2 → SameService
    (λ q. chosen_request (chosen a q) (c1 q) (d1 q))
    (λ q. chosen_request (chosen b q) (c2 q) (d2 q))
    (λ q m. chosen_promise (chosen a q) (p1 q m) (q1 q m))
    (λ q m. chosen_promise (chosen b q) (p2 q m) (q2 q m))
    (λ c q. one_promise l1 k1 c q) (λ c q. one_promise l2 k2 c q)
route_keeps chosen a b c1 c2 p1 p2 l1 l2 d1 d2 q1 q2 k1 k2 e f g = rw e (record {
  completed = λ q.
      chosen_equal (chosen a q) (c2 q) (d2 q) (c1 q) (d1 q) (f.completed q) (g.completed q);
  requests = λ q m. chosen_narrows (chosen a q) (p2 q m) (q2 q m) (p1 q m) (q1 q m)
      (f.requests q m) (g.requests q m);
  requests_back = λ q m. chosen_narrows (chosen a q) (p1 q m) (q1 q m) (p2 q m) (q2 q m)
      (f.requests_back q m) (g.requests_back q m);
  calls = λ c q. one_narrows l2 l1 k2 k1 f.calls g.calls c q;
  calls_back = λ c q. one_narrows l1 l2 k1 k2 f.calls_back g.calls_back c q;
})

-- two of many, of which the number decides
pub two_keeps : {V Q C D : Type 0} (n count : ℕ)
    (c1 c2 : ℕ → Q → Q) (p1 p2 : ℕ → Q → List Mark → Promise V) (l1 l2 : C → Q → Promise V)
    (d1 d2 : ℕ → Q → Q) (q1 q2 : ℕ → Q → List Mark → Promise V) (k1 k2 : D → Q → Promise V)
    → ((k : ℕ) → SameService (c1 k) (c2 k) (p1 k) (p2 k) l1 l2)
    → ((k : ℕ) → SameService (d1 k) (d2 k) (q1 k) (q2 k) k1 k2) → SameService
    (λ q. chosen_request (nat_lt n count) (c1 n q) (d1 (n - count) q))
    (λ q. chosen_request (nat_lt n count) (c2 n q) (d2 (n - count) q))
    (λ q m. chosen_promise (nat_lt n count) (p1 n q m) (q1 (n - count) q m))
    (λ q m. chosen_promise (nat_lt n count) (p2 n q m) (q2 (n - count) q m))
    (λ c q. one_promise l1 k1 c q) (λ c q. one_promise l2 k2 c q)
two_keeps n count c1 c2 p1 p2 l1 l2 d1 d2 q1 q2 k1 k2 f g = record {
  completed = λ q. chosen_equal (nat_lt n count) (c2 n q) (d2 (n - count) q) (c1 n q)
      (d1 (n - count) q) ((f n).completed q) ((g (n - count)).completed q);
  requests = λ q m. chosen_narrows (nat_lt n count) (p2 n q m) (q2 (n - count) q m) (p1 n q m)
      (q1 (n - count) q m) ((f n).requests q m) ((g (n - count)).requests q m);
  requests_back = λ q m. chosen_narrows (nat_lt n count) (p1 n q m) (q1 (n - count) q m)
      (p2 n q m) (q2 (n - count) q m) ((f n).requests_back q m) ((g (n - count)).requests_back q m);
  calls = λ c q. one_narrows l2 l1 k2 k1 (f n).calls (g (n - count)).calls c q;
  calls_back = λ c q. one_narrows l1 l2 k1 k2 (f n).calls_back (g (n - count)).calls_back c q;
}

-- a service that adds to each request
pub with_keeps : {X V Q C : Type 0} (with : X → Q → Q) (a b : X)
    (c1 c2 : Q → Q) (p1 p2 : Q → List Mark → Promise V) (l1 l2 : C → Q → Promise V) → b ≡ a
    → SameService c1 c2 p1 p2 l1 l2 → SameService (λ q. c1 (with a q)) (λ q. c2 (with b q))
    (λ q m. p1 (with a q) m) (λ q m. p2 (with b q) m) l1 l2
with_keeps with a b c1 c2 p1 p2 l1 l2 e same = rw e (record {
  completed = λ q. same.completed (with a q);
  requests = λ q m. same.requests (with a q) m;
  requests_back = λ q m. same.requests_back (with a q) m;
  calls = same.calls;
  calls_back = same.calls_back;
})
