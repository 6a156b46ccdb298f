-- One reply through a route and through a change.
use Rattle.std.proofs.Common.{◌≡◌, ℕ, subst}
use Rattle.std.specs.Prelude.{Bool, true, false}
use Rattle.web_reply.specs.ResponseBodies.{Plain}
use Rattle.web_reply.specs.Replies.{Reply}
use Rattle.web_worker.specs.ServicePromises.{Once, Promise}
use Rattle.web_routing.specs.ServiceRoutes.{changed, chosen_promise, whole_promise}

pub once_chosen : {V : Type 0} (b : Bool) (first other : Promise V) (d : ℕ) (r : Reply Plain) → b ≡ true
    → Once first d r → Once (chosen_promise b first other) d r
once_chosen true first other d r e o = o
once_chosen false first other d r e o = absurd cc

pub once_other : {V : Type 0} (b : Bool) (first other : Promise V) (d : ℕ) (r : Reply Plain) → b ≡ false
    → Once other d r → Once (chosen_promise b first other) d r
once_other true first other d r e o = absurd cc
once_other false first other d r e o = o

pub once_changed : {V : Type 0} (changes : Reply Plain → Reply Plain → Type 0) (p : Promise V) (d : ℕ)
    (r t : Reply Plain) → Once p d r → ((u : Reply Plain) → changes r u → u ≡ t)
    → Once (changed changes p) d t
once_changed changes p d r t o only = record {
  once = λ k s g.
      let is = o.once k g.0 g.1 in
      (is.0, only s (subst (λ (z : Reply Plain). changes z s) is.1 g.2));
  comes = o.comes;
}

-- a service of whole requests promises the same replies
pub once_whole : {V : Type 0} (p : Promise V) (d : ℕ) (r : Reply Plain) → Once p d r
    → Once (whole_promise p) d r
once_whole p d r o = record { once = o.once; comes = o.comes }
