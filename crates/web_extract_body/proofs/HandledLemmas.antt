-- Steps whose refusals are answered, and what they allow.
use Rattle.std.proofs.Common.{◌≡◌, ℕ, List, refl, subst}
use Rattle.std.specs.Prelude.{Option, None, Some, Result, Ok, Err}
use Rattle.web_request.specs.declared.source.Mark.{Mark}
use Rattle.web_request.specs.Request.{Request, Record}
use Rattle.web_body.specs.PollSteps.{IfReady, MatchStep, Shifts}
use Rattle.web_body.specs.declared.poll.Step.{Step}
use Rattle.web_body.specs.declared.poll.Step.TheVariants.{Pending, Ready, NoMemory}
use Rattle.web_reply.specs.Replies.{Fault}
use Rattle.web_extract.specs.Extracts.{Extracts}
use Rattle.web_extract.specs.ConvertedFutures.{ConvertsResult}
use Rattle.web_extract.specs.Refusals.{Handler, RefusedBy}
use Rattle.web_extract_body.specs.HandledBodies.{GivesHandled, HandlesStep, IsKept, KeptErrors}

module _ {T V E : Type 0} (value : T → V) (errors : E → Fault → Type 0) where
  error_value : (e : E) (t : Step (Result V Fault)) (gives : ℕ → Result T E → Type 0)
      → MatchStep t ⊥ (λ x. (f : Fault) × errors e f × (x ≡ Err f)) (Unit {0}) → gives 0 (Err e)
      → IfReady t (GivesHandled value errors gives 0)
  error_value e Pending gives h g = tt
  error_value e (Ready x) gives h g = (Err e, g, (h.0, h.1, h.2))
  error_value e NoMemory gives h g = tt

  pub handled_value : (s : Step (Result T E)) (t : Step (Result V Fault)) (gives : ℕ → Result T E → Type 0)
      → HandlesStep value errors s t → IfReady s (gives 0) → IfReady t (GivesHandled value errors gives 0)
  handled_value Pending t gives h g = rw h tt
  handled_value (Ready (Ok v)) t gives h g = rw h (Ok v, g, (value v, refl, refl))
  handled_value (Ready (Err e)) t gives h g = error_value e t gives h g
  handled_value NoMemory t gives h g = rw h tt

  error_shift : (e : E) (t : Step (Result V Fault)) (old new : ℕ → Result V Fault → Type 0)
      → MatchStep t ⊥ (λ x. (f : Fault) × errors e f × (x ≡ Err f)) (Unit {0}) → Shifts t old new
  error_shift e Pending old new h = absurd h
  error_shift e (Ready x) old new h = tt
  error_shift e NoMemory old new h = tt

  pub handled_shift : (s : Step (Result T E)) (t : Step (Result V Fault)) (old new : ℕ → Result T E → Type 0)
      → HandlesStep value errors s t → Shifts s old new
      → Shifts t (GivesHandled value errors old) (GivesHandled value errors new)
  handled_shift Pending t old new h g = rw h (λ n x k. (k.0, g n k.0 k.1, k.2))
  handled_shift (Ready (Ok v)) t old new h g = rw h tt
  handled_shift (Ready (Err e)) t old new h g =
      error_shift e t (GivesHandled value errors old) (GivesHandled value errors new) h
  handled_shift NoMemory t old new h g = rw h tt

module _ {H E L D C : Type 0}
    (refuses : Handler H E) (own : E → Fault) (handler : List L → Option H) (q : Request L D C) where
  -- the errors for a request that is kept where there is a handler are those for the request
  kept_is : (h : Option H) → handler q.layers ≡ h → (kept : Option (Record L D C)) → IsKept h q kept
      → (e : E) (x : Fault) → KeptErrors refuses own handler kept e x → RefusedBy refuses own h e q.head x
  kept_is None is kept k e x a = rw k at a
  kept_is (Some h) is kept k e x a =
      let b = subst (λ (o : Option (Record L D C)). KeptErrors refuses own handler o e x) k.1 a in
      let d = subst (λ (r : Request L D C). RefusedBy refuses own (handler r.layers) e r.head x) k.2 b in
      subst (λ (o : Option H). RefusedBy refuses own o e q.head x) is d

  module _ {T V : Type 0} (value : T → V) where
    converts_kept : (kept : Option (Record L D C)) → IsKept (handler q.layers) q kept
        → (y : Result T E) (x : Result V Fault)
        → ConvertsResult (λ v w. w ≡ value v) (KeptErrors refuses own handler kept) y x
        → ConvertsResult (λ v w. w ≡ value v) (λ e f. RefusedBy refuses own (handler q.layers) e q.head f) y x
    converts_kept kept k (Ok v) x h = h
    converts_kept kept k (Err e) x h = (h.0, kept_is (handler q.layers) refl kept k e h.0 h.1, h.2)

    -- the future of the body, with the request that is kept
    pub extracts_kept : (kept : Option (Record L D C)) → IsKept (handler q.layers) q kept
        → (means : List Mark → List Mark → ℕ → Result T E → Type 0)
        (gives : ℕ → Result T E → Type 0) (old new : Option (List Mark))
        → Extracts means gives old new
        → Extracts (λ m rest n x. GivesHandled value
        (λ e f. RefusedBy refuses own (handler q.layers) e q.head f) (means m rest) n x)
        (λ n x. GivesHandled value (KeptErrors refuses own handler kept) gives n x) old new
    extracts_kept kept k means gives None new h = tt
    extracts_kept kept k means gives (Some m) new h =
        (h.0, h.1, λ n x g. (g.0, h.2 n g.0 g.1, converts_kept kept k g.0 x g.2))
