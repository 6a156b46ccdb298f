-- From one answer of an exchange to the same outcome in two runs.
use Rattle.std.proofs.Common.{◌≡◌, ℕ, List, sym, ◌∙◌, ap, subst, inl, inr}
use Rattle.std.specs.Prelude.{Option, None, Some, ⊤, MatchOption, ◌⊎◌}
use Rattle.web_request.specs.declared.source.Mark.{Mark}
use Rattle.web_request.specs.Feed.{Feed}
use Rattle.web_request.specs.Pool.{Pool, new_record}
use Rattle.web_request.specs.Request.{Request}
use Rattle.web_body.specs.Payload.{payload_feed}
use Rattle.web_reply.specs.ResponseBodies.{Plain}
use Rattle.web_reply.specs.Replies.{Reply}
use Rattle.web_worker.specs.Outcomes.{OutcomeView, OutcomeView.Replied, OutcomeView.Unfinished, OutcomeView.NoMemory}
use Rattle.web_worker.specs.Exchanges.{ExchangeView, request_of}
use Rattle.web_worker.specs.Isolation.{SameInBothRuns, SameOutcome}
use Rattle.web_worker.specs.PlanOutcomes.{AllowedOutcome, outcome_of}
use Rattle.web_worker.specs.ServicePromises.{Promise, SameService}
use Rattle.web_worker.specs.Setting.{Setting, setting_of}
use Rattle.web_worker.proofs.OutcomeFunctionsLemmas.{outcome_is}

same_outcome : (o p q : OutcomeView) → (o ≡ NoMemory) ⊎ (o ≡ q) → (p ≡ NoMemory) ⊎ (p ≡ q) → SameOutcome o p
same_outcome o p q (inl e) g = inl e
same_outcome o p q (inr e) (inl f) = inr (inl f)
same_outcome o p q (inr e) (inr f) = inr (inr (e ∙ sym f))

-- the request is the same where the root layer and the configuration are
same_request : {S L D C : Type 0} (first second : Pool L) (x : ExchangeView S L D C) → first.root ≡ second.root → first.config ≡ second.config → request_of second x ≡ request_of first x
same_request {L = L} first second x e f =
    ap (λ (root : L). (new_record root second.config 0 x.parts).request) (sym e) ∙ ap (λ config. (new_record first.root config 0 x.parts).request) (sym f)

module _ {S L D C V K : Type 0} (feed : S → Feed)
    (c_one c_other : Request L D C → Request L D C)
    (p_one p_other : Request L D C → List Mark → Promise V)
    (l_one l_other : K → Request L D C → Promise V)
    (same : SameService c_one c_other p_one p_other l_one l_other) (first second : Pool L) where
  abbrev one : Setting S L D C V K
  one = setting_of c_one p_one l_one feed first

  abbrev other : Setting S L D C V K
  other = setting_of c_other p_other l_other feed second

  gives_as : (o : Option (List Mark)) (q : Request L D C) (d : ℕ) (r : Reply Plain)
      → MatchOption o ⊤ (λ m. (p_other q m).gives d r) → MatchOption o ⊤ (λ m. (p_one q m).gives d r)
  gives_as None q d r h = h
  gives_as (Some m) q d r h = (same.requests q m).gives d r h

  before_as : (o : Option (List Mark)) (q : Request L D C) (n : ℕ)
      → MatchOption o ⊥ (λ m. (p_one q m).before n) → MatchOption o ⊥ (λ m. (p_other q m).before n)
  before_as None q n h = h
  before_as (Some m) q n h = (same.requests q m).before n h

  allowed_as : (x : ExchangeView S L D C) → request_of second x ≡ request_of first x → (n : ℕ) (o : OutcomeView) → AllowedOutcome other n x o → AllowedOutcome one n x o
  allowed_as x e n (Replied r) h = (
    h.0,
    h.1,
    gives_as (payload_feed feed x.body).marks (request_of first x) h.0 r
        (subst (λ (q : Request L D C). MatchOption (payload_feed feed x.body).marks ⊤ (λ m. (p_other q m).gives h.0 r)) e h.2),
  )
  allowed_as x e n Unfinished (inl z) = inl z
  allowed_as x e n Unfinished (inr f) =
      inr (λ g. f (subst (λ (q : Request L D C). MatchOption (payload_feed feed x.body).marks ⊥ (λ m. (p_other q m).before n)) (sym e)
      (before_as (payload_feed feed x.body).marks (request_of first x) n g)))
  allowed_as x e n NoMemory h = h

  pub same_in_both_runs : first.root ≡ second.root → first.config ≡ second.config → SameInBothRuns one other
  same_in_both_runs root config x d r once n o p h k =
      let is = outcome_is one x d r once n in
      same_outcome o p (outcome_of d r n) (is o h) (is p (allowed_as x (same_request first second x root config) n p k))
