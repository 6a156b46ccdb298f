-- The one outcome of one exchange.
use Rattle.std.proofs.Common.{◌≡◌, ℕ, List, [], ◌∷◌, length, map, refl, subst}
use Rattle.web_worker.specs.Exchanges.{ExchangeView}
use Rattle.web_worker.specs.OutcomeFunctions.{DeterministicOutcomes}
use Rattle.web_worker.specs.Outcomes.{OutcomeView}
use Rattle.web_worker.specs.PlanOutcomes.{AllowedOutcomes}
use Rattle.web_worker.specs.Setting.{Setting}

module _ {S L D C V K : Type 0} (s : Setting S L D C V K) (plan : List ℕ) {Z : Type 0}
    (view : Z → OutcomeView) (x : ExchangeView S L D C) (xs : List (ExchangeView S L D C)) (is : xs ≡ x ∷ []) where
  allowed_one : (os : List Z) → AllowedOutcomes s plan xs (map view os) → AllowedOutcomes s plan (x ∷ []) (map view os)
  allowed_one os h = subst (λ (z : List (ExchangeView S L D C)). AllowedOutcomes s plan z (map view os)) is h

  counted : (os : List Z) → AllowedOutcomes s plan (x ∷ []) (map view os) → length os ≡ 1
  counted [] h = absurd h
  counted (o ∷ []) h = refl
  counted (o ∷ p ∷ os) h = absurd h.1

  -- there is one outcome
  pub one_outcome : (os : List Z) → AllowedOutcomes s plan xs (map view os) → length os ≡ 1
  one_outcome os h = counted os (allowed_one os h)

  -- what is known of the list is known of its one outcome
  pub one_allowed : (os : List Z) (o : Z) → os ≡ o ∷ [] → AllowedOutcomes s plan xs (map view os)
      → AllowedOutcomes s plan (x ∷ []) (view o ∷ [])
  one_allowed os o one h =
      subst (λ (z : List Z). AllowedOutcomes s plan (x ∷ []) (map view z)) one (allowed_one os h)

  pub one_determined : (os : List Z) (o : Z) → os ≡ o ∷ [] → DeterministicOutcomes s plan xs (map view os)
      → DeterministicOutcomes s plan (x ∷ []) (view o ∷ [])
  one_determined os o one h =
      subst (λ (z : List Z). DeterministicOutcomes s plan (x ∷ []) (map view z)) one
      (subst (λ (z : List (ExchangeView S L D C)). DeterministicOutcomes s plan z (map view os)) is h)
