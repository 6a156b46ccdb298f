-- From the one reply of a request to its one outcome.
use Rattle.std.proofs.Common.{◌≡◌, ℕ, zero, suc, ◌+◌, ◌<◌, [], ◌∷◌, nat_lt, replicate, arith, ap, refl, inl, inr}
use Rattle.std.specs.Prelude.{true, cond}
use Rattle.std.proofs.lemmas.Bool.Decides.{nat_tests}
use Rattle.web_reply.specs.ResponseBodies.{Plain}
use Rattle.web_reply.specs.Replies.{Reply}
use Rattle.web_worker.specs.Exchanges.{ExchangeView}
use Rattle.web_worker.specs.OutcomeFunctions.{AnswersOnce, DeterministicOutcomes, IsOutcome}
use Rattle.web_worker.specs.Outcomes.{OutcomeMeets, OutcomeView, OutcomeView.Replied}
use Rattle.web_worker.specs.PlanOutcomes.{outcome_of, poll_count}
use Rattle.web_worker.specs.Setting.{Setting}
use Rattle.web_testing.specs.TestWorkers.{plan_of_one}

polls_of_one : (n : ℕ) → poll_count (replicate n 0) 0 ≡ n
polls_of_one zero = refl
polls_of_one (suc n) =
    let rest : poll_count (replicate n 0) 0 ≡ n = polls_of_one n in
    let both : 1 + poll_count (replicate n 0) 0 ≡ suc n = omega (arith, rest) in
    both

-- more polls than the delay, and so the reply
replied : (d n : ℕ) (r : Reply Plain) → d < n → outcome_of d r n ≡ Replied r
replied d n r more = let is : nat_lt d n ≡ true = grind (arith, nat_tests) in rw is refl

meets : (d : ℕ) (r : Reply Plain) (n : ℕ) → d < n → (o : OutcomeView) → IsOutcome d r n o
    → OutcomeMeets (λ reply. reply ≡ r) o
meets d r n more o (inl e) = rw e tt
meets d r n more o (inr e) = rw (e, replied d n r more) refl

pub reply_is : {S L D C V K : Type 0} (s : Setting S L D C V K) (x : ExchangeView S L D C) (d : ℕ)
    (r : Reply Plain) → d < 64 → AnswersOnce s x d r → (o : OutcomeView)
    → DeterministicOutcomes s plan_of_one (x ∷ []) (o ∷ [])
    → OutcomeMeets (λ reply. reply ≡ r) o
reply_is s x d r more once o h =
    let polls : poll_count plan_of_one 0 ≡ 64 = polls_of_one 64 in
    let enough : d < poll_count plan_of_one 0 = omega (arith, more, polls) in
    meets d r (poll_count plan_of_one 0) enough o (h.0 d r once)
