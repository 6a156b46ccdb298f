-- From what the promises allow of the pool to the one pool.
use Rattle.std.proofs.Common.{◌≡◌, ◌==◌, ℕ, suc, ◌+◌, ◌<◌, ◌≤◌, List, [], map, length, get_or, sym, ◌∙◌, ap, arith, subst, ◌⊎◌, inl, inr}
use Rattle.std.specs.Prelude.{None, Some, slice_get}
use Rattle.std.proofs.lemmas.Bool.{cases_lt}
use Rattle.std.proofs.lemmas.List.{length-map}
use Rattle.std.proofs.lemmas.Option.{slice_get_cases}
use Rattle.web_request.specs.Pool.{Pool}
use Rattle.web_reply.specs.ResponseBodies.{Plain}
use Rattle.web_reply.specs.Replies.{Reply}
use Rattle.web_worker.specs.Outcomes.{OutcomeView, OutcomeView.Replied, OutcomeView.Unfinished, OutcomeView.NoMemory}
use Rattle.web_worker.specs.Exchanges.{ExchangeView}
use Rattle.web_worker.specs.Setting.{Setting}
use Rattle.web_worker.specs.OutcomeFunctions.{AnswersOnce}
use Rattle.web_worker.specs.PlanOutcomes.{AllowedOutcome, AllowedOutcomes, EachFrom, poll_count}
use Rattle.web_worker.specs.PlanPools.{AllowedDelay, AllowedPool, EachAnswersOnce, IsPoolAfter, pool_after}
use Rattle.web_worker.specs.PoolRun.{SerialState, NotTaken, return_held}
use Rattle.web_worker.proofs.NumberedPairsLemmas.{each_both, each_left}
use Rattle.web_worker.proofs.PoolRunLemmas.{run_same, unequal}

module _ {S L D C V K : Type 0} (s : Setting S L D C V K) where
  -- an exchange that n polls may leave unfinished is not answered before
  not_before : (n d : ℕ) (x : ExchangeView S L D C) (r : Reply Plain) → AnswersOnce s x d r → AllowedOutcome s n x Unfinished → n ≤ d
  not_before n d x r once (inl e) = omega (arith, e)
  not_before n d x r once (inr still) = by_order (cases_lt d n)
    where
      by_order : (d < n) ⊎ (n ≤ d) → n ≤ d
      by_order (inl lt) = absurd (still (once.comes n lt))
      by_order (inr le) = le

  -- a delay that agrees with the outcome answers at the polls at which the one delay does
  same_test : (n d e : ℕ) (x : ExchangeView S L D C) (o : OutcomeView) (r : Reply Plain) → AnswersOnce s x d r → AllowedOutcome s n x o → AllowedDelay s n x o e
      → (m : ℕ) → m < n → (m == e) ≡ (m == d)
  same_test n d e x (Replied p) r once allowed fits m lt = ap (λ (k : ℕ). m == k) (once.once e p fits.1).0
  same_test n d e x Unfinished r once allowed fits m lt =
      let later = not_before n d x r once allowed in
      let first : suc m ≤ e = omega (arith, fits, lt) in
      let second : suc m ≤ d = omega (arith, later, lt) in
      unequal m e first ∙ sym (unequal m d second)
  same_test n d e x NoMemory r once allowed fits m lt = absurd fits

  module _ (plan : List ℕ) (xs : List (ExchangeView S L D C)) (os : List OutcomeView) (delay other : ℕ → ℕ) (once : EachAnswersOnce s xs delay)
      (outcomes : AllowedOutcomes s plan xs os) (fit : EachFrom (λ k x o. AllowedDelay s (poll_count plan k) x o (other k)) 0 xs os) where
    same_at : (k n : ℕ) → k < length xs → n < poll_count plan k → (n == other k) ≡ (n == delay k)
    same_at k n within lt = by_place (slice_get_cases xs k).1
      where
        by_place : ((x : ExchangeView S L D C) × (k < length xs) × (slice_get xs k ≡ Some x) × (get_or xs k x ≡ x)) ⊎ ((length xs ≤ k) × (slice_get xs k ≡ None)) → (n == other k) ≡ (n == delay k)
        by_place (inl h) =
            let place : 0 + k ≡ k = omega arith in
            let both = each_both (λ j x o. AllowedOutcome s (poll_count plan j) x o) (λ j x o. AllowedDelay s (poll_count plan j) x o (other j)) 0 xs os outcomes fit in
            let there = each_left (λ j x o. AllowedOutcome s (poll_count plan j) x o × AllowedDelay s (poll_count plan j) x o (other j)) 0 xs os k h.0 h.2 both in
            let allowed = subst (λ (j : ℕ). AllowedOutcome s (poll_count plan j) h.0 there.0) place there.1.0 in
            let agrees = subst (λ (j : ℕ). AllowedDelay s (poll_count plan j) h.0 there.0 (other j)) place there.1.1 in
            let answers = once k h.0 h.2 in
            same_test (poll_count plan k) (delay k) (other k) h.0 there.0 answers.0 answers.1 allowed agrees n lt
        by_place (inr h) = absurd (omega (arith, within, h.0))

    same_pool : (p : Pool L) → pool_after other p xs plan ≡ pool_after delay p xs plan
    same_pool p =
        let states : List SerialState = map (λ _. NotTaken) xs in
        let size : length states ≡ length xs = length-map xs (λ _. NotTaken) in
        ap (λ (z : Pool L × List SerialState). return_held z.0 z.1) (run_same other delay p states [] plan (λ k n within lt. same_at k n (omega (arith, within, size)) lt))

  -- where each exchange has one delay, the pool is the one that the plan leaves with these
  pub pool_is : (plan : List ℕ) (xs : List (ExchangeView S L D C)) (os : List OutcomeView) (p q : Pool L) → AllowedOutcomes s plan xs os → AllowedPool s plan xs os p q → IsPoolAfter s plan xs os p q
  pool_is plan xs os p q outcomes pool delay once none =
      let run = pool none in
      run.2 ∙ same_pool plan xs os delay run.0 once outcomes run.1 p
