-- From what the promises allow to the one list of calls.
use Rattle.std.proofs.Common.{◌≡◌, ◌==◌, ℕ, zero, suc, ◌+◌, Bool, true, false, List, [], ◌∷◌, ◌++◌, map, refl, sym, ◌∙◌, ap, arith, subst, inl, inr}
use Rattle.std.specs.Prelude.{Option, None, Some, ⊤, MatchOption, if◌then◌else◌, slice_get, take}
use Rattle.std.specs.List.{All, cons_option, enumerate_from, filter_map, list_any}
use Rattle.std.specs.Option.{option_and_then, option_map}
use Rattle.std.proofs.lemmas.Bool.Decides.{nat_tests}
use Rattle.std.proofs.lemmas.List.Elements.{All-head, All-tail}
use Rattle.web_texts.proofs.LastCutLemmas.{or_false}
use Rattle.web_request.specs.declared.source.Mark.{Mark}
use Rattle.web_body.specs.Payload.{payload_feed}
use Rattle.web_worker.specs.Outcomes.{OutcomeView, OutcomeView.NoMemory}
use Rattle.web_worker.specs.Exchanges.{ExchangeView}
use Rattle.web_worker.specs.Setting.{Setting}
use Rattle.web_worker.specs.PlanOutcomes.{poll_count, EachFrom, lacks_memory}
use Rattle.web_worker.specs.PlanCalls.{IsValueAt, call_at, entry_call, calls_of, ArgumentsOnce, ArgumentsComeAt, DeterministicCalls, AllowedCalls, EntryCall, AppendsCalls, LacksMemory}

none_lacks : (os : List OutcomeView) → list_any lacks_memory os ≡ false → (k : ℕ) → LacksMemory os k → ⊥
none_lacks [] e k l = absurd (cc)
none_lacks (o ∷ os) e zero l =
    let each = or_false (lacks_memory o) (list_any lacks_memory os) e in
    let is : o ≡ NoMemory = cc in
    let yes : lacks_memory o ≡ true = rw is refl in
    absurd (cc)
none_lacks (o ∷ os) e (suc k) l = let each = or_false (lacks_memory o) (list_any lacks_memory os) e in none_lacks os each.1 k l

all_get : {X : Type 0} (P : X → Type 0) (xs : List X) (k : ℕ) (x : X) → slice_get xs k ≡ Some x → All P xs → P x
all_get P [] k x e a = absurd (cc)
all_get P (y ∷ xs) zero x e a = let is : y ≡ x = cc in subst P is (All-head P y xs a)
all_get P (y ∷ xs) (suc k) x e a = all_get P xs k x e (All-tail P y xs a)

not_now : {V : Type 0} (n d : ℕ) (v : V) → (n ≡ d → ⊥) → (b : Bool) → (n == d) ≡ b → (if b then Some v else None) ≡ None
not_now n d v f true e = let is : n ≡ d = grind (arith, nat_tests) in absurd (f is)
not_now n d v f false e = refl

never : {V : Type 0} (b : Bool) (y : Option V) → y ≡ None → (if b then y else None) ≡ None
never true y e = e
never false y e = refl

now : {V : Type 0} (n d : ℕ) (v : V) (y : Option V) → n ≡ d → Some v ≡ y → call_at n d y ≡ Some v
now n d v y e f = let is : (n == d) ≡ true = grind (arith, nat_tests) in rw (← f, is) refl

value_at : {V : Type 0} (n d : ℕ) (v : V) (k : ℕ) (z : Option V) → n ≡ d → k ≡ d → z ≡ Some v → IsValueAt n k z
value_at n d v k (Some x) e f g = f ∙ sym e
value_at n d v k None e f g = absurd (cc)

module _ {S L D C V K : Type 0} (s : Setting S L D C V K) where
  with_value : (o : Option (List Mark)) (x : ExchangeView S L D C) (n d : ℕ) (y : Option V) (v : V)
      → MatchOption o ⊥ (λ m. (k : ℕ) (z : Option V) → (s.promise (s.request x) m).arguments k z → (k ≡ d) × (z ≡ y))
      → MatchOption o ⊤ (λ m. (s.promise (s.request x) m).arguments n (Some v)) → call_at n d y ≡ Some v
  with_value None x n d y v once g = absurd once
  with_value (Some m) x n d y v once g = let a = once n (Some v) g in now n d v y a.0 a.1

  comes_at : (o : Option (List Mark)) (x : ExchangeView S L D C) (n d : ℕ) (v : V) → n ≡ d
      → MatchOption o ⊥ (λ m. (k : ℕ) (z : Option V) → (s.promise (s.request x) m).arguments k z → (k ≡ d) × (z ≡ Some v))
      → MatchOption o ⊥ (λ m. (k : ℕ) (z : Option V) → (s.promise (s.request x) m).arguments k z → IsValueAt n k z)
  comes_at None x n d v e once = once
  comes_at (Some m) x n d v e once = λ k z a. let b = once k z a in value_at n d v k z e b.0 b.1

  without_value : (x : ExchangeView S L D C) (n d : ℕ) (y : Option V) → ArgumentsOnce s x d y → (ArgumentsComeAt s x n → ⊥) → call_at n d y ≡ None
  without_value x n d None once f = never (n == d) None refl
  without_value x n d (Some v) once f = not_now n d v (λ e. f (comes_at (payload_feed s.feed x.body).marks x n d v e once)) (n == d) refl

  module _ (args : ExchangeView S L D C → ℕ × Option V) (lacks : ℕ → Type 0) (none : (k : ℕ) → lacks k → ⊥) where
    call_of : (x : ExchangeView S L D C) (n k : ℕ) (call : Option V) → ArgumentsOnce s x (args x).0 (args x).1 → EntryCall s n (Some x) (lacks k) call
        → call_at n (args x).0 (args x).1 ≡ call
    call_of x n k (Some v) once h = with_value (payload_feed s.feed x.body).marks x n (args x).0 (args x).1 v once h
    call_of x n k None once (inl f) = without_value x n (args x).0 (args x).1 once f
    call_of x n k None once (inr l) = absurd (none k l)

    entry_of : (xs : List (ExchangeView S L D C)) → All (λ x. ArgumentsOnce s x (args x).0 (args x).1) xs → (n k : ℕ) (o : Option (ExchangeView S L D C)) → slice_get xs k ≡ o
        → (call : Option V) → EntryCall s n o (lacks k) call → option_and_then (λ x. call_at n (args x).0 (args x).1) o ≡ call
    entry_of xs all n k None e call h = sym h
    entry_of xs all n k (Some x) e call h = call_of x n k call (all_get (λ x. ArgumentsOnce s x (args x).0 (args x).1) xs k x e all) h

    -- the entries of the plan from number i on
    calls_from : (xs : List (ExchangeView S L D C)) → All (λ x. ArgumentsOnce s x (args x).0 (args x).1) xs → (plan : List ℕ) (i : ℕ) (ks : List ℕ) (calls : List (Option V))
        → EachFrom (λ i k call. EntryCall s (poll_count (take i plan) k) (slice_get xs k) (lacks k) call) i ks calls
        → filter_map (λ call. call) calls ≡ filter_map (λ entry. entry_call args xs plan entry) (enumerate_from i ks)
    calls_from xs all plan i [] [] h = refl
    calls_from xs all plan i (k ∷ ks) (call ∷ calls) h =
        let here : entry_call args xs plan (i, k) ≡ call = entry_of xs all (poll_count (take i plan) k) k (slice_get xs k) refl call h.0 in
        rw here (ap (λ (vs : List V). cons_option call vs) (calls_from xs all plan (i + 1) ks calls h.1))
    calls_from xs all plan i [] (call ∷ calls) h = absurd h
    calls_from xs all plan i (k ∷ ks) [] h = absurd h

    calls_are : (xs : List (ExchangeView S L D C)) → All (λ x. ArgumentsOnce s x (args x).0 (args x).1) xs → (plan : List ℕ) (vs : List V)
        → AllowedCalls s lacks xs plan vs → vs ≡ calls_of args xs plan
    calls_are xs all plan vs h = h.2 ∙ calls_from xs all plan 0 plan h.0 h.1

  appended : (told told_new : Option (List V)) (P : List V → Type 0) (vs : List V) → ((us : List V) → P us → us ≡ vs) → AppendsCalls told told_new P
      → told_new ≡ option_map (λ old. old ++ vs) told
  appended None told_new P vs f h = h
  appended (Some old) told_new P vs f h = h.1 ∙ ap (λ us. Some (old ++ us)) (f h.0 h.2)

  pub deterministic_calls : (plan : List ℕ) (xs : List (ExchangeView S L D C)) (os : List OutcomeView) (told told_new : Option (List V))
      → AppendsCalls told told_new (λ vs. AllowedCalls s (LacksMemory os) xs plan vs) → DeterministicCalls s plan xs os told told_new
  deterministic_calls plan xs os told told_new h args all none =
      appended told told_new (λ vs. AllowedCalls s (LacksMemory os) xs plan vs) (calls_of args xs plan)
      (λ vs c. calls_are args (LacksMemory os) (none_lacks os none) xs all plan vs c) h

-- the calls of a plan over the exchanges that a function makes of others
module _ {X Z V : Type 0} (f : Z → X) (args : X → ℕ × Option V) (brgs : Z → ℕ × Option V) where
  same_call : (zs : List Z) → All (λ z. args (f z) ≡ brgs z) zs → (n k : ℕ)
      → option_and_then (λ x. call_at n (args x).0 (args x).1) (slice_get (map f zs) k) ≡ option_and_then (λ z. call_at n (brgs z).0 (brgs z).1) (slice_get zs k)
  same_call [] all n k = refl
  same_call (z ∷ zs) all n zero = ap (λ d. call_at n d.0 d.1) (All-head (λ z. args (f z) ≡ brgs z) z zs all)
  same_call (z ∷ zs) all n (suc k) = same_call zs (All-tail (λ z. args (f z) ≡ brgs z) z zs all) n k

  same_from : (zs : List Z) → All (λ z. args (f z) ≡ brgs z) zs → (plan : List ℕ) (i : ℕ) (ks : List ℕ)
      → filter_map (λ entry. entry_call args (map f zs) plan entry) (enumerate_from i ks) ≡ filter_map (λ entry. entry_call brgs zs plan entry) (enumerate_from i ks)
  same_from zs all plan i [] = refl
  same_from zs all plan i (k ∷ ks) =
      let here : entry_call args (map f zs) plan (i, k) ≡ entry_call brgs zs plan (i, k) = same_call zs all (poll_count (take i plan) k) k in
      rw here (ap (λ (vs : List V). cons_option (entry_call brgs zs plan (i, k)) vs) (same_from zs all plan (i + 1) ks))

  pub calls_of_map : (zs : List Z) (plan : List ℕ) → All (λ z. args (f z) ≡ brgs z) zs → calls_of args (map f zs) plan ≡ calls_of brgs zs plan
  calls_of_map zs plan all = same_from zs all plan 0 plan
