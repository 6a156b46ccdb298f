-- The statuses of replies, and how many replies have each of them.
use Rattle.std.proofs.Common.{◌≡◌, ◌<◌, ◌+◌, ◌-◌, ◌≤◌, ◌==◌, ℕ, false, List, length, get_or, map, refl, ap, sym, ◌∙◌, arith}
use Rattle.std.specs.Prelude.{Option, Some, None}
use Rattle.std.specs.List.{range_with_len}
use Rattle.std.proofs.lemmas.List.FromFn.{get_or-map-range_with_len, length-map-range_with_len}
use Rattle.web_worker.specs.Outcomes.{OutcomeView}
use Rattle.cli_print.specs.SummaryText.{count_where, has_status, reply_status, statuses}

pub status_tested : (o : OutcomeView) (n k : ℕ) → Some n ≡ reply_status o → 100 + k ≡ n
    → (s : ℕ) → has_status s o ≡ (100 + k == s)
status_tested (OutcomeView.Replied r) n k is at s =
    let same : r.head.status ≡ 100 + k = cc in
    ap (λ m. m == s) same
status_tested OutcomeView.Unfinished n k is at s = absurd (cc)
status_tested OutcomeView.NoMemory n k is at s = absurd (cc)

pub no_status : (o : OutcomeView) → None ≡ reply_status o → (s : ℕ) → has_status s o ≡ false
no_status (OutcomeView.Replied r) is s = absurd (cc)
no_status OutcomeView.Unfinished is s = refl
no_status OutcomeView.NoMemory is s = refl

abbrev pub counts_of : List OutcomeView → List ℕ
counts_of os = map (λ status. count_where (has_status status) os) statuses

pub counts_size : (os : List OutcomeView) (items : List ℕ) → items ≡ counts_of os → length items ≡ 900
unfolding statuses
counts_size os items is =
    ap (λ l. length l) is
    ∙ length-map-range_with_len (λ status. count_where (has_status status) os) 100 900

pub count_at_place : (os : List OutcomeView) (items : List ℕ) (p : ℕ) → items ≡ counts_of os
    → p < length items → get_or items p 0 ≡ count_where (has_status (100 + p)) os
unfolding statuses
count_at_place os items p is inside =
    let within : p < 900 = (let size = counts_size os items is in omega (arith, size, inside)) in
    ap (λ l. get_or l p 0) is
    ∙ get_or-map-range_with_len (λ status. count_where (has_status status) os) 100 900 p (100 + p) 0
    within refl
