-- The entries of the headers whose values of Set-Cookie are replaced.
use Rattle.std.proofs.Common.{◌≡◌, ℕ, suc, ◌<◌, ◌-◌, Bool, true, false, List, [], ◌∷◌, ◌++◌, refl, sym, ap, ◌∙◌, arith}
use Rattle.std.specs.Prelude.{Option, Some, None, option_map, codes, bytes_eq, ◌==◌, if◌then◌else◌}
use Rattle.std.proofs.lemmas.Bool.Decides.{nat_tests}
use Rattle.std.proofs.lemmas.Option.{none-some}
use mathlib.Core.List.{append-nil}
use Rattle.http_header.specs.FieldValue.{FieldValue}
use Rattle.http_header.specs.HeaderMap.{IsUnique, append, get_all, index_of, remove, remove_at, update}
use Rattle.http_header.proofs.BucketsLemmas.{entry_at-swap_remove, length-swap_remove}
use Rattle.http_header.proofs.PlacesLemmas.{IsAbsent-from_index_of, IsAt-from_index_of, index_of_missing}
use Rattle.web_reply.specs.HeaderSteps.{Headers}
use Rattle.web_reply.specs.ResponseCookies.{deleted_count, kept_cookies, with_cookies, without_cookies}

-- a name that was removed stands nowhere
pub absent_after : (m : Headers) → IsUnique m → index_of (remove m (codes "set-cookie")) (codes "set-cookie") ≡ None
absent_after m unique = by (index_of m (codes "set-cookie")) refl
  where
    by : (o : Option ℕ) → index_of m (codes "set-cookie") ≡ o → index_of (remove_at m o) (codes "set-cookie") ≡ None
    by None is = is
    by (Some i) is =
        let x = IsAt-from_index_of m (codes "set-cookie") i is in
        index_of_missing (remove_at m (Some i)) (codes "set-cookie") (λ j l e.
        let y = entry_at-swap_remove m i x.within j (omega (arith, length-swap_remove m i)) in
        y.2 (unique y.0 i y.1 x.within ((rw y.3 at e) ∙ sym x.key)))

none_behind : (o : Option ℕ) → option_map suc o ≡ None → o ≡ None
none_behind None h = refl
none_behind (Some i) h = absurd (none-some _ (sym h))

-- the values of a name that stands last are changed there
update_last : (m : Headers) (values : List FieldValue) (f : List FieldValue → List FieldValue) → index_of m (codes "set-cookie") ≡ None
    → update (m ++ (codes "set-cookie", values) ∷ []) (codes "set-cookie") f ≡ m ++ (codes "set-cookie", f values) ∷ []
update_last [] values f absent = refl
update_last (e ∷ m) values f absent = by (bytes_eq e.0 (codes "set-cookie")) (update_last m values f) absent
  where
    by : (b : Bool)
        → (index_of m (codes "set-cookie") ≡ None
        → update (m ++ (codes "set-cookie", values) ∷ []) (codes "set-cookie") f ≡ m ++ (codes "set-cookie", f values) ∷ [])
        → (if b then Some 0 else option_map suc (index_of m (codes "set-cookie"))) ≡ None
        → (if b then (e.0, f e.1) ∷ (m ++ (codes "set-cookie", values) ∷ []) else e ∷ update (m ++ (codes "set-cookie", values) ∷ []) (codes "set-cookie") f)
        ≡ e ∷ (m ++ (codes "set-cookie", f values) ∷ [])
    by true more h = absurd (none-some _ (sym h))
    by false more h = ap (λ (n : Headers). e ∷ n) (more (none_behind (index_of m (codes "set-cookie")) h))

pub no_entries : (m : Headers) → remove m (codes "set-cookie") ≡ with_cookies m []
no_entries m = sym (append-nil (remove m (codes "set-cookie")))

-- one value more
pub one_entry_more : (m n : Headers) (values : List FieldValue) (v : FieldValue) → index_of (remove m (codes "set-cookie")) (codes "set-cookie") ≡ None
    → n ≡ with_cookies m values → append n (codes "set-cookie") v ≡ with_cookies m (values ++ v ∷ [])
one_entry_more m n [] v absent is =
    ap (λ (h : Headers). append h (codes "set-cookie") v) (is ∙ append-nil (remove m (codes "set-cookie")))
    ∙ (IsAbsent-from_index_of (remove m (codes "set-cookie")) (codes "set-cookie") absent).updates (λ values. values ++ v ∷ [])
one_entry_more m n (w ∷ more) v absent is =
    ap (λ (h : Headers). append h (codes "set-cookie") v) is
    ∙ update_last (remove m (codes "set-cookie")) (w ∷ more) (λ values. values ++ v ∷ []) absent

above_zero : (count : ℕ) (m n : Headers) → 0 < count → (if count == 0 then m else n) ≡ n
above_zero count m n h = let some : (count == 0) ≡ false = grind (arith, nat_tests) in rw some refl

-- the headers where a cookie is deleted, and where none is
pub some_gone : (name : List ℕ) (m n : Headers) → 0 < deleted_count name (get_all m (codes "set-cookie"))
    → n ≡ with_cookies m (kept_cookies name (get_all m (codes "set-cookie"))) → n ≡ without_cookies name m
some_gone name m n some is =
    is ∙ sym (above_zero (deleted_count name (get_all m (codes "set-cookie"))) m (with_cookies m (kept_cookies name (get_all m (codes "set-cookie")))) some)

pub none_gone : (name : List ℕ) (m : Headers) → deleted_count name (get_all m (codes "set-cookie")) ≡ 0 → m ≡ without_cookies name m
none_gone name m none = rw none refl
