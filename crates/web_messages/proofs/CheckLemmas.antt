-- The checks of a head, one by one.
use Rattle.std.proofs.Common.{◌≡◌, ℕ, Bool, true, false, ◌&&◌, List, [], ap, ◌∙◌, codes}
use Rattle.http_header.specs.FieldValue.{FieldValue}
use Rattle.http_header.specs.HeaderMap.{Entries, get_all}
use Rattle.web_messages.specs.declared.limits.HeadChecks.{HeadChecks}
use Rattle.web_messages.specs.Heads.{FieldPair, TakesFields, allows_host}
use Rattle.web_messages.proofs.OneLemmas.{takes_unique}

pub both : (a b : Bool) → a ≡ true → b ≡ true → (a && b) ≡ true
both true b x y = y
both false b x y = x

pub first_fails : (a b : Bool) → a ≡ false → (a && b) ≡ true → ⊥
first_fails true b x y = cc
first_fails false b x y = cc

last_fails : (a b : Bool) → b ≡ false → (a && b) ≡ true → ⊥
last_fails true b x y = cc
last_fails false b x y = cc

-- the fields are those of one map alone
pub second_fails : (checks : HeadChecks) (minor : ℕ) (fields : List FieldPair) (m n : Entries FieldValue) (a : Bool) → TakesFields [] fields m
    → TakesFields [] fields n → allows_host checks minor (get_all n (codes "host")) ≡ false
    → (a && allows_host checks minor (get_all m (codes "host"))) ≡ true → ⊥
second_fails checks minor fields m n a x y fails passes =
    let same = takes_unique [] fields m n x y in
    last_fails a (allows_host checks minor (get_all m (codes "host")))
    (ap (λ (k : Entries FieldValue). allows_host checks minor (get_all k (codes "host"))) same ∙ fails) passes
