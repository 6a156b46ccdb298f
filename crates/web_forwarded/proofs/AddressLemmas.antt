-- The text before the first `]:`.
use Rattle.std.proofs.Common.{◌≡◌, ◌<◌, ◌≤◌, ◌==◌, ℕ, zero, suc, Bool, true, false, ◌&&◌, List, [], ◌∷◌, drop, take, length, refl, ap, ◌∙◌, arith}
use Rattle.web_texts.specs.Bytes.{starts_with_byte}
use Rattle.web_forwarded.specs.Addresses.{before_port}
use Rattle.web_texts.proofs.TestLemmas.{both, same_byte}

-- a closing bracket and a colon stand in front
abbrev Ends : List ℕ → Type 0
Ends text = (rest : List ℕ) × (text ≡ 93 ∷ 58 ∷ rest)

colon : (text : List ℕ) → starts_with_byte 58 text ≡ true → (rest : List ℕ) × (text ≡ 58 ∷ rest)
colon [] e = absurd (cc)
colon (b ∷ rest) e = (rest, ap (λ c. c ∷ rest) (same_byte b 58 e))

ends : (b : ℕ) (text : List ℕ) → (b == 93 && starts_with_byte 58 text) ≡ true → Ends (b ∷ text)
ends b text e =
    let parts = both (b == 93) (starts_with_byte 58 text) e in
    let tail = colon text parts.1 in
    (tail.0, ap (λ c. c ∷ text) (same_byte b 93 parts.0) ∙ ap (λ t. 93 ∷ t) tail.1)

test_by : (b : ℕ) (text : List ℕ) (t : Bool) → (b == 93 && starts_with_byte 58 text) ≡ t → (Ends (b ∷ text) → ⊥) → t ≡ false
test_by b text true e away = absurd (away (ends b text e))
test_by b text false e away = refl

-- elsewhere the test fails
on : (b : ℕ) (text : List ℕ) → (Ends (b ∷ text) → ⊥) → before_port (b ∷ text) ≡ b ∷ before_port text
on b text away = rw (test_by b text (b == 93 && starts_with_byte 58 text) refl away) refl

-- the place of the first one
pub front_is : (text : List ℕ) (i : ℕ) → Ends (drop i text) → ((k : ℕ) → k < i → Ends (drop k text) → ⊥) → before_port text ≡ take i text
front_is [] zero at away = refl
front_is [] (suc i) at away = refl
front_is (b ∷ text) zero at away = ap before_port at.1
front_is (b ∷ text) (suc i) at away =
    on b text (λ e. away 0 (omega arith) e) ∙ ap (λ l. b ∷ l) (front_is text i at (λ k below e. away (suc k) (omega (arith, below)) e))

-- there is none
pub all_is : (text : List ℕ) → ((k : ℕ) → k ≤ length text → Ends (drop k text) → ⊥) → before_port text ≡ text
all_is [] away = refl
all_is (b ∷ text) away =
    on b text (λ e. away 0 (omega arith) e) ∙ ap (λ l. b ∷ l) (all_is text (λ k inside e. away (suc k) (omega (arith, inside)) e))
