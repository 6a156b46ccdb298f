-- What is said of the reading of a body, in two cuttings.
use Rattle.std.proofs.Common.{◌≡◌, ℕ, ◌≤◌, Bool, cond, List, length, sym, ◌∙◌, ap, arith, subst}
use Rattle.web_request.specs.declared.source.Mark.{Mark}
use Rattle.web_request.specs.Body.{ends_in_fault, piece_bytes}
use Rattle.web_request.specs.Reading.{Content, Faulty, Over, Whole, reading}
use Rattle.web_body.specs.Cuttings.{SameBody, SameContent}
use Rattle.web_body.proofs.CuttingLemmas.{fits, same_content}

-- a relation that does not tell how many bytes passed the limit
abbrev pub SaysNoSize : {X : Type 0} → (Content → X → Type 0) → Type 0
SaysNoSize {X} says = (a b : ℕ) (x : X) → says (Over a) x → says (Over b) x

said_same : {X : Type 0} (says : Content → X → Type 0) → SaysNoSize says → (c d : Content) → SameContent c d → (x : X) → says c x → says d x
said_same says none (Over a) (Over b) same x h = none a b x h
said_same says none (Over a) Faulty same x h = absurd same
said_same says none (Over a) (Whole c) same x h = absurd same
said_same says none Faulty (Over b) same x h = absurd same
said_same says none Faulty Faulty same x h = h
said_same says none Faulty (Whole c) same x h = absurd same
said_same says none (Whole b) (Over a) same x h = absurd same
said_same says none (Whole b) Faulty same x h = absurd same
said_same says none (Whole b) (Whole c) same x h = subst (λ (bytes : List ℕ). says (Whole bytes) x) same h

pub says_same : {X : Type 0} (says : Content → X → Type 0) → SaysNoSize says → (limit : ℕ) (m n : List Mark) → SameBody m n
    → (x : X) → says (reading limit m).content x → says (reading limit n).content x
says_same says none limit m n same = said_same says none _ _ (same_content limit m n same)

-- where the limit is not passed, even the sizes are the same
pub within_same : (limit : ℕ) (m n : List Mark) → SameBody m n → length (piece_bytes m) ≤ limit → (reading limit m).content ≡ (reading limit n).content
within_same limit m n same h =
    let size = ap length same.bytes in
    fits limit m h
    ∙ (ap (λ (b : Bool). cond b Faulty (Whole (piece_bytes m))) same.ending
    ∙ (ap (λ (xs : List ℕ). cond (ends_in_fault n) Faulty (Whole xs)) same.bytes ∙ sym (fits limit n (omega (arith, h, size)))))
