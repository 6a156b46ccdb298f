-- What handlers answer.
use Rattle.std.proofs.Common.{◌≡◌, refl, inl, inr}
use Rattle.std.specs.Prelude.{Result, Ok, Err, IfOk}
use Rattle.std.specs.Fn.{Shared, FnReturns}
use Rattle.std.specs.Borrow.{Bor}
use Rattle.web_texts.specs.declared.memory.NoMemory.{NoMemory}
use Rattle.web_request.specs.declared.head.RequestHead.{RequestHead}
use Rattle.web_request.specs.Head.{head_view}
use Rattle.web_codec.specs.Answers.{OrAll}
use Rattle.web_reply.specs.Replies.{Fault}
use Rattle.web_extract.specs.Extracts.{AllowsOnly}
use Rattle.web_extract.specs.Refusals.{ClosureRefuses}

-- an error that a closure returned is one that it may return
pub closure_refuses : {F E : Type 0} (closure : Shared F (E × (Bor RequestHead × Unit {0})) (Result Fault NoMemory))
    (f : F) (e : E) (lent : Bor RequestHead) (r : Result Fault NoMemory) → FnReturns closure f (e, (lent, tt)) r
    → IfOk r (λ x. ClosureRefuses closure f e (head_view lent.now) x)
closure_refuses closure f e lent (Ok x) h = record { lent = lent; is_head = refl; returns = h }
closure_refuses closure f e lent (Err n) h = tt

-- where one thing is allowed, nothing else counts as allowed
pub or_all_only : {A : Type 0} (allowed : A → Type 0) (a : A) → AllowsOnly allowed a → (b : A) → OrAll allowed b → b ≡ a
or_all_only allowed a only b (inl h) = only.1 b h
or_all_only allowed a only b (inr none) = absurd (none a only.0)
