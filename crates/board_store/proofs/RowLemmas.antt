-- How a row is not read.
use Rattle.std.proofs.Common.{◌≡◌, ◌⊎◌, inl, inr, ℕ, refl, sym, subst}
use Rattle.sqlite.specs.Reading.{IsReadError}
use Rattle.sqlite.specs.declared.types.Value.{Value}
use Rattle.sqlite.specs.declared.error.Error.{Error}
use Rattle.board_store.specs.BoardSteps.{IsUnread}
use Rattle.board_store.specs.Refusals.{failure}

pub unread : (at : ℕ) (v : Value) (e : Error) → IsReadError at v e → IsUnread (failure e)
unread at v e (inl h) = subst (λ x. IsUnread (failure x)) (sym h) (inr refl)
unread at v e (inr (inl h)) = subst (λ x. IsUnread (failure x)) (sym h) (inr refl)
unread at v e (inr (inr (inl h))) = subst (λ x. IsUnread (failure x)) (sym h) (inr refl)
unread at v e (inr (inr (inr (inl h)))) = subst (λ x. IsUnread (failure x)) (sym h) (inr refl)
unread at v e (inr (inr (inr (inr h)))) = subst (λ x. IsUnread (failure x)) (sym h) (inl refl)
