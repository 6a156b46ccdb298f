-- What a closure makes of a body, and of a head that it borrows.
use Rattle.std.specs.Prelude.{◌≡◌}
use Rattle.std.specs.Fn.{Once}
use Rattle.std.specs.Borrow.{MutBor}

-- f, called with a borrow of head and with body, may return new_body and leave new_head
pub record MapsBody
    {F H B C : Type 0} (g : Once F (MutBor H × (B × Unit {0})) (C × (MutBor H × Unit {0}))) (f : F)
    (head : H) (body : B) (new_head : H) (new_body : C) : Type 0 where
  pub borrow : MutBor H
  pub begins : borrow.now ≡ head
  pub left : MutBor H
  pub met : g.post f (borrow, (body, tt)) (new_body, (left, tt))
  pub ends : left.now ≡ new_head
