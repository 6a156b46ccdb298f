use Rattle.std.proofs.Common.{ap}
use Rattle.std.specs.Prelude.{Ok}
use Rattle.web_worker.proofs.exchange_laws.two_arguments_law.Goals as goal

pub returns : goal.returns
returns g c = λ q m m1 m2 a b w x y r first second only.
    c.list_exchange_law.ensures.value q m m2 _ w (x, y) r
    (c.list_law.ensures.two q m m1 m2 (record { delay = a; result = Ok x })
    (record { delay = b; result = Ok y }) first second)
    (λ v e. only v.0 v.1 (ap (λ p. p.0) e) (ap (λ p. p.1) e))
