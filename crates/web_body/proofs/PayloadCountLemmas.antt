-- Counts of a payload over several answers.
use Rattle.std.proofs.Common.{ℕ, ◌+◌, refl, arith}
use Rattle.web_request.specs.Feed.{Feed}
use Rattle.web_body.specs.declared.payload.Payload.{Payload}
use Rattle.web_body.specs.declared.payload.Payload.TheVariants.{None, Whole, Stream}
use Rattle.web_body.specs.Payload.{GivesBytes}

module _ {S : Type 0} (feed : S → Feed) where
  pub gave_none : (p : Payload S) → GivesBytes feed p 0 p
  gave_none None = refl
  gave_none (Whole b) = omega arith
  gave_none (Stream s) = omega arith

  pub gave_more : (p : Payload S) (n : ℕ) (q : Payload S) (m : ℕ) (r : Payload S) → GivesBytes feed p n q → GivesBytes feed q m r → GivesBytes feed p (n + m) r
  gave_more None n None m None h k = omega (arith, h, k)
  gave_more None n None m (Whole c) h k = omega (arith, h, k)
  gave_more None n (Whole b) m None h k = omega (arith, h, k)
  gave_more None n (Whole b) m (Whole c) h k = omega (arith, h, k)
  gave_more (Whole a) n None m None h k = omega (arith, h, k)
  gave_more (Whole a) n None m (Whole c) h k = omega (arith, h, k)
  gave_more (Whole a) n (Whole b) m None h k = omega (arith, h, k)
  gave_more (Whole a) n (Whole b) m (Whole c) h k = omega (arith, h, k)
  gave_more (Stream a) n (Stream b) m (Stream c) h k = omega (arith, h, k)
  gave_more None n None m (Stream c) h k = elim k [ ]
  gave_more None n (Whole b) m (Stream c) h k = elim k [ ]
  gave_more None n (Stream b) m r h k = elim h [ ]
  gave_more (Whole a) n None m (Stream c) h k = elim k [ ]
  gave_more (Whole a) n (Whole b) m (Stream c) h k = elim k [ ]
  gave_more (Whole a) n (Stream b) m r h k = elim h [ ]
  gave_more (Stream a) n None m r h k = elim h [ ]
  gave_more (Stream a) n (Whole b) m r h k = elim h [ ]
  gave_more (Stream a) n (Stream b) m None h k = elim k [ ]
  gave_more (Stream a) n (Stream b) m (Whole c) h k = elim k [ ]
