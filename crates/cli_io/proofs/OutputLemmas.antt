-- Bytes that are written in two parts are written as a whole.
use Rattle.std.proofs.Common.{◌≡◌, ℕ, ◌+◌, ◌-◌, List, ◌++◌, Option, Some, None, refl, ap, length, take, drop, ◌∙◌, append_assoc, arith}
use Rattle.std.specs.Io.KnownBytes.{Appends}
use Rattle.std.proofs.Math.Seq.{take-add}
use Rattle.std.proofs.lemmas.Grind.{common_steps}
use Rattle.cli_io.specs.IoState.{OutputState, WritesBytes}

appends_twice : (a b : List ℕ) (o p q : Option (List ℕ)) → Appends o p a → Appends p q b → Appends o q (a ++ b)
appends_twice a b None p q h k = tt
appends_twice a b (Some x) None q h k = elim h [ ]
appends_twice a b (Some x) (Some y) None h k = elim k [ ]
appends_twice a b (Some x) (Some y) (Some z) h k = k ∙ ap (λ w. w ++ b) h ∙ append_assoc x a b

pub went_more : (a b : List ℕ) (s t u : OutputState) → WritesBytes a s t → WritesBytes b t u → WritesBytes (a ++ b) s u
went_more a b s t u p q = appends_twice a b s.written t.written u.written p q

-- the next bytes of a text
pub went_on : (text : List ℕ) (sent count : ℕ) (s t u : OutputState)
    → WritesBytes (take sent text) s t → WritesBytes (take count (take (length text - sent) (drop sent text))) t u → WritesBytes (take (sent + count) text) s u
went_on text sent count s t u p q =
    let whole : take (length text - sent) (drop sent text) ≡ drop sent text = grind (arith, common_steps) in
    let r = rw whole at q in
    rw take-add (went_more (take sent text) (take count (drop sent text)) s t u p r)
