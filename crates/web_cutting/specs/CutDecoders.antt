-- A decoded body in two cuttings.
use Rattle.std.specs.Prelude.{ℕ, List, Option, Result}
use Rattle.web_request.specs.declared.source.Mark.{Mark}
use Rattle.web_body.specs.Collector.{Read}
use Rattle.web_decoders.specs.Decoding.{DecodedReading, RefusedOr}

-- what may come of m may come of n, after some number of polls
abbrev pub CutsBody : {T E : Type 0}
    → (Read → Result T E → Type 0) → ℕ → Option E → List Mark → List Mark → Type 0
CutsBody {T} {E} decodes limit refusal m n =
    (d : ℕ) (x : Result T E) → RefusedOr refusal (DecodedReading decodes limit m) d x
    → (e : ℕ) × RefusedOr refusal (DecodedReading decodes limit n) e x
