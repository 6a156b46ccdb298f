-- Reading a body without a limit.
use Rattle.std.proofs.Common.{◌≡◌, List, [], arith, subst}
use Rattle.std.specs.Prelude.{Option, None, Some}
use Rattle.web_request.specs.declared.source.Mark.{Mark}
use Rattle.web_request.specs.Reading.{Content, Reading}
use Rattle.web_request.proofs.ReadingLemmas.{reading_small}
use Rattle.web_body.specs.Collector.{Allows, reading_of}
use Rattle.web_body.specs.WholePayloads.{MeansAll, no_limit}

pub reads_all : {X : Type 0} (answer : Content → X) (marks : Option (List Mark))
    → MeansAll answer marks (Allows answer (reading_of no_limit marks []))
reads_all answer None = tt
reads_all answer (Some m) = λ small n x h.
    subst (λ (r : Reading). (n ≡ r.delay) × (x ≡ answer r.content)) (reading_small no_limit m (omega (arith, small))) h
