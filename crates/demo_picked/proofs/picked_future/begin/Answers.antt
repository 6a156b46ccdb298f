use Rattle.std.specs.Prelude.{◌≡◌}
use Rattle.web_extract.proofs.ConvertedFuturesLemmas.{extracts_converted}
use Rattle.demo_picked.proofs.picked_future.begin.Goals as goal

pub returns-in-Ok-clause-extracts : goal.returns-in-Ok-clause-extracts
returns-in-Ok-clause-extracts g c =
    extracts_converted (λ v w. w ≡ g.T.IntoPicked.picked v) g.T.Error.Into.converts _ _ _ _
    c.in-Ok.ensures.extracts
