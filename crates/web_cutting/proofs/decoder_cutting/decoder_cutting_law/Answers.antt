use Rattle.web_decoders.specs.FormBodies.{FormAnswer}
use Rattle.web_decoders.specs.JsonBodies.{JsonAnswer}
use Rattle.web_cutting.proofs.CutFreeLemmas.{decoded_cut, within_cut}
use Rattle.web_cutting.proofs.decoder_cutting.decoder_cutting_law.Goals as goal

pub returns-clause-json : goal.returns-clause-json
returns-clause-json g c = λ limit refusal m n same. decoded_cut (JsonAnswer g.T.ReadJson.reads limit) (λ a b x h. h) limit refusal m n same

pub returns-clause-form : goal.returns-clause-form
returns-clause-form g c = λ limit refusal m n same fits. within_cut (FormAnswer g.P.ReadPairs.reads_pairs limit) limit refusal m n same fits
