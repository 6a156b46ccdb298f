use Rattle.web_extract.specs.CappedArguments.{capped_settings}
use Rattle.web_extract.specs.LayerConfigurations.{payload_settings}
use Rattle.web_cutting.proofs.CutFreeLemmas.{bytes_cut, option_cut, result_cut, string_cut}
use Rattle.web_cutting.proofs.argument_cutting.argument_cutting_law.Goals as goal

pub returns-clause-bytes : goal.returns-clause-bytes
returns-clause-bytes g c = λ q. bytes_cut (payload_settings g.P.Layer.Configs.configurations q.layers) q.head.headers

pub returns-clause-string : goal.returns-clause-string
returns-clause-string g c = λ q. string_cut (payload_settings g.P.Layer.Configs.configurations q.layers) q.head.headers

pub returns-clause-capped_bytes : goal.returns-clause-capped_bytes
returns-clause-capped_bytes g c = λ cap q. bytes_cut (capped_settings cap (payload_settings g.P.Layer.Configs.configurations q.layers)) q.head.headers

pub returns-clause-capped_string : goal.returns-clause-capped_string
returns-clause-capped_string g c = λ cap q. string_cut (capped_settings cap (payload_settings g.P.Layer.Configs.configurations q.layers)) q.head.headers

pub returns-clause-option : goal.returns-clause-option
returns-clause-option g c = λ q free. option_cut (g.A.FromRequest.means q) free

pub returns-clause-result : goal.returns-clause-result
returns-clause-result g c = λ q free. result_cut _ (g.A.FromRequest.means q) free
