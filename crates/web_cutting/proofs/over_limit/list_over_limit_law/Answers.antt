use Rattle.std.specs.Prelude.{ℕ}
use Rattle.web_extract.specs.LayerConfigurations.{payload_settings}
use Rattle.web_extract.specs.BytesArgument.{MeansBytes}
use Rattle.web_extract.specs.StringArgument.{MeansString}
use Rattle.web_extract.specs.ListMeanings.{Means1}
use Rattle.web_cutting.specs.OverLimit.{IsFineForBytes, IsFineForText}
use Rattle.web_cutting.proofs.OverLimitLemmas.{Own, bytes_over, one_over, refuses_over, string_over}
use Rattle.web_cutting.proofs.over_limit.list_over_limit_law.Goals as goal

pub returns-clause-bytes : goal.returns-clause-bytes
returns-clause-bytes g c = λ pool handler.
    refuses_over (λ q m rest n x. Means1 (Own (MeansBytes (payload_settings g.P.Layer.Configs.configurations q.layers) q.head.headers)) m rest n x)
    _ (λ e f h. h) (g.H.Handler.answers handler) g.H.Output.Responder.responds g.P.Source.Source.feed (λ (u : ℕ) n x. ⊥) g.H.Future.Poll.gives pool
    (λ q. payload_settings g.P.Layer.Configs.configurations q.layers) (λ s q. IsFineForBytes s q.head.headers)
    (λ q m fine above. one_over (MeansBytes (payload_settings g.P.Layer.Configs.configurations q.layers) q.head.headers) m (bytes_over (payload_settings g.P.Layer.Configs.configurations q.layers) q.head.headers m fine above))

pub returns-clause-string : goal.returns-clause-string
returns-clause-string g c = λ pool handler.
    refuses_over (λ q m rest n x. Means1 (Own (MeansString (payload_settings g.P.Layer.Configs.configurations q.layers) q.head.headers)) m rest n x)
    _ (λ e f h. h) (g.K.Handler.answers handler) g.K.Output.Responder.responds g.P.Source.Source.feed (λ (u : ℕ) n x. ⊥) g.K.Future.Poll.gives pool
    (λ q. payload_settings g.P.Layer.Configs.configurations q.layers) (λ s q. IsFineForText s q.head.headers)
    (λ q m fine above. one_over (MeansString (payload_settings g.P.Layer.Configs.configurations q.layers) q.head.headers) m (string_over (payload_settings g.P.Layer.Configs.configurations q.layers) q.head.headers m fine above))
