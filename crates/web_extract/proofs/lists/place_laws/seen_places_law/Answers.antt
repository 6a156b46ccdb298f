use Rattle.web_extract.specs.LayerConfigurations.{payload_settings}
use Rattle.web_extract.proofs.SeenResultsLemmas.{place_bytes, place_request, place_string, place_target}
use Rattle.web_extract.proofs.lists.place_laws.seen_places_law.Goals as goal

pub returns-clause-bytes : goal.returns-clause-bytes
returns-clause-bytes g c = λ q m. place_bytes (payload_settings g.P.Layer.Configs.configurations q.layers) q.head.headers m

pub returns-clause-string : goal.returns-clause-string
returns-clause-string g c = λ q m. place_string (payload_settings g.P.Layer.Configs.configurations q.layers) q.head.headers m

pub returns-clause-request : goal.returns-clause-request
returns-clause-request g c = λ q m. place_request _ q m

pub returns-clause-uri : goal.returns-clause-uri
returns-clause-uri g c = λ q m u is. place_target _ q.head u is m
