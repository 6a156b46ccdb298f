-- The exchanges of a script, as the program's worker sees them.
use Rattle.std.specs.Prelude.{ℕ}
use Rattle.web_request.specs.Feed.{Feed}
use Rattle.web_request.specs.Pool.{Pool, new_pool}
use Rattle.web_body.specs.MemoryBodies.{marks_feed}
use Rattle.web_body.specs.declared.payload.Payload.TheVariants as payload
use Rattle.web_worker.specs.Exchanges.{ExchangeView}
use Rattle.cli_script.specs.ScriptedView.{ScriptedExchangeView}
use Rattle.demo_app.specs.declared.app.DemoLocal.{DemoLocal}
use Rattle.demo_app.specs.declared.app.DemoConn.{DemoConn}
use Rattle.demo_app.specs.declared.layer.DemoLayer.{DemoLayer}
use Rattle.demo_app.specs.DemoLayers.{no_layer}
use Rattle.demo_app.specs.DemoRequests.{demo_parts}
use Rattle.web_request.specs.LocalConfigs.{local_config}

-- the pool of the program's worker, which keeps so many records
abbrev pub demo_pool : ℕ → Pool DemoLayer
demo_pool capacity = new_pool no_layer local_config capacity

-- the exchange that a script describes, with its body as a stream of its marks
abbrev pub demo_exchange : ScriptedExchangeView → ExchangeView Feed DemoLayer DemoLocal DemoConn
demo_exchange e = record { parts = demo_parts e; body = payload.Stream (marks_feed e.marks) }
