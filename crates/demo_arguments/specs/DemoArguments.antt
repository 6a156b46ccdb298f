-- What contracts see of the arguments of `/data` and of `/raw`.
use Rattle.std.specs.Prelude.{ℕ, List, Option}
use Rattle.web_request.specs.declared.source.Mark.{Mark}
use Rattle.web_request.specs.Feed.{Feed}
use Rattle.web_request.specs.Request.{Record, Request}
use Rattle.web_body.specs.declared.payload.Payload.{Payload}
use Rattle.web_body.specs.Payload.{payload_feed}
use Rattle.demo_app.specs.declared.app.DemoConn.{DemoConn}
use Rattle.demo_app.specs.declared.app.DemoLocal.{DemoLocal}
use Rattle.demo_app.specs.declared.layer.DemoLayer.{DemoLayer}

pub record DataView : Type 0 where
  -- of the nearest layer that has a number
  pub number : ℕ
  -- of the request alone
  pub local : ℕ
  pub request : Request DemoLayer DemoLocal DemoConn

-- the list of the arguments of `/data`: the request, in whatever record
abbrev pub data_view : ℕ × DemoLocal × Record DemoLayer DemoLocal DemoConn → DataView
data_view list = record { number = list.0; local = list.1.0; request = list.2.request }

-- the marks that are left of a payload
abbrev pub raw_view : Payload Feed → Option (List Mark)
raw_view payload = (payload_feed (λ feed. feed) payload).marks

-- the same, of the request itself
abbrev pub seen_data : ℕ × DemoLocal × Request DemoLayer DemoLocal DemoConn → DataView
seen_data list = record { number = list.0; local = list.1.0; request = list.2 }
