-- What is picked of a request.
use Rattle.web_request.specs.KeptValues.{known_cookies}
use Rattle.web_request.specs.Request.{Record}
use Rattle.demo_app.specs.declared.app.DemoConn.{DemoConn}
use Rattle.demo_app.specs.declared.app.DemoLocal.{DemoLocal}
use Rattle.demo_app.specs.declared.layer.DemoLayer.{DemoLayer}
use Rattle.demo_arguments.specs.declared.choice.RequestChoice.{RequestChoice}
use Rattle.demo_arguments.specs.declared.choice.RequestChoice.TheVariants as request
use Rattle.demo_picked.specs.declared.picked.Picked.{Picked}
use Rattle.demo_picked.specs.declared.picked.Picked.TheVariants as picked

-- what the header fields say of its cookies, or the request, in whatever record
abbrev pub picked_request : RequestChoice → Record DemoLayer DemoLocal DemoConn → Picked
picked_request request.Cookies r = picked.Cookies (known_cookies r)
picked_request request.Document r = picked.Document r.request
picked_request request.Variant r = picked.Variant r.request
