use Rattle.std.proofs.Common.{◌≡◌, Ok}
use Rattle.http_header.specs.HeaderMap.{pairs}
use Rattle.web_reply.specs.HeaderSteps.{and_place_each, place_each}
use Rattle.web_reply.proofs.header_setting.place_each.Given as goal

abbrev pub invariant-loop-name : goal.invariant-loop-name
invariant-loop-name l =
    and_place_each l.fn.placing (Ok l.headers) l.name-iterator ≡ place_each l.fn.placing (pairs l.fn.added) l.fn.headers
