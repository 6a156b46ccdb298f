-- The response after a part of it was borrowed mutably.
use Rattle.std.specs.Borrow.{Lends, Fml, RattleType, MutBor}
use Rattle.http.specs.contracts.status.StatusCode.{the_row as status_row}
use Rattle.http_header.specs.contracts.map.HeaderMap.{the_row as map_row}
use Rattle.http_header.specs.contracts.value.HeaderValue.{the_row as value_row}
use Rattle.web_reply.specs.contracts.head.ResponseHead.{the_row as head_row}
use Rattle.web_reply.specs.contracts.response.HttpResponse.{the_row}
use Rattle.web_reply.specs.Replies.{Reply}

module _ (T : RattleType) (s : MutBor (Reply T.Denot)) where
  abbrev pub lends_head : MutBor head_row.Denot → Fml
  lends_head r = Lends (the_row T) head_row s r (λ w. record (s.now) { head = w })

  abbrev pub lends_status : MutBor status_row.Denot → Fml
  lends_status r =
      Lends (the_row T) status_row s r
      (λ w. record (s.now) { head = record (s.now.head) { status = w } })

  abbrev pub lends_headers : MutBor (map_row value_row).Denot → Fml
  lends_headers r =
      Lends (the_row T) (map_row value_row) s r
      (λ w. record (s.now) { head = record (s.now.head) { headers = w } })
