use Rattle.web_reply.proofs.CookieItemLemmas.{items_bounded}
use Rattle.web_reply.proofs.response_cookies.cookie_items_law.Goals as goal

pub returns : goal.returns
returns c = λ old new items given. items_bounded old new items given
