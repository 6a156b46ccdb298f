use Rattle.std.proofs.Common.{◌≡◌, Ok, None, true, ap, sym, codes, ◌∙◌}
use Rattle.std.specs.List.{find}
use Rattle.std.specs.Option.{option_copied, option_map}
use Rattle.std.specs.Str.{bytes_eq}
use Rattle.http_header.specs.HeaderMap.{get_all}
use Rattle.web_cookies.specs.CookieFields.{cookie_of_pair}
use Rattle.web_cookies.specs.HeaderCookies.{cookies_said}
use Rattle.web_request.specs.KeptValues.{known_cookies, cookie_values}
use Rattle.web_request.proofs.request.HttpRequest.cookie.Goals as goal

pub returns-in_ok-keep_decoded-in-Ok-clause-value : goal.returns-in_ok-keep_decoded-in-Ok-clause-value
returns-in_ok-keep_decoded-in-Ok-clause-value g c =
    let none : c.args.self.now.kept.decoded ≡ None = ap (λ r. r.kept.decoded) (sym c.self.view_is) ∙ (sym c.decoded.ensures ∙ ap option_copied c.in_default.is) in
    let read : cookies_said true (cookie_values c.args.self.now) ≡ Ok c.in-Ok.cookies.items =
    ap (λ r. cookies_said true (cookie_values r)) (sym c.self.view_is) ∙ (ap (λ head. cookies_said true (get_all head.headers (codes "cookie"))) (sym c.deref.ensures) ∙ c.in-Ok.ensures) in
    let said : known_cookies c.args.self.now ≡ Ok c.in-Ok.cookies.items = rw (none) read in
    rw said (c.in_ok-found-in-Ok.ensures.value ∙ ap (λ l. option_map cookie_of_pair (find (λ pair. bytes_eq pair.name c.args.name.now) l)) c.as_slice.ensures.value)
