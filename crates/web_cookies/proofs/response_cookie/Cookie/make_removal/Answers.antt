use Rattle.std.proofs.Common.{ap, refl, ◌-◌, ◌∙◌}
use Rattle.web_cookies.proofs.response_cookie.Cookie.make_removal.Goals as goal

pub returns : goal.returns
returns c = record {
  date = c.in-Ok.ended;
  ended = c.in-Ok.ensures.value ∙ (c.saturating_sub.ensures ∙ ap (λ s. s - 31536000) c.unix_secs.ensures.value);
  fields = rw (← c.self.view_is, c.clear.ensures.bytes) refl;
}
