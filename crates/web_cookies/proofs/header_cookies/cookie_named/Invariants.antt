use Rattle.std.proofs.Common.{◌≡◌, drop}
use Rattle.std.specs.List.{find}
use Rattle.std.specs.Str.{bytes_eq}
use Rattle.web_cookies.proofs.header_cookies.cookie_named.Given as goal

abbrev pub invariant-loop-pair : goal.invariant-loop-pair
invariant-loop-pair l =
    find (λ c. bytes_eq c.name l.name) (drop l.pair-index l.cookies)
    ≡ find (λ c. bytes_eq c.name l.name) l.cookies
