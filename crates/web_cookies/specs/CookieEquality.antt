-- The equality of cookies, which is an equivalence. Dates are equal where their seconds are.
use Rattle.std.specs.Prelude.{ℕ, ◌==◌, ◌&&◌, Bool}
use Rattle.std.specs.Bool.{beq}
use Rattle.std.specs.Cmp.{IsEquivalence, and_equiv, on_equiv, nat_eq_equiv, bool_eq_equiv}
use Rattle.std.specs.Cmp.Lexicographic.{on_texts_equal, nat_list_eq_equiv, options_equiv}
use Rattle.std.specs.Option.{option_eq}
use Rattle.std.specs.Ordering.{on}
use Rattle.std.specs.Str.{bytes_eq}
use Rattle.httpdate.specs.Valid.{parts_secs}
use Rattle.web_cookies.specs.declared.same_site.SameSite.{SameSite}
use Rattle.web_cookies.specs.declared.same_site.SameSite.TheVariants.{Strict, Lax, None}
use Rattle.web_cookies.specs.CookieFields.{CookieFields}

abbrev pub site_number : SameSite → ℕ
site_number Strict = 0
site_number Lax = 1
site_number None = 2

abbrev pub pair_eq : CookieFields → CookieFields → Bool
pair_eq a b = bytes_eq a.name b.name && bytes_eq a.value b.value

abbrev pub places_eq : CookieFields → CookieFields → Bool
places_eq a b = option_eq bytes_eq a.path b.path && option_eq bytes_eq a.domain b.domain

abbrev pub ages_eq : CookieFields → CookieFields → Bool
ages_eq a b =
    option_eq ◌==◌ a.max_age b.max_age && option_eq (on parts_secs ◌==◌) a.expires b.expires

abbrev pub flags_eq : CookieFields → CookieFields → Bool
flags_eq a b =
    option_eq beq a.secure b.secure
    && (beq a.http_only b.http_only && option_eq (on site_number ◌==◌) a.same_site b.same_site)

abbrev pub cookie_eq : CookieFields → CookieFields → Bool
cookie_eq a b = pair_eq a b && (places_eq a b && (ages_eq a b && flags_eq a b))

pub cookie_eq_law : IsEquivalence cookie_eq
cookie_eq_law =
    and_equiv (and_equiv (on_texts_equal (λ c. c.name)) (on_texts_equal (λ c. c.value)))
    (and_equiv
    (and_equiv (on_equiv (λ c. c.path) (options_equiv nat_list_eq_equiv))
    (on_equiv (λ c. c.domain) (options_equiv nat_list_eq_equiv)))
    (and_equiv
    (and_equiv (on_equiv (λ c. c.max_age) (options_equiv nat_eq_equiv))
    (on_equiv (λ c. c.expires) (options_equiv (on_equiv parts_secs nat_eq_equiv))))
    (and_equiv (on_equiv (λ c. c.secure) (options_equiv bool_eq_equiv))
    (and_equiv (on_equiv (λ c. c.http_only) bool_eq_equiv)
    (on_equiv (λ c. c.same_site) (options_equiv (on_equiv site_number nat_eq_equiv)))))))
