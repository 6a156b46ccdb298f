-- One more attribute, and the date that a text shows.
use Rattle.std.proofs.Common.{◌≡◌, ℕ, ◌||◌, Bool, true, false, List, [], ◌∷◌, Some, refl, sym, ◌∙◌, ap, map}
use Rattle.std.specs.List.{list_any, slice_split}
use Rattle.httpdate.specs.declared.date.HttpDate.{HttpDate}
use Rattle.httpdate.specs.Date.{IsDateText}
use Rattle.httpdate.specs.Valid.{IsValid}
use Rattle.httpdate.proofs.FormatLemmas.{parse_complete}
use Rattle.httpdate.proofs.ValidLemmas.{is_valid_complete}
use Rattle.web_texts.specs.Bytes.{is_semicolon}
use Rattle.web_cookies.specs.CookieFields.{CookieFields}
use Rattle.web_cookies.specs.Attributes.{Attribute, age_in, attribute_of, attributes_of, date_of, domain_in, expires_in, is_http_only, last_said, path_in, secure_in, site_in, with_attributes}
use Rattle.web_texts.proofs.TestLemmas.{or_assoc}

any_assoc : (a b c : Bool) → (a || ((b || false) || c)) ≡ ((b || a) || c)
any_assoc true true c = refl
any_assoc true false c = refl
any_assoc false true c = refl
any_assoc false false c = refl

-- the first attribute, and then the others
pub with_first : (a : Attribute) (rest : List Attribute) (c : CookieFields) → with_attributes rest (with_attributes (a ∷ []) c) ≡ with_attributes (a ∷ rest) c
with_first a rest c =
    rw (
      or_assoc (last_said path_in rest) (path_in a) c.path,
      or_assoc (last_said domain_in rest) (domain_in a) c.domain,
      or_assoc (last_said age_in rest) (age_in a) c.max_age,
      or_assoc (last_said expires_in rest) (expires_in a) c.expires,
      or_assoc (last_said secure_in rest) (secure_in a) c.secure,
      or_assoc (last_said site_in rest) (site_in a) c.same_site,
      any_assoc (list_any is_http_only rest) (is_http_only a) c.http_only,
    ) refl

-- the part before a semicolon, and then what is after it
pub part_more : (text part : List ℕ) (behind : List (List ℕ)) (c next all : CookieFields) → slice_split is_semicolon text ≡ part ∷ behind → with_attributes (attributes_of text) c ≡ all
    → next ≡ with_attributes (attribute_of part ∷ []) c → with_attributes (map attribute_of behind) next ≡ all
part_more text part behind c next all parts so_far is =
    rw is (with_first (attribute_of part) (map attribute_of behind) c ∙ (ap (λ ps. with_attributes (map attribute_of ps) c) (sym parts) ∙ so_far))

none_more : (c : CookieFields) → with_attributes [] c ≡ c
none_more c = refl

-- the last part
pub part_last : (text part : List ℕ) (c next all : CookieFields) → slice_split is_semicolon text ≡ part ∷ [] → with_attributes (attributes_of text) c ≡ all
    → next ≡ with_attributes (attribute_of part ∷ []) c → next ≡ all
part_last text part c next all parts so_far is = sym (none_more next) ∙ part_more text part [] c next all parts so_far is

-- the numbers of the date that a text shows
pub date_said : (text : List ℕ) (date : HttpDate) → IsDateText text date → Some date.parts ≡ date_of text
date_said text date shown =
    let valid : IsValid date.parts = (date.civil, date.time, date.right_day) in
    rw (parse_complete text date.parts valid shown, is_valid_complete date.parts valid) refl
