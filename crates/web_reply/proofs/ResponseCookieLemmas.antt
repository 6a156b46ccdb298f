-- The cookies that the values of Set-Cookie say, value by value.
use Rattle.std.proofs.Common.{◌≡◌, ℕ, ◌+◌, ◌≤◌, Bool, true, false, List, [], ◌∷◌, ◌++◌, length, refl, sym, ap, ◌∙◌, arith}
use Rattle.std.specs.Prelude.{Some, None, Ok, Err, codes}
use Rattle.std.proofs.lemmas.List.Sums.{count_by-le-length, length-filter}
use native.Mathlib.Numerals.{unary_clauses}
use Rattle.http_header.specs.FieldValue.{FieldValue}
use Rattle.http_header.specs.HeaderMap.{IsUnique, append, get_all, remove}
use Rattle.http_header.proofs.HeaderMapLemmas.{get_all-append_same, get_all-append_other, get_all-remove_same, get_all-remove_other}
use Rattle.web_texts.specs.HeaderTexts.{header_text_of}
use Rattle.web_cookies.specs.declared.cookie_parse_error.CookieParseError.{CookieParseError}
use Rattle.web_cookies.specs.CookieFields.{CookieFields}
use Rattle.web_cookies.specs.CookieReaders.{cookie_said}
use Rattle.web_reply.specs.HeaderSteps.{Headers}
use Rattle.web_reply.specs.ResponseCookies.{HasCookies, cookies_left, deleted_count, deletes, kept_cookies}

module _ (value : FieldValue) (more : List FieldValue) where
  pub no_text_ends : header_text_of value.bytes ≡ None → cookies_left (value ∷ more) ≡ []
  no_text_ends e = rw e

  module _ (text : List ℕ) (is_text : header_text_of value.bytes ≡ Some text) where
    pub cookie_first : (cookie : CookieFields) → cookie_said true text ≡ Ok cookie → cookies_left (value ∷ more) ≡ cookie ∷ cookies_left more
    cookie_first cookie said = rw (is_text, said)

    pub cookie_passed : (e : CookieParseError) → cookie_said true text ≡ Err e → cookies_left (value ∷ more) ≡ cookies_left more
    cookie_passed e said = rw (is_text, said)

pub deletes_one_more : (name : List ℕ) (v : FieldValue) (values : List FieldValue) → deletes name v ≡ true
    → deleted_count name (v ∷ values) ≡ deleted_count name values + 1
deletes_one_more name v values e = rw e (simp unary_clauses refl)

-- where none is deleted, all are kept
pub all_kept : (name : List ℕ) (values : List FieldValue) → deleted_count name values ≡ 0 → kept_cookies name values ≡ values
all_kept name [] none = refl
all_kept name (v ∷ values) none = by (deletes name v) refl (all_kept name values)
  where
    by : (b : Bool) → deletes name v ≡ b → (deleted_count name values ≡ 0 → kept_cookies name values ≡ values)
        → kept_cookies name (v ∷ values) ≡ v ∷ values
    by true e same = let more : deleted_count name (v ∷ values) ≡ deleted_count name values + 1 = deletes_one_more name v values e in absurd (omega arith)
    by false e same = let rest : deleted_count name values ≡ 0 = rw e at none in rw e (ap (λ (vs : List FieldValue). v ∷ vs) (same rest))

-- the headers without Set-Cookie
pub none_left : (m : Headers) → IsUnique m → HasCookies m [] (remove m (codes "set-cookie"))
none_left m unique = record {
  cookies = get_all-remove_same m (codes "set-cookie") unique;
  others = λ name other. get_all-remove_other m (codes "set-cookie") name unique (λ same. other (sym same));
}

-- one value more
pub one_more : (old m : Headers) (values : List FieldValue) (v : FieldValue) → HasCookies old values m
    → HasCookies old (values ++ v ∷ []) (append m (codes "set-cookie") v)
one_more old m values v has = record {
  cookies = get_all-append_same m (codes "set-cookie") v ∙ ap (λ (vs : List FieldValue). vs ++ v ∷ []) has.cookies;
  others = λ name other. get_all-append_other m (codes "set-cookie") name v (λ same. other (sym same)) ∙ has.others name other;
}

-- the headers as they are, where no cookie is deleted
pub none_deleted : (name : List ℕ) (m : Headers) → deleted_count name (get_all m (codes "set-cookie")) ≡ 0
    → HasCookies m (kept_cookies name (get_all m (codes "set-cookie"))) m
none_deleted name m none = record {
  cookies = sym (all_kept name (get_all m (codes "set-cookie")) none);
  others = λ other is_other. refl;
}

pub deleted_within : (name : List ℕ) (values : List FieldValue) → deleted_count name values ≤ length values
deleted_within name values = rw (length-filter (deletes name) values) (count_by-le-length (deletes name) values)
