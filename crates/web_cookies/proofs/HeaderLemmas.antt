-- The cookies of one value, and of one part, after another.
use Rattle.std.specs.Prelude.{Result}
use Rattle.std.proofs.Common.{◌≡◌, ◌++◌, ℕ, Bool, true, false, List, [], ◌∷◌, cond, Ok, Err, refl, sym, ◌∙◌, ap, append_assoc}
use Rattle.std.specs.List.{flat_map, list_all, slice_split}
use Rattle.std.specs.Str.{IsUtf8, is_utf8}
use Rattle.std.proofs.lemmas.List.{append-nil}
use Rattle.std.proofs.lemmas.Str.{is_utf8-from_IsUtf8}
use Rattle.http_header.specs.FieldValue.{FieldValue}
use Rattle.web_texts.specs.Bytes.{is_semicolon}
use Rattle.web_cookies.specs.declared.cookie_parse_error.CookieParseError.{CookieParseError}
use Rattle.web_cookies.specs.declared.cookie_parse_error.CookieParseError.TheVariants.{Utf8}
use Rattle.web_texts.specs.Pairs.{Pair}
use Rattle.web_cookies.specs.HeaderCookies.{cookie_of_part, cookies_in, cookies_said}
use Rattle.web_cookies.proofs.ReaderLemmas.{not_utf8}

-- the part before a semicolon, and then what is after it
pub part_more : (encoded : Bool) (text part : List ℕ) (behind : List (List ℕ)) (now next all : List Pair) → slice_split is_semicolon text ≡ part ∷ behind
    → now ++ cookies_in encoded text ≡ all → next ≡ now ++ cookie_of_part encoded part → next ++ flat_map (cookie_of_part encoded) behind ≡ all
part_more encoded text part behind now next all parts so_far is =
    rw (is, append_assoc now (cookie_of_part encoded part) (flat_map (cookie_of_part encoded) behind), ← so_far, parts) refl

-- the last part
pub part_last : (encoded : Bool) (text part : List ℕ) (now next all : List Pair) → slice_split is_semicolon text ≡ part ∷ []
    → now ++ cookies_in encoded text ≡ all → next ≡ now ++ cookie_of_part encoded part → next ≡ all
part_last encoded text part now next all parts so_far is = sym (append-nil next) ∙ part_more encoded text part [] now next all parts so_far is

-- these cookies, and then those that are said
abbrev pub onto : List Pair → Result (List Pair) CookieParseError → Result (List Pair) CookieParseError
onto first (Ok cookies) = Ok (first ++ cookies)
onto first (Err error) = Err error

onto_more : (first here rest : List Pair) (b : Bool) → onto first (cond b (Ok (here ++ rest)) (Err Utf8)) ≡ onto (first ++ here) (cond b (Ok rest) (Err Utf8))
onto_more first here rest true = ap Ok (sym (append_assoc first here rest))
onto_more first here rest false = refl

-- one value more
pub value_more : (encoded : Bool) (values rest : List FieldValue) (v : FieldValue) (now next : List Pair) (all : Result (List Pair) CookieParseError) → values ≡ v ∷ rest
    → IsUtf8 v.bytes → onto now (cookies_said encoded values) ≡ all → next ≡ now ++ cookies_in encoded v.bytes → onto next (cookies_said encoded rest) ≡ all
value_more encoded values rest v now next all are text so_far is =
    let e : is_utf8 v.bytes ≡ true = is_utf8-from_IsUtf8 v.bytes text in
    let step : onto now (cookies_said encoded (v ∷ rest)) ≡ onto (now ++ cookies_in encoded v.bytes) (cookies_said encoded rest) =
    rw e (onto_more now (cookies_in encoded v.bytes) (flat_map (λ w. cookies_in encoded w.bytes) rest) (list_all (λ w. is_utf8 w.bytes) rest)) in
    rw is (sym step ∙ (ap (λ l. onto now (cookies_said encoded l)) (sym are) ∙ so_far))

-- a value that is no text
pub value_refused : (encoded : Bool) (values rest : List FieldValue) (v : FieldValue) (now : List Pair) (all : Result (List Pair) CookieParseError) → values ≡ v ∷ rest
    → (IsUtf8 v.bytes → ⊥) → onto now (cookies_said encoded values) ≡ all → all ≡ Err Utf8
value_refused encoded values rest v now all are unfit so_far =
    let e : is_utf8 v.bytes ≡ false = not_utf8 v.bytes unfit in
    let step : onto now (cookies_said encoded (v ∷ rest)) ≡ Err Utf8 = rw e refl in
    sym so_far ∙ (ap (λ l. onto now (cookies_said encoded l)) are ∙ step)
