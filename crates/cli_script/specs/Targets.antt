-- The reading of a request target (RFC 9112, section 3.2), as a function of its bytes.
use Rattle.std.specs.Prelude.{ℕ, ◌+◌, ◌-◌, ◌==◌, Bool, true, not, ◌&&◌, ◌||◌, List, [], ◌∷◌, ◌++◌}
use Rattle.std.specs.Prelude.{length, take, drop, slice_index, codes, Option, None, Some}
use Rattle.std.specs.Prelude.{MatchOption, unwrap_or, is_some, nat_lt, nat_le, if◌then◌else◌}
use Rattle.std.specs.List.{list_all}
use Rattle.std.specs.Str.{bytes_eq, is_utf8}
use Rattle.http_uri.specs.ByteClasses.{is_scheme_byte, is_authority_byte, is_path_byte}
use Rattle.http_uri.specs.ByteClasses.{is_query_byte, is_delimiter, count_of, split_once_front}
use Rattle.http_uri.specs.ByteClasses.{split_once_back, at_sign, colon, left_bracket, percent_sign}
use Rattle.http_uri.specs.ByteClasses.{question_mark, right_bracket, slash}
use Rattle.http_uri.specs.Grammar.{IsUriText, last_piece, normal_scheme, without_fragment, path_of}
use Rattle.http_uri.specs.Grammar.{scheme_len, authority_len}
use Rattle.http_uri.specs.Uri.{SpellsNone}
use Rattle.web_request.specs.Head.{Target}

-- the text spells these parts, or none
abbrev pub IsReading : List ℕ → Option Target → Type 0
IsReading text read =
    MatchOption read (SpellsNone text)
    (λ t. IsUriText text t.scheme t.authority t.path_and_query)

-- the path of a target, without the query; a target that is an authority alone has none
abbrev pub target_path : Target → List ℕ
target_path t =
    if not (length t.path_and_query == 0) || is_some t.scheme then path_of t.path_and_query
    else []

-- the text is empty, `*`, or begins as a path or a query does
abbrev pub begins_path : List ℕ → Bool
begins_path text =
    bytes_eq text []
    || (bytes_eq text (codes "*")
    || (slice_index text 0 == slash || slice_index text 0 == question_mark))

-- a path, and a query after the first `?`; or `*`
unfoldable pub is_path_and_query : List ℕ → Bool
is_path_and_query text =
    begins_path text
    && (list_all is_path_byte (split_once_front question_mark text)
    && (list_all is_query_byte (unwrap_or (split_once_back question_mark text) [])
    && (is_utf8 text && nat_le (length text) 65534)))

-- the same, with a fragment
unfoldable pub is_path_input : List ℕ → Bool
is_path_input text =
    (bytes_eq text (codes "*") || is_delimiter (slice_index text 0))
    && (nat_le (length text) 65534 && is_path_and_query (without_fragment text))

-- the byte may follow these in an authority: at most 8 colons in a piece, and one pair of brackets
unfoldable pub may_follow : List ℕ → ℕ → Bool
may_follow before b =
    is_authority_byte b
    && ((not (b == colon) || nat_lt (count_of colon (last_piece before)) 8)
    && ((not (b == left_bracket)
    || (count_of left_bracket before == 0 && count_of percent_sign (last_piece before) == 0))
    && (not (b == right_bracket)
    || (nat_lt 0 (count_of left_bracket before) && count_of right_bracket before == 0))))

-- each byte of the rest may follow those before it
abbrev pub each_follows : List ℕ → List ℕ → Bool
each_follows before [] = true
each_follows before (b ∷ rest) =
    may_follow before b && each_follows (before ++ b ∷ []) rest

-- userinfo, host and port
unfoldable pub is_authority : List ℕ → Bool
is_authority text =
    nat_lt 0 (length text)
    && (each_follows [] text
    && (count_of left_bracket text == count_of right_bracket text
    && (nat_le (count_of colon (last_piece text)) 1
    && (count_of percent_sign (last_piece text) == 0
    && not (slice_index text (length text - 1) == at_sign)))))

-- the path, the asterisk, or both with a query or a fragment
unfoldable pub is_origin : List ℕ → Bool
is_origin text = (bytes_eq text (codes "*") || slice_index text 0 == slash) && is_path_input text

-- the text after `scheme://`, its authority, and the text after that
abbrev pub after_scheme : List ℕ → List ℕ
after_scheme text = drop (scheme_len text + 3) text

abbrev pub authority_after_scheme : List ℕ → List ℕ
authority_after_scheme text = take (authority_len (after_scheme text)) (after_scheme text)

abbrev pub text_after_authority : List ℕ → List ℕ
text_after_authority text = drop (authority_len (after_scheme text)) (after_scheme text)

-- `scheme://authority`, and a path, a query or a fragment
unfoldable pub is_absolute : List ℕ → Bool
is_absolute text =
    (nat_lt 3 (length text) && bytes_eq (take 3 (drop (scheme_len text) text)) (codes "://"))
    && ((list_all is_scheme_byte (take (scheme_len text) text)
    && nat_le (length (take (scheme_len text) text)) 64)
    && (is_authority (authority_after_scheme text)
    && (bytes_eq (text_after_authority text) []
    || (is_delimiter (slice_index (text_after_authority text) 0)
    && is_path_input (text_after_authority text)))))

-- its parts; a path that is not there reads as `/`
abbrev pub absolute_of : List ℕ → Target
absolute_of text = record {
  scheme = Some (normal_scheme (take (scheme_len text) text));
  authority = Some (authority_after_scheme text);
  path_and_query =
      if bytes_eq (text_after_authority text) [] then codes "/"
      else without_fragment (text_after_authority text);
}

-- the forms of a text that is short enough: a path, an authority alone, and a scheme with an
-- authority
abbrev pub form_of : List ℕ → Option Target
form_of text =
    if is_origin text
    then Some (record {
      scheme = None;
      authority = None;
      path_and_query = without_fragment text;
    })
    else if is_authority text && not (bytes_eq text (codes "*"))
    then Some (record { scheme = None; authority = Some text; path_and_query = [] })
    else if is_absolute text then Some (absolute_of text)
    else None

-- the parts of the text, as `http_uri` reads it, if it reads it
unfoldable pub target_of : List ℕ → Option Target
target_of text = if nat_le (length text) 65534 then form_of text else None
