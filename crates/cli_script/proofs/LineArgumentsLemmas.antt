-- The arguments of `exchange`, `header` and `param` lines, cut at their first space.
use Rattle.std.proofs.Common.{◌≡◌, ◌==◌, ℕ, zero, suc, ◌+◌, ◌-◌, ◌≤◌, true, false, not, ◌&&◌, List, [], ◌∷◌, length, drop, Option, Some, None, refl, ap, sym, ◌∙◌, arith}
use Rattle.std.proofs.Math.Seq.{drop-append-add}
use Rattle.std.proofs.lemmas.List.{length-append}
use Rattle.std.specs.Prelude.{IsUtf8}
use Rattle.std.specs.Bool.{Decides}
use Rattle.std.specs.List.{position_or_len}
use Rattle.std.specs.Str.{is_utf8}
use Rattle.std.proofs.lemmas.Bool.Decides.{Decides-and, Decides-ltb}
use Rattle.std.proofs.lemmas.List.Folds.{list_any-append}
use Rattle.std.proofs.lemmas.Str.{is_utf8-from_IsUtf8}
use Rattle.http_header.specs.FieldName.{IsFieldName}
use Rattle.http_header.specs.FieldValue.{IsFieldValue}
use Rattle.http_header.specs.Token.{is_token_byte, is_value_byte, IsToken}
use Rattle.http_uri.specs.declared.uri.Uri.{Uri}
use Rattle.http_uri.specs.Uri.{Spells, SpellsNone, uri_scheme, uri_authority, uri_data}
use Rattle.web_texts.specs.Cut.{IsCut}
use Rattle.web_texts.proofs.SplitLemmas.{cut_parts, no_cut}
use Rattle.cli_script.specs.Line.{is_space}
use Rattle.cli_script.specs.LineArguments.{before_space, after_space, has_space, is_method, is_request, request_fault, target_fault, is_field_name, is_field_value, is_param, param_of}
use Rattle.cli_script.specs.LineFaults.{unless}
use Rattle.cli_script.specs.Reader.{bare_exchange, new_exchange}
use Rattle.web_request.specs.Head.{Target, uri_view}
use Rattle.cli_script.specs.Targets.{IsReading, target_of}
use Rattle.cli_script.specs.declared.reason.LineFault.{LineFault}
use Rattle.cli_script.specs.declared.reason.LineFault.TheVariants as reason
use Rattle.cli_script.proofs.AcceptanceLemmas.{met, not_met}
use Rattle.cli_script.proofs.TargetFormsLemmas.{reading, all_decides, le_decides, utf8_decides}
use Rattle.cli_script.proofs.UniqueTargetLemmas.{form_unique}
use Rattle.web_texts.proofs.TestLemmas.{refuted, stable}

-- ---- a method, a target and a text

token : (text : List ℕ) → Decides (is_method text) (IsToken text)
unfolding is_method
token text = Decides-and _ _ (Decides-ltb 0 (length text)) (all_decides is_token_byte text)

pub method_read : (text : List ℕ) → ¬ (¬ (IsToken text)) → is_method text ≡ true
method_read text h = stable (is_method text) (token text) h

pub method_refused : (text : List ℕ) → ¬ (IsToken text) → is_method text ≡ false
method_refused text h = refuted (is_method text) (token text) h

-- a name and a value of a field

field_name : (text : List ℕ) → Decides (is_field_name text) (IsFieldName text)
unfolding is_field_name
field_name text = Decides-and _ _ (token text) (le_decides (length text) 65535)

pub name_read : (text : List ℕ) → ¬ (¬ (IsFieldName text)) → is_field_name text ≡ true
name_read text h = stable (is_field_name text) (field_name text) h

pub name_unread : (text : List ℕ) → ¬ (IsFieldName text) → is_field_name text ≡ false
name_unread text h = refuted (is_field_name text) (field_name text) h

field_value : (text : List ℕ) → Decides (is_field_value text) (IsFieldValue text)
unfolding is_field_value
field_value text = all_decides is_value_byte text

pub value_read : (text : List ℕ) → IsFieldValue text → is_field_value text ≡ true
value_read text h = (field_value text).1 h

pub value_unread : (text : List ℕ) → ¬ (IsFieldValue text) → is_field_value text ≡ false
value_unread text h = refuted (is_field_value text) (field_value text) h

pub text_read : (text : List ℕ) → IsUtf8 text → is_utf8 text ≡ true
text_read text good = is_utf8-from_IsUtf8 text good

pub text_refused : (text : List ℕ) → ¬ (IsUtf8 text) → is_utf8 text ≡ false
text_refused text bad = refuted (is_utf8 text) (utf8_decides text) bad

-- a text that spells a URI is read as its parts, and one that spells none is not read

same_parts : (s a : Option (List ℕ)) (k : List ℕ) (t : Target) → s ≡ t.scheme → a ≡ t.authority → k ≡ t.path_and_query → Some t ≡ Some (record { scheme = s; authority = a; path_and_query = k })
same_parts s a k t first second third = rw (first, second, third) refl

spelled_by : (text : List ℕ) (u : Uri) (o : Option Target) → IsReading text o → Spells text u → o ≡ Some (uri_view u)
spelled_by text u None none spells = absurd (none (uri_scheme u) (uri_authority u) (uri_data u) spells)
spelled_by text u (Some t) is spells =
    let same = form_unique text _ _ _ _ _ _ spells.1 is.1 in
    same_parts (uri_scheme u) (uri_authority u) (uri_data u) t same.0 same.1 same.2

unread_by : (text : List ℕ) (o : Option Target) → IsReading text o → SpellsNone text → o ≡ None
unread_by text None is none = refl
unread_by text (Some t) is none = absurd (none t.scheme t.authority t.path_and_query is)

pub target_read : (text : List ℕ) (u : Uri) → Spells text u → target_of text ≡ Some (uri_view u)
target_read text u spells = spelled_by text u (target_of text) (reading text) spells

pub target_refused : (text : List ℕ) → SpellsNone text → target_of text ≡ None
target_refused text none = unread_by text (target_of text) (reading text) none

-- ---- where an argument has no space, and where it is cut at its first

cut_has : (text before after : List ℕ) → IsCut 32 text before after → has_space text ≡ true
cut_has text before after cut =
    let parts = cut_parts 32 text before after cut in
    rw (parts.text_is, list_any-append is_space before (32 ∷ after), parts.none) refl

-- what stands after the space is the end of the text
cut_size : (text before after : List ℕ) → IsCut 32 text before after → length text ≡ length before + 1 + length after
cut_size text before after cut = rw ((cut_parts 32 text before after cut).text_is, length-append before (32 ∷ after)) (omega arith)

pub cut_short : (text before after : List ℕ) → IsCut 32 text before after → length after ≤ length text
cut_short text before after cut = let size = cut_size text before after cut in omega (arith, size)

pub cut_end : (text before after : List ℕ) → IsCut 32 text before after → after ≡ drop (length text - length after) text
cut_end text before after cut =
    let size = cut_size text before after cut in
    let start : length text - length after ≡ length before + 1 = omega (arith, size) in
    rw start (rw (cut_parts 32 text before after cut).text_is (sym (drop-append-add before (32 ∷ after) 1)))

-- the text after the first space is the end of the text, and empty where there is no space
drop_is_end : {A : Type 0} (n : ℕ) (xs : List A) → (drop n xs ≡ drop (length xs - length (drop n xs)) xs) × (length (drop n xs) ≤ length xs)
drop_is_end zero xs =
    let none : length xs - length xs ≡ 0 = omega arith in
    (rw none refl, omega arith)
drop_is_end (suc n) [] = (refl, omega arith)
drop_is_end (suc n) (x ∷ xs) =
    let rest = drop_is_end n xs in
    let one : length (x ∷ xs) - length (drop n xs) ≡ suc (length xs - length (drop n xs)) = omega (arith, rest.1) in
    (rw one rest.0, omega (arith, rest.1))

pub after_is_end : (text after : List ℕ) → after ≡ after_space text → after ≡ drop (length text - length after) text
after_is_end text after is = rw is (drop_is_end (position_or_len is_space text + 1) text).0

pub after_is_short : (text after : List ℕ) → after ≡ after_space text → length after ≤ length text
after_is_short text after is = rw is (drop_is_end (position_or_len is_space text + 1) text).1

pub unspaced_request : (text : List ℕ) → position_or_len is_space text ≡ length text → request_fault text ≡ Some reason.BadExchange
unfolding is_request
unspaced_request text whole = rw (no_cut 32 text whole) refl

pub unspaced_param : (text : List ℕ) → position_or_len is_space text ≡ length text → is_param text ≡ false
unfolding is_param
unspaced_param text whole = rw (no_cut 32 text whole) refl

module _ (text method target : List ℕ) (cut : IsCut 32 text method target) where
  request_is : is_request text ≡ (not (has_space target) && is_method method)
  unfolding is_request
  request_is = rw (cut_has text method target cut, cut.before_is, cut.after_is) refl

  pub spaced_target : has_space target ≡ true → request_fault text ≡ Some reason.BadExchange
  spaced_target spaced = rw (request_is, spaced) refl

  pub no_method : (r : LineFault) → has_space target ≡ false → unless (is_method method) reason.BadExchange ≡ Some r → request_fault text ≡ Some r
  no_method r plain none =
      let test = not_met (is_method method) reason.BadExchange r none in
      rw (request_is, plain, test.0, test.1) refl

  target_tested : has_space target ≡ false → unless (is_method method) reason.BadExchange ≡ None → request_fault text ≡ target_fault (target_of target)
  target_tested plain is =
      let test = met (is_method method) reason.BadExchange is in
      rw (request_is, plain, test, cut.after_is) refl

  pub no_target : (r : LineFault) → has_space target ≡ false → unless (is_method method) reason.BadExchange ≡ None → target_fault (target_of target) ≡ Some r → request_fault text ≡ Some r
  no_target r plain is none = target_tested plain is ∙ none

  pub asked_for : (t : Target) (m : List ℕ) → has_space target ≡ false → unless (is_method method) reason.BadExchange ≡ None → m ≡ method
      → target_fault (target_of target) ≡ None → target_of target ≡ Some t → (request_fault text ≡ None) × (bare_exchange m t ≡ new_exchange text)
  asked_for t m plain is same none reads =
      let here : target_of (after_space text) ≡ Some t = ap target_of (sym cut.after_is) ∙ reads in
      let named_count : m ≡ before_space text = same ∙ cut.before_is in
      (target_tested plain is ∙ none, rw (here, named_count) refl)

module _ (text name value : List ℕ) (cut : IsCut 32 text name value) where
  param_is : is_param text ≡ (not (length name == 0) && (is_utf8 name && is_utf8 value))
  unfolding is_param
  param_is = rw (cut_has text name value cut, cut.before_is, cut.after_is) refl

  pub no_name : (length name == 0) ≡ true → unless (is_param text) reason.BadParam ≡ Some reason.BadParam
  no_name none = rw (param_is, none) refl

  pub name_refused : (r : LineFault) → (length name == 0) ≡ false → unless (is_utf8 name) reason.BadParam ≡ Some r → unless (is_param text) reason.BadParam ≡ Some r
  name_refused r some bad =
      let test = not_met (is_utf8 name) reason.BadParam r bad in
      rw (param_is, some, test.0, test.1) refl

  pub value_refused : (r : LineFault) → (length name == 0) ≡ false → unless (is_utf8 name) reason.BadParam ≡ None → unless (is_utf8 value) reason.BadParam ≡ Some r → unless (is_param text) reason.BadParam ≡ Some r
  value_refused r some good bad =
      let first = met (is_utf8 name) reason.BadParam good in
      let test = not_met (is_utf8 value) reason.BadParam r bad in
      rw (param_is, some, first, test.0, test.1) refl

  pub param_read : (n v : List ℕ) → (length name == 0) ≡ false → unless (is_utf8 name) reason.BadParam ≡ None → unless (is_utf8 value) reason.BadParam ≡ None → n ≡ name → v ≡ value
      → (unless (is_param text) reason.BadParam ≡ None) × (record { name = n; value = v } ≡ param_of text)
  param_read n v some good fine same alike =
      let first = met (is_utf8 name) reason.BadParam good in
      let second = met (is_utf8 value) reason.BadParam fine in
      (rw (param_is, some, first, second) refl, rw (same, alike, cut.before_is, cut.after_is) refl)
