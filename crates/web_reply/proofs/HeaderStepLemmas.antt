-- The tests of names, values and room decide what they say.
use Rattle.std.proofs.Common.{◌≡◌, ℕ, ◌≤◌, Bool, true, false, List, Option, Some, None, MatchOption, IsTrue, is_none, nat_le, refl, sym, ◌∙◌, inl, inr, arith}
use Rattle.std.specs.Prelude.{Ok, Err, length}
use Rattle.std.specs.Bool.{Decides}
use Rattle.std.specs.List.{list_all}
use Rattle.std.proofs.lemmas.Bool.{cases_Bool, false≢true}
use Rattle.std.proofs.lemmas.Bool.Decides.{Decides-and, Decides-or, Decides-by_and, Decides-ltb, nat_tests}
use Rattle.http_header.specs.Token.{AllPass, is_token_byte, is_value_byte, token_test, lowercase}
use Rattle.http_header.specs.FieldName.{IsFieldName, is_field_name}
use Rattle.http_header.specs.FieldValue.{FieldValue, IsFieldValue}
use Rattle.http_header.specs.HeaderMap.{ContainsKey, IsFullOfValues, RefusesAppend, RefusesInsert, append, index_of, insert}
use Rattle.http_header.specs.Places.{IsAbsent, IsAt}
use Rattle.http_header.proofs.PlacesLemmas.{index_of_cases}
use Rattle.web_reply.specs.HeaderSteps.{Headers, is_field_value, is_full_of_values, named, place, refuses_append, refuses_insert, valued}
use Rattle.web_reply.specs.declared.header_setting.Placing.TheVariants.{Replace, Append}
use Rattle.web_reply.specs.declared.errors.cause.HttpError.TheVariants.{Name, Value, MaxSize}

module _ {P : Type 0} (b : Bool) (decides : Decides b P) where
  pub is_true : P → b ≡ true
  is_true h = decides.1 h

  pub is_true_unless_false : ¬ (¬ P) → b ≡ true
  is_true_unless_false h =
      elim (cases_Bool b) [ inl t ↦ t | inr f ↦ absurd (h (λ p. absurd (false≢true (sym f ∙ decides.1 p)))) ]

  pub is_false : ¬ P → b ≡ false
  is_false n = elim (cases_Bool b) [ inl t ↦ absurd (n (decides.0 t)) | inr f ↦ f ]

le_decides : (a b : ℕ) → Decides (nat_le a b) (a ≤ b)
le_decides a b = (λ h. grind (arith, nat_tests), λ h. grind (arith, nat_tests))

pub value_decides : (bytes : List ℕ) → Decides (is_field_value bytes) (IsFieldValue bytes)
value_decides bytes =
    Decides-by_and is_value_byte (λ b. IsTrue (is_value_byte b)) is_field_value (λ b. (λ h. h, λ h. h)) refl (λ _ _. refl) bytes

tokens_decide : (bytes : List ℕ) → Decides (list_all token_test bytes) (AllPass is_token_byte bytes)
unfolding is_token_byte
tokens_decide bytes =
    Decides-by_and token_test (λ b. IsTrue (is_token_byte b)) (list_all token_test) (λ b. (λ h. h, λ h. h)) refl (λ _ _. refl) bytes

pub name_decides : (bytes : List ℕ) → Decides (is_field_name bytes) (IsFieldName bytes)
name_decides bytes =
    Decides-and _ _ (Decides-and _ _ (Decides-ltb 0 (length bytes)) (tokens_decide bytes)) (le_decides (length bytes) 65535)

absent_decides : (m : Headers) (name : List ℕ) → Decides (is_none (index_of m name)) (¬ (ContainsKey m name))
absent_decides m name = by (index_of m name) (index_of_cases m name)
  where
    by : (o : Option ℕ) → MatchOption o (IsAbsent m name) (IsAt m name) → Decides (is_none o) (¬ (ContainsKey m name))
    by None x = (λ _. x.absent, λ _. refl)
    by (Some i) x = (λ h. cc, λ n. absurd (n x.contains))

values_decide : (m : Headers) → Decides (is_full_of_values m) (IsFullOfValues m)
values_decide m = le_decides _ _

pub insert_decides : (m : Headers) (name : List ℕ) → Decides (refuses_insert m name) (RefusesInsert m name)
insert_decides m name =
    Decides-and _ _ (absent_decides m name) (Decides-or _ _ (le_decides 24576 (length m)) (values_decide m))

pub append_decides : (m : Headers) (name : List ℕ) → Decides (refuses_append m name) (RefusesAppend m name)
append_decides m name = Decides-or _ _ (values_decide m) (insert_decides m name)

module _ (m : Headers) (name : List ℕ) (value : FieldValue) where
  pub is_replaced : ¬ (RefusesInsert m name) → place Replace name value m ≡ Ok (insert m name value)
  is_replaced n = rw (is_false _ (insert_decides m name) n)

  pub is_not_replaced : RefusesInsert m name → place Replace name value m ≡ Err MaxSize
  is_not_replaced h = rw (is_true _ (insert_decides m name) h)

  pub is_appended : ¬ (RefusesAppend m name) → place Append name value m ≡ Ok (append m name value)
  is_appended n = rw (is_false _ (append_decides m name) n)

  pub is_not_appended : RefusesAppend m name → place Append name value m ≡ Err MaxSize
  is_not_appended h = rw (is_true _ (append_decides m name) h)

module _ (name : List ℕ) (value : FieldValue) where
  pub is_valued : IsFieldValue value.bytes → valued name value ≡ Ok (name, value)
  is_valued h = rw (is_true _ (value_decides value.bytes) h)

  pub is_not_valued : ¬ (IsFieldValue value.bytes) → valued name value ≡ Err Value
  is_not_valued n = rw (is_false _ (value_decides value.bytes) n)

  -- a reader that does not refuse a name shows no more than this
  pub is_named : ¬ (¬ (IsFieldName name)) → named name value ≡ valued (lowercase name) value
  is_named h = rw (is_true_unless_false _ (name_decides name) h)

  pub is_not_named : ¬ (IsFieldName name) → named name value ≡ Err Name
  is_not_named n = rw (is_false _ (name_decides name) n)
