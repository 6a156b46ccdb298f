-- The fields of a head.
use Rattle.std.proofs.Common.{◌≡◌, ℕ, zero, suc, ◌+◌, ◌≤◌, Bool, true, false, cond, List, [], ◌∷◌, ◌++◌, Option, None, Some, length, take, drop, refl, sym, ap, ◌∙◌}
use Rattle.std.specs.Bool.{Decides}
use Rattle.std.specs.Option.{option_map}
use Rattle.std.proofs.lemmas.Bool.Decides.{Decides-and, Decides-ltb, not_from_Decides}
use Rattle.std.proofs.lemmas.List.{append-nil, append_assoc}
use Rattle.std.proofs.lemmas.List.Sums.{AllPass-from_list_all, list_all-from_AllPass}
use Rattle.std.proofs.lemmas.Bool.{cond-true, cond-false, le-leb, leb-true}
use Rattle.std.specs.Prelude.{MatchBool, nat_le}
use Rattle.http_header.specs.FieldName.{IsFieldName}
use Rattle.http_header.specs.FieldValue.{IsFieldValue}
use Rattle.http_header.specs.Token.{is_token_byte, is_value_byte}
use Rattle.web_texts.specs.PieceItems.{is_empty, with_front}
use Rattle.web_texts.specs.TextReaders.{ReadsOr}
use Rattle.web_texts.specs.declared.errors.ParseError.{ParseError}
use Rattle.web_texts.specs.declared.memory.Fail.{Fail}
use Rattle.web_texts.specs.declared.memory.Fail.TheVariants as fail
use Rattle.web_multipart_parts.specs.Places.{place_of}
use Rattle.web_multipart_parts.specs.PartHeads.{and_fields, crlf, field_of, fields_from, fields_in, is_name, is_value, line_parts}
use Rattle.web_multipart_parts.specs.declared.part_head.HeadField.{HeadField}

-- ---- names and values

stable : (b : Bool) {P : Type 0} → Decides b P → ¬ (¬ P) → b ≡ true
stable true d h = refl
stable false d h = absurd (h (not_from_Decides false d refl))

refuted : (b : Bool) {P : Type 0} → Decides b P → ¬ P → b ≡ false
refuted true d h = absurd (h (d.0 refl))
refuted false d h = refl

le_decides : (a b : ℕ) → Decides (nat_le a b) (a ≤ b)
le_decides a b = (λ e. leb-true a b e, λ h. le-leb a b h)

name_decides : (text : List ℕ) → Decides (is_name text) (IsFieldName text)
unfolding is_name
name_decides text = Decides-and _ _ (Decides-and _ _ (Decides-ltb 0 (length text)) (AllPass-from_list_all is_token_byte text, list_all-from_AllPass is_token_byte text)) (le_decides (length text) 65535)

value_decides : (text : List ℕ) → Decides (is_value text) (IsFieldValue text)
unfolding is_value
value_decides text = (AllPass-from_list_all is_value_byte text, list_all-from_AllPass is_value_byte text)

pub name_read : (text : List ℕ) → ¬ (¬ (IsFieldName text)) → is_name text ≡ true
name_read text h = stable (is_name text) (name_decides text) h

pub name_unread : (text : List ℕ) → ¬ (IsFieldName text) → is_name text ≡ false
name_unread text h = refuted (is_name text) (name_decides text) h

pub value_read : (text : List ℕ) → ¬ (¬ (IsFieldValue text)) → is_value text ≡ true
value_read text h = stable (is_value text) (value_decides text) h

pub value_unread : (text : List ℕ) → ¬ (IsFieldValue text) → is_value text ≡ false
value_unread text h = refuted (is_value text) (value_decides text) h

-- ---- one line more

pub line_at : (text : List ℕ) (end : ℕ) → Some end ≡ place_of crlf text → Some (take end text, drop (end + 2) text) ≡ line_parts text
unfolding line_parts
line_at text end is = ap (λ p. option_map (λ n. (take n text, drop (n + 2) text)) p) is

pub no_line : (text : List ℕ) → None ≡ place_of crlf text → None ≡ line_parts text
unfolding line_parts
no_line text is = ap (λ p. option_map (λ n. (take n text, drop (n + 2) text)) p) is

fields_next : (n : ℕ) (text : List ℕ) (p : Option (List ℕ × List ℕ)) → p ≡ line_parts text → fields_in (suc n) text ≡ fields_from (fields_in n) p
unfolding fields_in
fields_next n text p is = ap (fields_from (fields_in n)) (sym is)

fields_last : (text : List ℕ) (p : Option (List ℕ × List ℕ)) → p ≡ line_parts text → fields_in 0 text ≡ fields_from (λ rest. None) p
unfolding fields_in
fields_last text p is = ap (fields_from (λ rest. None)) (sym is)

fields_none : (n : ℕ) (text : List ℕ) → None ≡ line_parts text → fields_in n text ≡ None
fields_none zero text is = fields_last text None is
fields_none (suc n) text is = fields_next n text None is

fields_done : (n : ℕ) (text line rest : List ℕ) → Some (line, rest) ≡ line_parts text → is_empty line ≡ true → fields_in n text ≡ Some []
fields_done zero text line rest is empty = fields_last text (Some (line, rest)) is ∙ cond-true (is_empty line) _ _ empty
fields_done (suc n) text line rest is empty = fields_next n text (Some (line, rest)) is ∙ cond-true (is_empty line) _ _ empty

with_push : (front : List HeadField) (f : HeadField) (rest : Option (List HeadField)) → with_front (front ++ f ∷ []) rest ≡ with_front front (and_fields (Some f) rest)
with_push front f None = refl
with_push front f (Some fields) = ap Some (append_assoc front (f ∷ []) fields)

none_follows : (f : Option HeadField) → and_fields f None ≡ None
none_follows None = refl
none_follows (Some f) = refl

module _ (text rest : List ℕ) (front : List HeadField) (left : ℕ) (so_far : with_front front (fields_in left rest) ≡ fields_in 16 text) where
  pub read_none : None ≡ line_parts rest → fields_in 16 text ≡ None
  read_none is = sym so_far ∙ ap (with_front front) (fields_none left rest is)

  module _ (line later : List ℕ) (is : Some (line, later) ≡ line_parts rest) where
    pub read_done : is_empty line ≡ true → fields_in 16 text ≡ Some front
    read_done empty = sym so_far ∙ (ap (with_front front) (fields_done left rest line later is empty) ∙ ap Some (append-nil front))

    module _ (more : is_empty line ≡ false) where
      module _ (n : ℕ) (one : left ≡ suc n) where
        line_next : fields_in left rest ≡ and_fields (field_of line) (fields_in n later)
        line_next = ap (λ k. fields_in k rest) one ∙ (fields_next n rest (Some (line, later)) is ∙ cond-false (is_empty line) _ _ more)

        pub read_bad : field_of line ≡ None → fields_in 16 text ≡ None
        read_bad bad = sym so_far ∙ ap (with_front front) (line_next ∙ ap (λ f. and_fields f (fields_in n later)) bad)

        -- the error of a line is that of the fields
        pub read_refused : (e : Fail ParseError) → ReadsOr e (field_of line) → ReadsOr e (fields_in 16 text)
        read_refused fail.NoMemory bad = tt
        read_refused (fail.Of e) bad = read_bad bad

        pub read_more : (f : HeadField) → field_of line ≡ Some f → with_front (front ++ f ∷ []) (fields_in n later) ≡ fields_in 16 text
        read_more f good =
            with_push front f (fields_in n later)
            ∙ (ap (with_front front) (sym (line_next ∙ ap (λ g. and_fields g (fields_in n later)) good)) ∙ so_far)

  -- no line more is allowed
  pub last_done : left ≡ 0 → fields_in 0 rest ≡ Some [] → fields_in 16 text ≡ Some front
  last_done none is = sym so_far ∙ (ap (with_front front) (ap (λ k. fields_in k rest) none ∙ is) ∙ ap Some (append-nil front))

  pub last_bad : left ≡ 0 → fields_in 0 rest ≡ None → fields_in 16 text ≡ None
  last_bad none is = sym so_far ∙ ap (with_front front) (ap (λ k. fields_in k rest) none ∙ is)

pub end_none : (text : List ℕ) → None ≡ line_parts text → fields_in 0 text ≡ None
end_none text is = fields_none 0 text is

end_by : (line rest : List ℕ) (b : Bool) → is_empty line ≡ b → fields_from (λ rest. None) (Some (line, rest)) ≡ cond b (Some []) None
end_by line rest true is = cond-true (is_empty line) _ _ is
end_by line rest false is = cond-false (is_empty line) _ _ is ∙ none_follows (field_of line)

match_end : (text : List ℕ) (b : Bool) → fields_in 0 text ≡ cond b (Some []) None → MatchBool b (fields_in 0 text ≡ Some []) (fields_in 0 text ≡ None)
match_end text true e = e
match_end text false e = e

pub end_some : (text line rest : List ℕ) → Some (line, rest) ≡ line_parts text → (b : Bool) → is_empty line ≡ b → MatchBool b (fields_in 0 text ≡ Some []) (fields_in 0 text ≡ None)
end_some text line rest is b empty = match_end text b (fields_last text (Some (line, rest)) is ∙ end_by line rest b empty)
