-- The lines of a map whose names stand in increasing order are those of its values, in the order of the map.
use Rattle.std.proofs.Common.{◌≡◌, refl, ap, sym, subst, ℕ, Bool, true, false, map, List, [], ◌∷◌, ◌++◌, ◌∙◌}
use Rattle.std.specs.Prelude.{◌&&◌, bytes_eq, flat_map}
use Rattle.std.specs.Cmp.{IsStrictWeakOrder}
use Rattle.std.proofs.lemmas.Bool.{cond-true}
use Rattle.std.proofs.lemmas.Cmp.{nat_list_cmp_total}
use Rattle.std.proofs.lemmas.List.Concat.{flat_map-append}
use Rattle.std.proofs.lemmas.List.Sorted.{ranks_by}
use Rattle.std.proofs.lemmas.Slice.Eq.{bytes_eq-Decides}
use Rattle.http_header.specs.FieldValue.{FieldValue}
use Rattle.http_header.specs.HeaderMap.{Entries, keys, pairs}
use Rattle.web_request_log.specs.SortedNames.{before, sorted_names, with_name}
use Rattle.cli_print.specs.HeaderLines.{header_line, header_lines, is_increasing, is_increasing_from, name_lines, pair_line}

order : IsStrictWeakOrder before
order = ranks_by nat_list_cmp_total (λ x. x)

left : (a b : Bool) → (a && b) ≡ true → a ≡ true
left true b e = refl
left false b e = absurd (cc)

right : (a b : Bool) → (a && b) ≡ true → b ≡ true
right true b e = e
right false b e = absurd (cc)

-- ---- names in increasing order are sorted

sorted_from : (a : List ℕ) (names : List (List ℕ)) → is_increasing_from a names ≡ true → sorted_names (a ∷ names) ≡ a ∷ names
sorted_from a [] e = refl
sorted_from a (b ∷ names) e =
    ap (with_name a) (sorted_from b names (right (before a b) (is_increasing_from b names) e))
    ∙ cond-true (before a b) (a ∷ b ∷ names) (b ∷ with_name a names) (left (before a b) (is_increasing_from b names) e)

-- ---- and none of them stands twice

holds_unless : (t : Bool) → (t ≡ false → false ≡ true) → t ≡ true
holds_unless true f = refl
holds_unless false f = f refl

fails_unless : (t : Bool) → (t ≡ true → true ≡ false) → t ≡ false
fails_unless true f = f refl
fails_unless false f = refl

chained : (a b c : List ℕ) → before a b ≡ true → before b c ≡ true → before a c ≡ true
chained a b c e f = holds_unless (before a c) (λ not. sym (order.chain b a c (order.one_way a b e) not) ∙ f)

other_name : (a b : List ℕ) → before a b ≡ true → bytes_eq a b ≡ false
other_name a b e = fails_unless (bytes_eq a b) (λ same.
    let itself : before a a ≡ true = subst (λ x. before a x ≡ true) (sym ((bytes_eq-Decides a b).0 same)) e in
    sym itself ∙ order.one_way a a itself)

-- ---- the lines of the values of a name

value_lines : (name : List ℕ) (values : List FieldValue)
    → flat_map pair_line (map (λ value. (name, value)) values) ≡ flat_map (header_line name) values
value_lines name [] = refl
value_lines name (value ∷ values) = ap (λ l. header_line name value ++ l) (value_lines name values)

head_lines : (name : List ℕ) (values : List FieldValue) (h : Entries FieldValue)
    → flat_map pair_line (map (λ value. (name, value)) values) ≡ name_lines ((name, values) ∷ h) name
head_lines name values h = rw ((bytes_eq-Decides name name).1 refl) (value_lines name values)

-- an entry of a name before them changes nothing
tail_lines : (a b : List ℕ) (values : List FieldValue) (names : List (List ℕ)) (h : Entries FieldValue)
    → before a b ≡ true → is_increasing_from b names ≡ true → flat_map (name_lines ((a, values) ∷ h)) (b ∷ names) ≡ flat_map (name_lines h) (b ∷ names)
tail_lines a b values [] h e f = rw (other_name a b e) refl
tail_lines a b values (c ∷ names) h e f =
    rw (other_name a b e)
    (ap (λ l. name_lines h b ++ l)
    (tail_lines a c values names h (chained a b c e (left (before b c) (is_increasing_from c names) f)) (right (before b c) (is_increasing_from c names) f)))

lines_from : (a : List ℕ) (values : List FieldValue) (h : Entries FieldValue) → is_increasing_from a (keys h) ≡ true
    → flat_map pair_line (pairs ((a, values) ∷ h)) ≡ flat_map (name_lines ((a, values) ∷ h)) (a ∷ keys h)
lines_from a values [] e = flat_map-append pair_line (map (λ value. (a, value)) values) [] ∙ ap (λ l. l ++ []) (head_lines a values [])
lines_from a values (b ∷ h) e =
    flat_map-append pair_line (map (λ value. (a, value)) values) (pairs (b ∷ h))
    ∙ ap (λ l. l ++ flat_map pair_line (pairs (b ∷ h))) (head_lines a values (b ∷ h))
    ∙ ap (λ l. name_lines ((a, values) ∷ b ∷ h) a ++ l)
    (lines_from b.0 b.1 h (right (before a b.0) (is_increasing_from b.0 (keys h)) e)
    ∙ sym (tail_lines a b.0 values (keys h) (b ∷ h) (left (before a b.0) (is_increasing_from b.0 (keys h)) e) (right (before a b.0) (is_increasing_from b.0 (keys h)) e)))

pub increasing_lines : (h : Entries FieldValue) → is_increasing (keys h) ≡ true → flat_map pair_line (pairs h) ≡ header_lines h
increasing_lines [] e = refl
increasing_lines (entry ∷ h) e =
    lines_from entry.0 entry.1 h e ∙ ap (λ names. flat_map (name_lines (entry ∷ h)) names) (sym (sorted_from entry.0 (keys h) e))
