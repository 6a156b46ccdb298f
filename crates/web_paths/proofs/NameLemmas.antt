-- Lemmas on a name more, and on a text after the last name.
use Rattle.std.proofs.Common.{◌≡◌, ◌∙◌, ℕ, ◌==◌, ◌&&◌, ◌<◌, Bool, true, false, not, List, [], ◌∷◌, ◌++◌, map, length, get_or, Bor, sym, ap, refl, append_assoc, Option, None, Some, if◌then◌else◌, arith}
use Rattle.std.specs.List.{list_all, All}
use Rattle.std.proofs.lemmas.Bool.{true≢false, and_parts, and_from, and_left, and_right, not-true, eqb-true}
use Rattle.std.proofs.Math.Dec.{eqb-suc-zero}
use Rattle.std.proofs.lemmas.List.{map-append}
use Rattle.std.proofs.lemmas.List.Folds.{list_all-append, list_all_at}
use Rattle.std.proofs.lemmas.List.Elements.{All-nil, All-cons}
use Rattle.std.proofs.lemmas.List.Splits.{length-slice_split, slice_split_none, slice_split_at}
use Rattle.web_paths.specs.declared.names.HiddenNames.{HiddenNames}
use Rattle.web_paths.specs.declared.names.HiddenNames.TheVariants.{Allowed}
use Rattle.web_paths.specs.FileNames.{is_dots, is_file_name, is_name_byte}
use Rattle.web_paths.specs.PathsBelow.{NamesBelow, are_some_names, child_of, joined, names_in, one_more, segments, sibling_of, with_ending}
use Rattle.web_paths.proofs.PathLemmas.{is_file_name-Allowed, joined-names_in, joined-push, names_in-joined}

-- one name more after a text that is not empty
pub one_more-slash : (text name : List ℕ) → (length text == 0) ≡ false → text ++ 47 ∷ name ≡ one_more text name
one_more-slash [] name h = absurd (true≢false h)
one_more-slash (b ∷ rest) name h = refl

pub one_more-none : (text name : List ℕ) → (length text == 0) ≡ true → text ++ name ≡ one_more text name
one_more-none [] name h = refl
one_more-none (b ∷ rest) name h = absurd (omega (arith, eqb-true (length (b ∷ rest)) 0 h))

are_valid : List (List ℕ) → Bool
are_valid names = list_all (is_file_name Allowed) names

pub valid-push : (names : List (List ℕ)) (name : List ℕ) → list_all (is_file_name Allowed) names ≡ true → is_file_name Allowed name ≡ true → list_all (is_file_name Allowed) (names ++ name ∷ []) ≡ true
valid-push names name all one =
    list_all-append (is_file_name Allowed) names (name ∷ [])
    ∙ and_from (list_all (is_file_name Allowed) names) (is_file_name Allowed name && true) all (and_from (is_file_name Allowed name) true one refl)

-- one name more in a loop over names
pub valid-turn : (names : List (Bor (List ℕ))) (name : Bor (List ℕ)) → list_all (is_file_name Allowed) (map (λ x. x.now) names) ≡ true → is_file_name Allowed name.now ≡ true → list_all (is_file_name Allowed) (map (λ x. x.now) (names ++ name ∷ [])) ≡ true
valid-turn names name all one =
    ap (list_all (is_file_name Allowed)) (map-append (λ x. x.now) names (name ∷ [])) ∙ valid-push (map (λ x. x.now) names) name.now all one

pub valid-refused : (all : List (List ℕ)) (i : ℕ) (name : List ℕ) → (i < length all) × (name ≡ get_or all i name) → is_file_name Allowed name ≡ false → false ≡ list_all (is_file_name Allowed) all
valid-refused all i name at refused =
    sym (list_all_at (is_file_name Allowed) all i name at.0 (ap (is_file_name Allowed) (sym at.1) ∙ refused))

-- the names of a text with one more
pub names_in-one_more : (text name : List ℕ) → list_all (is_file_name Allowed) (names_in text) ≡ true → is_file_name Allowed name ≡ true → names_in (one_more text name) ≡ names_in text ++ name ∷ []
names_in-one_more text name all one =
    ap (λ t. names_in (one_more t name)) (sym (joined-names_in text))
    ∙ ap names_in (sym (joined-push (names_in text) name all))
    ∙ names_in-joined (names_in text ++ name ∷ []) (valid-push (names_in text) name all one)

-- ---- a text after the last name

-- the text of names is that of the others with it
pub joined-with_ending : (x : List ℕ) (xs : List (List ℕ)) (ending : List ℕ) → joined (with_ending (x ∷ xs) ending) ≡ joined (x ∷ xs) ++ ending
joined-with_ending x [] ending = refl
joined-with_ending x (y ∷ []) ending = sym (append_assoc x (47 ∷ y) ending)
joined-with_ending x (y ∷ z ∷ zs) ending =
    ap (λ t. x ++ 47 ∷ t) (joined-with_ending y (z ∷ zs) ending) ∙ sym (append_assoc x (47 ∷ joined (y ∷ z ∷ zs)) ending)

has_bytes : List ℕ → Bool
has_bytes name = list_all is_name_byte name

bytes_of : (name : List ℕ) → is_file_name Allowed name ≡ true → list_all is_name_byte name ≡ true
bytes_of name h = (and_parts (not (is_dots name) && true) (list_all is_name_byte name) h).1

pub bytes-with_ending : (names : List (List ℕ)) (ending : List ℕ) → list_all (is_file_name Allowed) names ≡ true → list_all is_name_byte ending ≡ true → list_all (λ n. list_all is_name_byte n) (with_ending names ending) ≡ true
bytes-with_ending [] ending all h = refl
bytes-with_ending (x ∷ []) ending all h =
    let one = bytes_of x (and_parts (is_file_name Allowed x) true all).0 in
    and_from (list_all is_name_byte (x ++ ending)) true (list_all-append is_name_byte x ending ∙ and_from (list_all is_name_byte x) (list_all is_name_byte ending) one h) refl
bytes-with_ending (x ∷ y ∷ ys) ending all h =
    let parts = and_parts (is_file_name Allowed x) (list_all (is_file_name Allowed) (y ∷ ys)) all in
    and_from (list_all is_name_byte x) (list_all (λ n. list_all is_name_byte n) (with_ending (y ∷ ys) ending)) (bytes_of x parts.0) (bytes-with_ending (y ∷ ys) ending parts.1 h)

no_slash : (name : List ℕ) → list_all is_name_byte name ≡ true → All (λ b. (b == 47) ≡ false) name
no_slash [] h = All-nil (λ b. (b == 47) ≡ false)
no_slash (b ∷ name) h =
    let parts = and_parts (is_name_byte b) (list_all is_name_byte name) h in
    All-cons (λ b. (b == 47) ≡ false) b name (not-true (b == 47) (and_parts (not (b == 47)) (not (b == 0)) parts.0).0) (no_slash name parts.1)

-- the segments of a text that is joined of what has no slash
segments-of : (x : List ℕ) (xs : List (List ℕ)) → list_all (λ n. list_all is_name_byte n) (x ∷ xs) ≡ true → segments (joined (x ∷ xs)) ≡ x ∷ xs
segments-of x [] h = slice_split_none (λ b. b == 47) x (no_slash x (and_parts (list_all is_name_byte x) true h).0)
segments-of x (y ∷ ys) h =
    let parts = and_parts (list_all is_name_byte x) (list_all (λ n. list_all is_name_byte n) (y ∷ ys)) h in
    slice_split_at (λ b. b == 47) x 47 (joined (y ∷ ys)) (no_slash x parts.0) refl ∙ ap (λ t. x ∷ t) (segments-of y ys parts.1)

pub segments-with_ending : (names : List (List ℕ)) (ending : List ℕ) → 0 < length names → list_all (is_file_name Allowed) names ≡ true → list_all is_name_byte ending ≡ true → segments (joined names ++ ending) ≡ with_ending names ending
segments-with_ending [] ending some all h = absurd (omega arith)
segments-with_ending (x ∷ []) ending some all h = segments-of (x ++ ending) [] (bytes-with_ending (x ∷ []) ending all h)
segments-with_ending (x ∷ y ∷ []) ending some all h =
    ap segments (sym (joined-with_ending x (y ∷ []) ending)) ∙ segments-of x ((y ++ ending) ∷ []) (bytes-with_ending (x ∷ y ∷ []) ending all h)
segments-with_ending (x ∷ y ∷ z ∷ zs) ending some all h =
    ap segments (sym (joined-with_ending x (y ∷ z ∷ zs) ending)) ∙ segments-of x (with_ending (y ∷ z ∷ zs) ending) (bytes-with_ending (x ∷ y ∷ z ∷ zs) ending all h)

-- no name may have it
refused_last : (x ending : List ℕ) → list_all is_name_byte ending ≡ false → is_file_name Allowed (x ++ ending) ≡ false
refused_last x ending h =
    and_right (not (is_dots (x ++ ending)) && true) (list_all is_name_byte (x ++ ending)) (list_all-append is_name_byte x ending ∙ and_right (list_all is_name_byte x) (list_all is_name_byte ending) h)

refused_all : (x : List ℕ) (xs : List (List ℕ)) (ending : List ℕ) → list_all is_name_byte ending ≡ false → list_all (is_file_name Allowed) (with_ending (x ∷ xs) ending) ≡ false
refused_all x [] ending h = and_left (is_file_name Allowed (x ++ ending)) true (refused_last x ending h)
refused_all x (y ∷ ys) ending h = and_right (is_file_name Allowed x) (list_all (is_file_name Allowed) (with_ending (y ∷ ys) ending)) (refused_all y ys ending h)

some_names : (names : List (List ℕ)) → 0 < length names → are_some_names names ≡ list_all (is_file_name Allowed) names
some_names [] some = absurd (omega arith)
some_names (x ∷ xs) some = refl

length-with_ending : (names : List (List ℕ)) (ending : List ℕ) → 0 < length names → 0 < length (with_ending names ending)
length-with_ending [] ending some = absurd (omega arith)
length-with_ending (x ∷ []) ending some = omega arith
length-with_ending (x ∷ y ∷ ys) ending some = omega arith

-- what the test decides
decided : List (List ℕ) → Bool → Option NamesBelow
decided names b = if b then Some (record { names = names; ends_in_slash = false }) else None

pub sibling-none : (below : NamesBelow) (ending : List ℕ) → below.names ≡ [] → None ≡ sibling_of below ending
unfolding decided
sibling-none below ending e = sym (ap (λ ns. decided (with_ending ns ending) (are_some_names (with_ending ns ending))) e)

pub sibling-bytes : (below : NamesBelow) (names : List (List ℕ)) (ending : List ℕ) → below.names ≡ names → 0 < length names → list_all is_name_byte ending ≡ false → None ≡ sibling_of below ending
unfolding decided
sibling-bytes below [] ending e some h = absurd (omega arith)
sibling-bytes below (x ∷ xs) ending e some h =
    sym (ap (λ ns. decided (with_ending ns ending) (are_some_names (with_ending ns ending))) e
    ∙ ap (decided (with_ending (x ∷ xs) ending)) (some_names (with_ending (x ∷ xs) ending) (length-with_ending (x ∷ xs) ending some) ∙ refused_all x xs ending h))

pub sibling-refused : (below : NamesBelow) (names : List (List ℕ)) (ending : List ℕ) → below.names ≡ names → 0 < length names → list_all (is_file_name Allowed) (with_ending names ending) ≡ false → None ≡ sibling_of below ending
unfolding decided
sibling-refused below names ending e some h =
    sym (ap (λ ns. decided (with_ending ns ending) (are_some_names (with_ending ns ending))) e
    ∙ ap (decided (with_ending names ending)) (some_names (with_ending names ending) (length-with_ending names ending some) ∙ h))

pub sibling-found : (below : NamesBelow) (names found : List (List ℕ)) (ending : List ℕ) → below.names ≡ names → 0 < length names → list_all (is_file_name Allowed) (with_ending names ending) ≡ true → found ≡ with_ending names ending → Some (record { names = found; ends_in_slash = false }) ≡ sibling_of below ending
unfolding decided
sibling-found below names found ending e some h is =
    ap (λ ns. Some (record { names = ns; ends_in_slash = false })) is
    ∙ sym (ap (λ ns. decided (with_ending ns ending) (are_some_names (with_ending ns ending))) e
    ∙ ap (decided (with_ending names ending)) (some_names (with_ending names ending) (length-with_ending names ending some) ∙ h))

-- a text that is not empty has a name
pub names_in-some : (text : List ℕ) → (length text == 0) ≡ false → 0 < length (names_in text)
names_in-some [] h = absurd (true≢false h)
names_in-some (b ∷ rest) h = omega (arith, length-slice_split (λ c. c == 47) (b ∷ rest))

pub names_in-segments : (text : List ℕ) → (length text == 0) ≡ false → names_in text ≡ segments text
names_in-segments [] h = absurd (true≢false h)
names_in-segments (b ∷ rest) h = refl

pub names_in-none : (text : List ℕ) → (length text == 0) ≡ true → names_in text ≡ []
names_in-none [] h = refl
names_in-none (b ∷ rest) h = absurd (omega (arith, eqb-true (length (b ∷ rest)) 0 h))

append-some : (text ending : List ℕ) → (length text == 0) ≡ false → (length (text ++ ending) == 0) ≡ false
append-some [] ending h = absurd (true≢false h)
append-some (b ∷ rest) ending h = eqb-suc-zero (length (rest ++ ending))

-- what the text with an ending comes to
pub segments-text : (text ending : List ℕ) → (length text == 0) ≡ false → list_all (is_file_name Allowed) (names_in text) ≡ true → list_all is_name_byte ending ≡ true → segments (text ++ ending) ≡ with_ending (names_in text) ending
segments-text text ending some all h =
    ap (λ t. segments (t ++ ending)) (sym (joined-names_in text)) ∙ segments-with_ending (names_in text) ending (names_in-some text some) all h

pub names_in-text : (text ending : List ℕ) → (length text == 0) ≡ false → list_all (is_file_name Allowed) (names_in text) ≡ true → list_all is_name_byte ending ≡ true → names_in (text ++ ending) ≡ with_ending (names_in text) ending
names_in-text text ending some all h =
    names_in-segments (text ++ ending) (append-some text ending some) ∙ segments-text text ending some all h

-- ---- a name more

child_decided : NamesBelow → List ℕ → Bool → Option NamesBelow
child_decided below name b = if b then Some (record { names = below.names ++ name ∷ []; ends_in_slash = false }) else None

pub child-refused : (hidden : HiddenNames) (below : NamesBelow) (name : List ℕ) → is_file_name hidden name ≡ false → None ≡ child_of hidden below name
unfolding child_decided
child-refused hidden below name h = sym (ap (child_decided below name) h)

pub child-found : (hidden : HiddenNames) (below : NamesBelow) (text path name : List ℕ) → names_in text ≡ below.names → list_all (is_file_name Allowed) (names_in text) ≡ true → is_file_name hidden name ≡ true → path ≡ one_more text name → Some (record { names = names_in path; ends_in_slash = false }) ≡ child_of hidden below name
unfolding child_decided
child-found hidden below text path name view all named e =
    ap (λ ns. Some (record { names = ns; ends_in_slash = false })) (ap names_in e ∙ names_in-one_more text name all (is_file_name-Allowed hidden name named) ∙ ap (λ ns. ns ++ name ∷ []) view)
    ∙ sym (ap (child_decided below name) named)

pub child-valid : (hidden : HiddenNames) (text path name : List ℕ) → list_all (is_file_name Allowed) (names_in text) ≡ true → is_file_name hidden name ≡ true → path ≡ one_more text name → list_all (is_file_name Allowed) (names_in path) ≡ true
child-valid hidden text path name all named e =
    let allowed = is_file_name-Allowed hidden name named in
    ap (λ t. list_all (is_file_name Allowed) (names_in t)) e
    ∙ ap (list_all (is_file_name Allowed)) (names_in-one_more text name all allowed)
    ∙ valid-push (names_in text) name all allowed
