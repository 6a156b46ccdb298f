-- The rows of a table that are left.
use Rattle.std.proofs.Common.{Bor, ◌≡◌, ◌∙◌, ◌<◌, ℕ, ◌+◌, List, [], ◌∷◌, Bool, true, false, drop, get_or, length, ap, sym, drop-cons, add-one, if◌then◌else◌}
use Rattle.std.specs.Str.{str_eq_ignore_ascii_case}
use Rattle.std.proofs.lemmas.Bool.{and_parts}
use Rattle.http_header.specs.FieldValue.{is_visible_text}
use Rattle.web_folders.specs.FileMediaTypes.{are_visible, media_type_in, plain_rows}

left-cons : {A : Type 0} (rows : List A) (i : ℕ) (d : A) → i < length rows → drop i rows ≡ get_or rows i d ∷ drop (i + 1) rows
left-cons rows i d at = drop-cons rows i d at ∙ ap (λ k. get_or rows i d ∷ drop k rows) (sym (add-one i))

abbrev pub Borrowed : Type 0
Borrowed = Bor (List ℕ) × Bor (List ℕ)

row_type : List ℕ → Bool → List ℕ → List ℕ
row_type type_ b rest = if b then type_ else rest

-- the row at this place has the extension
pub type-found : (rows : List Borrowed) (i : ℕ) (extension : List ℕ) (d : Borrowed) → i < length rows → str_eq_ignore_ascii_case extension (get_or rows i d).0.now ≡ true → media_type_in (plain_rows (drop i rows)) extension ≡ (get_or rows i d).1.now
unfolding row_type
type-found rows i extension d at h =
    ap (λ rs. media_type_in (plain_rows rs) extension) (left-cons rows i d at)
    ∙ ap (λ b. row_type (get_or rows i d).1.now b (media_type_in (plain_rows (drop (i + 1) rows)) extension)) h

-- it has another
pub type-behind : (rows : List Borrowed) (i : ℕ) (extension : List ℕ) (d : Borrowed) → i < length rows → str_eq_ignore_ascii_case extension (get_or rows i d).0.now ≡ false → media_type_in (plain_rows (drop i rows)) extension ≡ media_type_in (plain_rows (drop (i + 1) rows)) extension
unfolding row_type
type-behind rows i extension d at h =
    ap (λ rs. media_type_in (plain_rows rs) extension) (left-cons rows i d at)
    ∙ ap (λ b. row_type (get_or rows i d).1.now b (media_type_in (plain_rows (drop (i + 1) rows)) extension)) h

empty_text : Bor (List ℕ)
empty_text = record { ref_ptr = (0, 0); now = [] }

-- the rows behind one are visible too
pub visible-behind : (rows : List Borrowed) (i : ℕ) → i < length rows → are_visible (plain_rows (drop i rows)) ≡ true → are_visible (plain_rows (drop (i + 1) rows)) ≡ true
visible-behind rows i at h =
    let row : Borrowed = get_or rows i (empty_text, empty_text) in
    (and_parts (is_visible_text row.1.now) (are_visible (plain_rows (drop (i + 1) rows))) (ap (λ rs. are_visible (plain_rows rs)) (sym (left-cons rows i (empty_text, empty_text) at)) ∙ h)).1
