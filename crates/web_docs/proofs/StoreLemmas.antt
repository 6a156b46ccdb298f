-- What a store has under a path, and how it is filled.
use Rattle.std.proofs.Common.{◌≡◌, ◌⊎◌, ℕ, Bool, true, false, ◌||◌, List, [], ◌∷◌, ◌++◌, Option, None, Some, Err, is_some, refl, sym, ap, subst, ◌∙◌, inl, inr}
use Rattle.std.specs.Prelude.{map, cond, string_bytes, if◌then◌else◌}
use Rattle.std.specs.List.{list_any}
use Rattle.std.specs.Ordering.{nat_cmp, is_eq, eq_by_cmp}
use Rattle.std.specs.Str.{bytes_eq}
use Rattle.std.specs.String.{string_eq}
use Rattle.std.specs.HashMap.{HashMap, Updates}
use Rattle.std.specs.Map.{lookup}
use Rattle.std.specs.Cmp.Lexicographic.{slice_cmp, nat_list_cmp_total, nat_list_eq_equiv}
use Rattle.std.specs.declared.string.String.{String}
use Rattle.std.specs.FinMap.{contains_key, find, from_entries, from_entries_push, get, get-from_entries, get-insert, insert, nat_cmp-IsAntisymmetric, same_map, slice_cmp-IsAntisymmetric}
use Rattle.std.proofs.lemmas.Bool.{false≢true}
use Rattle.std.proofs.lemmas.Map.Text.{hash_map_updates_text, is_eq-slice_cmp}
use Rattle.std.proofs.lemmas.List.{map-append}
use Rattle.web_texts.specs.declared.memory.Fail.{Fail}
use Rattle.web_texts.specs.declared.memory.Fail.TheVariants as fail
use Rattle.web_docs.specs.Documents.{StoresDocument, has_field_values}
use Rattle.web_docs.specs.Stores.{AddsDocument, Documents, HasNoFault, IsFirstFault, MakesStore, fault_behind, fault_beside, store_of}
use Rattle.web_docs.specs.TextMaps.{by_text}
use Rattle.web_docs.specs.declared.document.Document.{Document}
use Rattle.web_docs.specs.declared.document.StoreFault.{StoreFault}
use Rattle.web_docs.specs.declared.document.StoreFault.TheVariants as fault

-- ---- the map of a store

-- the first entry of these bytes is found by either test
found_text : {X Y : Type 0} (es : List (String Y × X)) (q : List ℕ) → find (slice_cmp nat_cmp) q (map (λ (e : String Y × X). (string_bytes e.0, e.1)) es) ≡ lookup (λ k. bytes_eq q (string_bytes k)) es
found_text [] q = refl
found_text (e ∷ es) q =
    ap (λ b. cond b (Some e.1) (find (slice_cmp nat_cmp) q (map (λ e. (string_bytes e.0, e.1)) es))) (is_eq-slice_cmp q (string_bytes e.0))
    ∙ ap (cond (bytes_eq q (string_bytes e.0)) (Some e.1)) (found_text es q)

pub got_text : {X Y : Type 0} (es : List (String Y × X)) (q : List ℕ) → get (by_text es) q ≡ lookup (λ k. bytes_eq q (string_bytes k)) es
got_text es q = get-from_entries nat_list_cmp_total _ q ∙ found_text es q

paths_same : (q k : List ℕ) → bytes_eq k q ≡ eq_by_cmp (slice_cmp nat_cmp) q k
paths_same q k = nat_list_eq_equiv.symm k q ∙ sym (is_eq-slice_cmp q k)

pub inserted : {X Y S : Type 0} (m n : HashMap (String Y) X S) (k : String Y) (x : X) → Updates string_eq m n k (Some x) → by_text n.entries ≡ insert (by_text m.entries) (string_bytes k) x
inserted m n k x updates = same_map nat_list_cmp_total (slice_cmp-IsAntisymmetric nat_cmp-IsAntisymmetric) _ _ (λ q.
    got_text n.entries q
    ∙ hash_map_updates_text (string_bytes k) m n (Some x) updates q
    ∙ ap (λ b. cond b (Some x) (lookup (λ k. bytes_eq q (string_bytes k)) m.entries)) (paths_same q (string_bytes k))
    ∙ sym (get-insert nat_list_cmp_total (by_text m.entries) (string_bytes k) x q
    ∙ ap (cond (eq_by_cmp (slice_cmp nat_cmp) q (string_bytes k)) (Some x)) (got_text m.entries q)))

-- ---- filling

some_or : {X : Type 0} (b : Bool) (x : X) (o : Option X) → is_some (cond b (Some x) o) ≡ (b || is_some o)
some_or true x o = refl
some_or false x o = refl

held : (ds : List Document) (p : List ℕ) → is_some (find (slice_cmp nat_cmp) p (map (λ (d : Document). (d.path, d)) ds)) ≡ list_any (λ e. bytes_eq p e.path) ds
held [] p = refl
held (d ∷ ds) p =
    some_or (is_eq (slice_cmp nat_cmp p d.path)) d _
    ∙ ap (λ b. b || is_some (find (slice_cmp nat_cmp) p (map (λ (d : Document). (d.path, d)) ds))) (is_eq-slice_cmp p d.path)
    ∙ ap (λ b. bytes_eq p d.path || b) (held ds p)

has_path : (ds : List Document) (p : List ℕ) → contains_key (store_of ds) p ≡ list_any (λ e. bytes_eq p e.path) ds
has_path ds p = ap is_some (get-from_entries nat_list_cmp_total _ p) ∙ held ds p

same_fault : (before : List Document) (d : Document) → fault_beside (store_of before) d ≡ fault_behind before d
same_fault before d = ap (λ b. if b then Some (fault.DuplicatePath d.path) else if has_field_values d then None else Some (fault.Value d.path)) (has_path before d.path)

none_of : {X : Type 0} (o : Option X) → is_some o ≡ false → o ≡ None
none_of None is = refl
none_of (Some x) is = absurd (false≢true (sym is))

new_path : (before : List Document) (d : Document) (b : Bool) → list_any (λ e. bytes_eq d.path e.path) before ≡ b → fault_behind before d ≡ None → b ≡ false
new_path before d false is none = refl
new_path before d true is none = absurd (cc)

pushed : (before : List Document) (d : Document) → fault_behind before d ≡ None → insert (store_of before) d.path d ≡ store_of (before ++ d ∷ [])
pushed before d none =
    sym (ap (λ es. from_entries {R = slice_cmp nat_cmp} es) (map-append (λ (d : Document). (d.path, d)) before (d ∷ []))
    ∙ from_entries_push nat_list_cmp_total (slice_cmp-IsAntisymmetric nat_cmp-IsAntisymmetric) _ d.path d
    (none_of _ (held before d.path ∙ new_path before d _ refl none)))

none_before : (front : List Document) (y : Document) (back : List Document) → [] ≡ front ++ y ∷ back → ⊥
none_before [] y back is = cc
none_before (z ∷ front) y back is = cc

-- a list with one more at its end, split elsewhere
record EndsHere (xs : List Document) (x : Document) (front : List Document) (y : Document) (back : List Document) : Type 0 where
  front_is : front ≡ xs
  here : y ≡ x

split_push : (xs : List Document) (x : Document) (front : List Document) (y : Document) (back : List Document) → xs ++ x ∷ [] ≡ front ++ y ∷ back → EndsHere xs x front y back ⊎ ((rest : List Document) × (xs ≡ front ++ y ∷ rest))
split_push [] x [] y back is = inl (record { front_is = refl; here = cc })
split_push [] x (z ∷ front) y [] is = absurd (none_before front y [] (cc))
split_push [] x (z ∷ front) y (w ∷ back) is = absurd (none_before front y (w ∷ back) (cc))
split_push (u ∷ xs) x [] y back is = inr (xs, cc)
split_push (u ∷ xs) x (z ∷ front) y back is =
    elim (split_push xs x front y back (cc)) [
      | inl e ↦ inl (record { front_is = cc; here = e.here })
      | inr r ↦ inr (r.0, cc)
    ]

pub no_fault : HasNoFault []
no_fault before d after is = absurd (none_before before d after is)

no_fault_push : (before : List Document) (d : Document) → HasNoFault before → fault_behind before d ≡ None → HasNoFault (before ++ d ∷ [])
no_fault_push before d sound none front e back is =
    elim (split_push before d front e back is) [
      | inl h ↦ subst (λ ds. fault_behind ds e ≡ None) (sym h.front_is) (subst (λ x. fault_behind before x ≡ None) (sym h.here) none)
      | inr r ↦ sound front e r.0 r.1
    ]

-- ---- steps

pub has_text : {X Y : Type 0} (es : List (String Y × X)) (q : List ℕ) → contains_key (by_text es) q ≡ is_some (lookup (λ k. bytes_eq q (string_bytes k)) es)
has_text es q = ap is_some (got_text es q)

module _ (store : Documents) (d : Document) where
  pub beside_duplicate : contains_key store d.path ≡ true → fault_beside store d ≡ Some (fault.DuplicatePath d.path)
  beside_duplicate h = ap (λ b. if b then Some (fault.DuplicatePath d.path) else if has_field_values d then None else Some (fault.Value d.path)) h

  pub beside_value : contains_key store d.path ≡ false → has_field_values d ≡ false → fault_beside store d ≡ Some (fault.Value d.path)
  beside_value h k =
      ap (λ b. if b then Some (fault.DuplicatePath d.path) else if has_field_values d then None else Some (fault.Value d.path)) h
      ∙ ap (λ b. if b then None else Some (fault.Value d.path)) k

  pub beside_none : contains_key store d.path ≡ false → has_field_values d ≡ true → fault_beside store d ≡ None
  beside_none h k =
      ap (λ b. if b then Some (fault.DuplicatePath d.path) else if has_field_values d then None else Some (fault.Value d.path)) h
      ∙ ap (λ b. if b then None else Some (fault.Value d.path)) k

  pub beside_refused : (e : Fail StoreFault) (new : Documents) → contains_key store d.path ≡ false → StoresDocument d (Err e) → AddsDocument store d (Err e) new
  beside_refused fail.NoMemory new h says = tt
  beside_refused (fail.Of f) new h says = beside_value h says.1 ∙ ap Some (sym says.0)

module _ (before : List Document) (d : Document) (store : Documents) (is : store ≡ store_of before) where
  pub fault_is : fault_beside store d ≡ fault_behind before d
  fault_is = ap (λ s. fault_beside s d) is ∙ same_fault before d

  pub sound_step : HasNoFault before → fault_beside store d ≡ None → HasNoFault (before ++ d ∷ [])
  sound_step sound none = no_fault_push before d sound (sym fault_is ∙ none)

  pub store_step : (new : Documents) → new ≡ insert store d.path d → fault_beside store d ≡ None → new ≡ store_of (before ++ d ∷ [])
  store_step new added none = added ∙ ap (λ s. insert s d.path d) is ∙ pushed before d (sym fault_is ∙ none)

  pub first_fault : (documents rest : List Document) (f : StoreFault) → before ++ d ∷ rest ≡ documents → HasNoFault before → fault_beside store d ≡ Some f → IsFirstFault documents f
  first_fault documents rest f parts sound wrong =
      record { before = before; document = d; after = rest; parts = sym parts; sound = sound; wrong = sym fault_is ∙ wrong }

  pub first_refused : (documents items rest : List Document) (e : Fail StoreFault) (new : Documents) → before ++ items ≡ documents → items ≡ d ∷ rest → HasNoFault before → AddsDocument store d (Err e) new → MakesStore documents (Err e)
  first_refused documents items rest fail.NoMemory new parts next sound says = tt
  first_refused documents items rest (fail.Of f) new parts next sound says =
      first_fault documents rest f (sym (ap (λ xs. before ++ xs) next) ∙ parts) sound says
