-- The tests of a target decide its grammar.
use Rattle.std.proofs.Common.{◌≡◌, ◌≢◌, ◌≤◌, ◌<◌, ◌⊎◌, ℕ, zero, suc, ◌-◌, ◌==◌, Bool, true, false, not, ◌&&◌, ◌||◌, List, [], ◌∷◌, ◌++◌, length, take, drop, get_or, Option, Some, None, cond, refl, ap, sym, ◌∙◌, subst, inl, inr, append_assoc, arith}
use Rattle.std.specs.Prelude.{nat_le, unwrap_or, slice_index, IfSome, IsUtf8, IsTrue}
use Rattle.std.specs.Bool.{Decides}
use Rattle.std.specs.List.{list_all}
use Rattle.std.specs.Str.{bytes_eq, is_utf8}
use Rattle.std.proofs.lemmas.Bool.Decides.{leb_tells, Decides-and, Decides-or, Decides-not, Decides-ltb, Decides-eqb, Decides-like, not_from_Decides}
use Rattle.std.proofs.lemmas.Slice.Eq.{bytes_eq-Decides}
use Rattle.std.proofs.lemmas.List.{append-nil}
use Rattle.std.proofs.lemmas.List.Sums.{AllPass-from_list_all, list_all-from_AllPass}
use Rattle.std.proofs.lemmas.Str.{IsUtf8-from_is_utf8, is_utf8-from_IsUtf8}
use Rattle.http_uri.specs.ByteClasses.{is_path_byte, is_query_byte, is_authority_byte, is_scheme_byte, is_delimiter, split_once_front, split_once_back, count_of}
use Rattle.http_uri.specs.Grammar.{AllPass, IsPathAndQuery, IsPathInput, IsAuthority, MayFollow, IsOriginForm, IsAbsoluteForm, IsScheme, IsTail, HasScheme, last_piece, without_fragment, normal_scheme, scheme_len, authority_len}
use Rattle.http_uri.proofs.UriLemmas.{cut_name, cut_rest, cut_authority, cut_tail, cut_scheme, absolute_from_cuts, none_of}
use Rattle.cli_script.specs.Targets.{IsReading, is_path_and_query, is_path_input, may_follow, each_follows, is_authority, is_origin, is_absolute, after_scheme, authority_after_scheme, text_after_authority, absolute_of, form_of, target_of}

pub le_decides : (a b : ℕ) → Decides (nat_le a b) (a ≤ b)
le_decides a b = elim (leb_tells a b) [
  | inl h ↦ (λ e. h.1, λ p. h.0)
  | inr h ↦ (λ e. absurd (cc), λ p. absurd (omega (arith, h.1)))
]

eq_decides : (a b : ℕ) → Decides (a == b) (a ≡ b)
eq_decides a b = Decides-eqb a b

given_decides : {P Q : Type 0} (x y : Bool) → Decides x P → Decides y Q → Decides (not x || y) (P → Q)
given_decides true y d k = (λ e p. k.0 e, λ f. k.1 (f (d.0 refl)))
given_decides false y d k = (λ e p. absurd (not_from_Decides false d refl p), λ f. refl)

pub all_decides : (p : ℕ → Bool) (xs : List ℕ) → Decides (list_all p xs) (AllPass p xs)
all_decides p xs = (AllPass-from_list_all p xs, list_all-from_AllPass p xs)

query_decides : (o : Option (List ℕ)) → Decides (list_all is_query_byte (unwrap_or o [])) (IfSome o (AllPass is_query_byte))
query_decides None = (λ e. tt, λ e. refl)
query_decides (Some q) = all_decides is_query_byte q

pub utf8_decides : (text : List ℕ) → Decides (is_utf8 text) (IsUtf8 text)
utf8_decides text = (IsUtf8-from_is_utf8 text, is_utf8-from_IsUtf8 text)

path_and_query : (text : List ℕ) → Decides (is_path_and_query text) (IsPathAndQuery text)
unfolding is_path_and_query
path_and_query text =
    Decides-like _ (λ h. record { start = h.0; path = h.1.0; query = h.1.1.0; utf8 = h.1.1.1.0; short = h.1.1.1.1 }) (λ h. (h.start, (h.path, (h.query, (h.utf8, h.short)))))
    (Decides-and _ _
    (Decides-or _ _ (bytes_eq-Decides text []) (Decides-or _ _ (bytes_eq-Decides text (42 ∷ [])) (Decides-or _ _ (eq_decides (slice_index text 0) 47) (eq_decides (slice_index text 0) 63))))
    (Decides-and _ _ (all_decides is_path_byte (split_once_front 63 text))
    (Decides-and _ _ (query_decides (split_once_back 63 text))
    (Decides-and _ _ (utf8_decides text) (le_decides (length text) 65534)))))

true_decides : (b : Bool) → Decides b (IsTrue b)
true_decides b = (λ e. e, λ e. e)

path_input : (text : List ℕ) → Decides (is_path_input text) (IsPathInput text)
unfolding is_path_input
path_input text =
    Decides-like _ (λ h. record { start = h.0; short = h.1.0; kept = h.1.1 }) (λ h. (h.start, (h.short, h.kept)))
    (Decides-and _ _ (Decides-or _ _ (bytes_eq-Decides text (42 ∷ [])) (true_decides (is_delimiter (slice_index text 0))))
    (Decides-and _ _ (le_decides (length text) 65534) (path_and_query (without_fragment text))))

origin : (text : List ℕ) → Decides (is_origin text) (IsOriginForm text)
unfolding is_origin
origin text =
    Decides-and _ _ (Decides-or _ _ (bytes_eq-Decides text (42 ∷ [])) (eq_decides (slice_index text 0) 47)) (path_input text)

follows : (front : List ℕ) (b : ℕ) → Decides (may_follow front b) (MayFollow front b)
unfolding may_follow
follows front b =
    Decides-like _ (λ h. record { byte = h.0; colons = h.1.0; opening = h.1.1.0; closing = h.1.1.1 }) (λ h. (h.byte, (h.colons, (h.opening, h.closing))))
    (Decides-and _ _ (true_decides (is_authority_byte b))
    (Decides-and _ _ (given_decides _ _ (eq_decides b 58) (Decides-ltb (count_of 58 (last_piece front)) 8))
    (Decides-and _ _ (given_decides _ _ (eq_decides b 91) (Decides-and _ _ (eq_decides (count_of 91 front) 0) (eq_decides (count_of 37 (last_piece front)) 0)))
    (given_decides _ _ (eq_decides b 93) (Decides-and _ _ (Decides-ltb 0 (count_of 91 front)) (eq_decides (count_of 93 front) 0))))))

-- each byte of the rest may follow the front and those of the rest before it
Follow : List ℕ → List ℕ → Type 0
Follow front rest = (i : ℕ) → i < length rest → MayFollow (front ++ take i rest) (get_or rest i 0)

follow_first : (front : List ℕ) (b : ℕ) (rest : List ℕ) → MayFollow front b → Follow (front ++ b ∷ []) rest → Follow front (b ∷ rest)
unfolding Follow
follow_first front b rest first more zero lt = rw (append-nil front) first
follow_first front b rest first more (suc i) lt = subst (λ l. MayFollow l (get_or rest i 0)) (append_assoc front (b ∷ []) (take i rest)) (more i (omega arith))

follow_head : (front : List ℕ) (b : ℕ) (rest : List ℕ) → Follow front (b ∷ rest) → MayFollow front b
unfolding Follow
follow_head front b rest all = rw (append-nil front) at (all 0 (omega arith))

follow_tail : (front : List ℕ) (b : ℕ) (rest : List ℕ) → Follow front (b ∷ rest) → Follow (front ++ b ∷ []) rest
unfolding Follow
follow_tail front b rest all i lt = subst (λ l. MayFollow l (get_or rest i 0)) (sym (append_assoc front (b ∷ []) (take i rest))) (all (suc i) (omega arith))

each : (front rest : List ℕ) → Decides (each_follows front rest) (Follow front rest)
unfolding Follow
each front [] = (λ e i lt. absurd (omega arith), λ e. refl)
each front (b ∷ rest) =
    Decides-like _ (λ h. follow_first front b rest h.0 h.1) (λ h. (follow_head front b rest h, follow_tail front b rest h))
    (Decides-and _ _ (follows front b) (each (front ++ b ∷ []) rest))

authority : (text : List ℕ) → Decides (is_authority text) (IsAuthority text)
unfolding is_authority Follow
authority text =
    Decides-like _ (λ h. record { nonempty = h.0; bytes = h.1.0; closed = h.1.1.0; one_colon = h.1.1.1.0; no_percent = h.1.1.1.1.0; has_host = h.1.1.1.1.1 })
    (λ h. (h.nonempty, (h.bytes, (h.closed, (h.one_colon, (h.no_percent, h.has_host))))))
    (Decides-and _ _ (Decides-ltb 0 (length text))
    (Decides-and _ _ (each [] text)
    (Decides-and _ _ (eq_decides (count_of 91 text) (count_of 93 text))
    (Decides-and _ _ (le_decides (count_of 58 (last_piece text)) 1)
    (Decides-and _ _ (eq_decides (count_of 37 (last_piece text)) 0)
    (Decides-not _ (eq_decides (slice_index text (length text - 1)) 64)))))))

-- the absolute form, cut where the scans stop

IsCutAbsolute : List ℕ → Type 0
IsCutAbsolute text =
    HasScheme text × (IsScheme (take (scheme_len text) text) × (IsAuthority (authority_after_scheme text)
    × ((text_after_authority text ≡ []) ⊎ (IsTrue (is_delimiter (slice_index (text_after_authority text) 0)) × IsPathInput (text_after_authority text)))))

absolute : (text : List ℕ) → Decides (is_absolute text) (IsCutAbsolute text)
unfolding is_absolute IsCutAbsolute
absolute text =
    Decides-and _ _ (Decides-and _ _ (Decides-ltb 3 (length text)) (bytes_eq-Decides (take 3 (drop (scheme_len text) text)) (58 ∷ 47 ∷ 47 ∷ [])))
    (Decides-and _ _ (Decides-and _ _ (all_decides is_scheme_byte (take (scheme_len text) text)) (le_decides (length (take (scheme_len text) text)) 64))
    (Decides-and _ _ (authority (authority_after_scheme text))
    (Decides-or _ _ (bytes_eq-Decides (text_after_authority text) []) (Decides-and _ _ (true_decides (is_delimiter (slice_index (text_after_authority text) 0))) (path_input (text_after_authority text))))))

tail_kept : (tail : List ℕ) → (tail ≡ []) ⊎ (IsTrue (is_delimiter (slice_index tail 0)) × IsPathInput tail)
    → IsTail tail (cond (bytes_eq tail []) (47 ∷ []) (without_fragment tail))
tail_kept tail (inl none) = inl (none, rw none refl)
tail_kept [] (inr h) = inl (refl, refl)
tail_kept (x ∷ tail) (inr h) = inr (h.0, h.1, refl)

from_cuts : (text : List ℕ) → IsCutAbsolute text
    → IsAbsoluteForm text (normal_scheme (take (scheme_len text) text)) (authority_after_scheme text) (cond (bytes_eq (text_after_authority text) []) (47 ∷ []) (without_fragment (text_after_authority text)))
unfolding IsCutAbsolute
from_cuts text h =
    absolute_from_cuts text _ _ _ (scheme_len text) (authority_len (after_scheme text)) h.0 refl h.1.0 refl refl h.1.1.0 (tail_kept (text_after_authority text) h.1.1.1)

cut_tail_is : (tail kept : List ℕ) → IsTail tail kept → (tail ≡ []) ⊎ (IsTrue (is_delimiter (slice_index tail 0)) × IsPathInput tail)
cut_tail_is tail kept (inl h) = inl h.0
cut_tail_is tail kept (inr h) = inr (h.0, h.1)

to_cuts : (text s a k : List ℕ) → IsAbsoluteForm text s a k → IsCutAbsolute text
unfolding IsCutAbsolute
to_cuts text s a k h =
    let rest = cut_rest text s a k h in
    let named_count : IsScheme (take (scheme_len text) text) = subst IsScheme (sym (cut_name text s a k h)) h.is_scheme in
    let a_is : authority_after_scheme text ≡ a = ap (λ r. take (authority_len r) r) rest ∙ cut_authority text s a k h in
    let t_is : text_after_authority text ≡ h.tail = ap (λ r. drop (authority_len r) r) rest ∙ cut_tail text s a k h in (
      cut_scheme text s a k h,
      (
        named_count,
        (
          subst IsAuthority (sym a_is) h.is_authority,
          subst (λ t. (t ≡ []) ⊎ (IsTrue (is_delimiter (slice_index t 0)) × IsPathInput t)) (sym t_is) (cut_tail_is h.tail k h.is_tail),
        ),
      ),
    )

alone : (text : List ℕ) → Decides (is_authority text && not (bytes_eq text (42 ∷ []))) (IsAuthority text × (text ≢ 42 ∷ []))
alone text = Decides-and _ _ (authority text) (Decides-not _ (bytes_eq-Decides text (42 ∷ [])))

-- the first form that fits, by its tests
by_form : (text : List ℕ) (o a b : Bool) → length text ≤ 65534 → Decides o (IsOriginForm text) → Decides a (IsAuthority text × (text ≢ 42 ∷ [])) → Decides b (IsCutAbsolute text)
    → IsReading text (cond o (Some (record { scheme = None; authority = None; path_and_query = without_fragment text }))
    (cond a (Some (record { scheme = None; authority = Some text; path_and_query = [] })) (cond b (Some (absolute_of text)) None)))
by_form text true a b short od ad bd = (short, (od.0 refl, refl))
by_form text false true b short od ad bd =
    let h = ad.0 refl in
    (short, (h.0, h.1, refl, refl))
by_form text false false true short od ad bd = (short, from_cuts text (bd.0 refl))
by_form text false false false short od ad bd =
    none_of text (not_from_Decides false od refl) (λ is other. not_from_Decides false ad refl (is, other))
    (λ s a k h. not_from_Decides false bd refl (to_cuts text s a k h))

by_size : (text : List ℕ) (b : Bool) → Decides b (length text ≤ 65534) → IsReading text (cond b (form_of text) None)
by_size text true d = by_form text (is_origin text) _ (is_absolute text) (d.0 refl) (origin text) (alone text) (absolute text)
by_size text false d = λ s a k h. not_from_Decides false d refl h.0

-- the target is read as the grammar says
pub reading : (text : List ℕ) → IsReading text (target_of text)
unfolding target_of
reading text = by_size text (nat_le (length text) 65534) (le_decides (length text) 65534)
