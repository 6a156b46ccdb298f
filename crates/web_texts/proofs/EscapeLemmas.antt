-- Quoted text, part by part between its backslashes.
use Rattle.std.proofs.Common.{◌≡◌, ◌==◌, ℕ, Bool, false, List, [], ◌∷◌, ◌++◌, length, drop, get_or, refl, ap, sym, ◌∙◌, arith, append_assoc}
use Rattle.std.specs.List.{list_any, position_or_len}
use Rattle.web_texts.specs.Cut.{IsCut}
use Rattle.web_texts.proofs.LastCutLemmas.{or_false}
use Rattle.web_texts.proofs.SplitLemmas.{cut_parts, no_cut}
use Rattle.web_texts.specs.QuotedText.{unescaped}

abbrev is_backslash : ℕ → Bool
is_backslash b = b == 92

unescaped_step : (b : ℕ) (rest : List ℕ) → (b == 92) ≡ false → unescaped (b ∷ rest) ≡ b ∷ unescaped rest
unescaped_step b [] e = rw e refl
unescaped_step b (c ∷ rest) e = rw e refl

pub unescaped_none : (text : List ℕ) → list_any is_backslash text ≡ false → unescaped text ≡ text
unescaped_none [] none = refl
unescaped_none (b ∷ rest) none =
    let parts = or_false (b == 92) (list_any is_backslash rest) none in
    unescaped_step b rest parts.0 ∙ ap (λ l. b ∷ l) (unescaped_none rest parts.1)

-- after a backslash
abbrev behind : List ℕ → List ℕ
behind [] = []
behind (c ∷ rest) = c ∷ unescaped rest

unescaped_at : (before after : List ℕ) → list_any is_backslash before ≡ false → unescaped (before ++ 92 ∷ after) ≡ before ++ behind after
unescaped_at [] [] none = refl
unescaped_at [] (c ∷ after) none = refl
unescaped_at (b ∷ before) after none =
    let parts = or_false (b == 92) (list_any is_backslash before) none in
    unescaped_step b (before ++ 92 ∷ after) parts.0 ∙ ap (λ l. b ∷ l) (unescaped_at before after parts.1)

-- after a backslash a byte that is none is as any other
behind_other : (after : List ℕ) → (get_or after 0 0 == 92) ≡ false → behind after ≡ unescaped after
behind_other [] other = refl
behind_other (c ∷ after) other = sym (unescaped_step c after other)

behind_backslash : (after : List ℕ) → get_or after 0 0 ≡ 92 → behind after ≡ 92 ∷ unescaped (drop 1 after)
behind_backslash [] e = absurd (omega (arith, e))
behind_backslash (c ∷ after) e = rw e refl

pub last_part : (made next text rest : List ℕ) → made ++ unescaped rest ≡ unescaped text → position_or_len is_backslash rest ≡ length rest → next ≡ made ++ rest → next ≡ unescaped text
last_part made next text rest so_far whole is = is ∙ ap (λ l. made ++ l) (sym (unescaped_none rest (no_cut 92 rest whole))) ∙ so_far

pub next_part : (made next text rest before after : List ℕ) → made ++ unescaped rest ≡ unescaped text → IsCut 92 rest before after → next ≡ made ++ before
    → (get_or after 0 0 == 92) ≡ false → next ++ unescaped after ≡ unescaped text
next_part made next text rest before after so_far cut is other =
    let parts = cut_parts 92 rest before after cut in
    let now : made ++ unescaped (before ++ 92 ∷ after) ≡ unescaped text = rw parts.text_is at so_far in
    rw (is, append_assoc made before (unescaped after), ← behind_other after other, ← unescaped_at before after parts.none) now

pub next_backslash : (made next text rest before after : List ℕ) → made ++ unescaped rest ≡ unescaped text → IsCut 92 rest before after → next ≡ made ++ before
    → get_or after 0 0 ≡ 92 → (next ++ 92 ∷ []) ++ unescaped (drop 1 after) ≡ unescaped text
next_backslash made next text rest before after so_far cut is this =
    let parts = cut_parts 92 rest before after cut in
    let now : made ++ unescaped (before ++ 92 ∷ after) ≡ unescaped text = rw parts.text_is at so_far in
    rw (append_assoc next (92 ∷ []) (unescaped (drop 1 after)), is, append_assoc made before (92 ∷ unescaped (drop 1 after)), ← behind_backslash after this, ← unescaped_at before after parts.none) now
