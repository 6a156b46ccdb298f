-- The parts of the text of a header value.
use Rattle.std.proofs.Common.{◌≡◌, ℕ, ◌==◌, Bool, true, false, List, [], ◌∷◌, None, Some, refl, ap}
use Rattle.std.specs.List.{list_any, before_first}
use Rattle.web_texts.specs.Cut.{split_once}
use Rattle.web_texts.proofs.LastCutLemmas.{before_first-cons, or_false}
use Rattle.web_request.specs.MessageFields.{before_semicolon}

-- where no element passes, all stand before the first that does
all_before : {X : Type 0} (p : X → Bool) (xs : List X) → list_any p xs ≡ false → before_first p xs ≡ xs
all_before p [] none = refl
all_before p (x ∷ xs) none =
    let parts = or_false (p x) (list_any p xs) none in
    rw (before_first-cons p x xs, parts.0) (ap (λ l. x ∷ l) (all_before p xs parts.1))

uncut_at : (text : List ℕ) (b : Bool) → list_any (λ c. c == 59) text ≡ b → None ≡ split_once 59 text → before_semicolon text ≡ text
uncut_at text true is none = absurd (cc)
uncut_at text false is none = all_before (λ c. c == 59) text is

pub uncut : (text : List ℕ) → None ≡ split_once 59 text → before_semicolon text ≡ text
uncut text none = uncut_at text (list_any (λ c. c == 59) text) refl none
