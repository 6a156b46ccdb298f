-- Which texts are methods.
use Rattle.std.proofs.Common.{◌≡◌, ◌<◌, ◌==◌, ℕ, false, not, List, [], ◌∷◌, length, Some, None, refl, arith}
use Rattle.std.specs.Bool.{Decides}
use Rattle.std.specs.List.{list_all}
use Rattle.std.proofs.lemmas.Bool.Decides.{Decides-and, nat_tests}
use Rattle.std.proofs.lemmas.List.Sums.{AllPass-from_list_all, list_all-from_AllPass}
use Rattle.http_header.specs.Token.{IsToken, AllPass, is_token_byte as is_header_byte}
use Rattle.web_texts.specs.Methods.{method_of}
use Rattle.web_texts.specs.Tokens.{is_token, is_token_byte}
use Rattle.web_texts.proofs.TestLemmas.{refuted, stable}

some_bytes : (text : List ℕ) → Decides (not (length text == 0)) (0 < length text)
some_bytes [] = (λ e. absurd (cc), λ some. absurd (omega (arith, some)))
some_bytes (b ∷ rest) =
    let some : (length (b ∷ rest) == 0) ≡ false = grind (arith, nat_tests) in
    (λ e. omega arith, λ p. rw some refl)

token_bytes : (text : List ℕ) → Decides (list_all is_token_byte text) (AllPass is_header_byte text)
unfolding is_token_byte is_header_byte
token_bytes text = (AllPass-from_list_all is_header_byte text, list_all-from_AllPass is_header_byte text)

token : (text : List ℕ) → Decides (is_token text) (IsToken text)
token text = Decides-and _ _ (some_bytes text) (token_bytes text)

pub method_read : (text : List ℕ) → ¬ (¬ (IsToken text)) → method_of text ≡ Some text
method_read text h = rw (stable (is_token text) (token text) h) refl

pub method_refused : (text : List ℕ) → ¬ (IsToken text) → method_of text ≡ None
method_refused text h = rw (refuted (is_token text) (token text) h) refl
