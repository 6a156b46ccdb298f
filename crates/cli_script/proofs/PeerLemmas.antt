-- Four numbers with dots between, number by number, and a port after a colon.
use Rattle.std.proofs.Common.{◌≡◌, ◌==◌, ℕ, suc, Bool, true, false, ◌&&◌, List, [], ◌∷◌, map, length, cond, Option, Some, None, refl, ap, sym, ◌∙◌, arith}
use Rattle.std.specs.Prelude.{is_some, unwrap_or}
use Rattle.std.specs.Char.{is_ascii_digit}
use Rattle.std.specs.List.{join_with_byte, list_all, position_or_len, slice_split}
use Rattle.std.proofs.lemmas.Bool.Decides.{nat_tests}
use Rattle.std.proofs.lemmas.List.Splits.{join_with_byte-slice_split}
use Rattle.web_texts.specs.Bytes.{is_dot}
use Rattle.web_texts.specs.Cut.{IsCut}
use Rattle.web_texts.specs.Digits.{digits_up_to}
use Rattle.web_texts.proofs.CutLemmas.{cut_is}
use Rattle.web_texts.proofs.SplitLemmas.{split_cut, split_whole}
use Rattle.web_request.specs.declared.peers.address.IpAddr.TheVariants.{V4}
use Rattle.cli_script.specs.Peers.{octet_of, octets_of, peer_of}
use Rattle.web_texts.proofs.TestLemmas.{both}

-- fewer than four parts

pub one_part : (text : List ℕ) → position_or_len (λ b. b == 46) text ≡ length text → octets_of (slice_split is_dot text) ≡ None
one_part text whole = rw (split_whole (λ (b : ℕ). b == 46) text whole) refl

pub two_parts : (text a rest : List ℕ) → IsCut 46 text a rest → position_or_len (λ b. b == 46) rest ≡ length rest → octets_of (slice_split is_dot text) ≡ None
two_parts text a rest cut whole = rw (split_cut 46 text a rest cut, split_whole (λ (b : ℕ). b == 46) rest whole) refl

pub three_parts : (text a rest b rest2 : List ℕ) → IsCut 46 text a rest → IsCut 46 rest b rest2 → position_or_len (λ b. b == 46) rest2 ≡ length rest2 → octets_of (slice_split is_dot text) ≡ None
three_parts text a rest b rest2 cut cut2 whole = rw (split_cut 46 text a rest cut, split_cut 46 rest b rest2 cut2, split_whole (λ (b : ℕ). b == 46) rest2 whole) refl

-- the rest after the third dot is one number, or there are no four numbers

no_dot : (b : ℕ) → is_ascii_digit b ≡ true → (b == 46) ≡ false
no_dot b digit = grind (arith, nat_tests, digit)

undotted : (d : List ℕ) → list_all is_ascii_digit d ≡ true → slice_split is_dot d ≡ d ∷ []
undotted [] digits = refl
undotted (b ∷ d) digits =
    let parts = both (is_ascii_digit b) (list_all is_ascii_digit d) digits in
    rw (no_dot b parts.0, undotted d parts.1) refl

digits_of : (a b c : Bool) (v n : ℕ) → cond ((a && b) && c) (Some v) None ≡ Some n → b ≡ true
digits_of true true c v n e = refl
digits_of true false c v n e = absurd (cc)
digits_of false b c v n e = absurd (cc)

unfit_last : (p q r s : Bool) (octets : List ℕ) → s ≡ false → cond (p && (q && (r && (s && true)))) (Some octets) None ≡ None
unfit_last true true true s octets e = rw e refl
unfit_last true true false s octets e = refl
unfit_last true false r s octets e = refl
unfit_last false q r s octets e = refl

too_many : (n : ℕ) (b : Bool) (octets : List ℕ) → cond ((suc (suc (suc (suc (suc n)))) == 4) && b) (Some octets) None ≡ None
too_many n b octets = let e : (suc (suc (suc (suc (suc n)))) == 4) ≡ false = grind (arith, nat_tests) in rw e refl

none_left : (a b c d : List ℕ) (parts : List (List ℕ)) → join_with_byte 46 parts ≡ d → octet_of d ≡ None → octets_of (a ∷ b ∷ c ∷ parts) ≡ None
none_left a b c d [] joined none = refl
none_left a b c d (x ∷ []) joined none =
    let last : octet_of x ≡ None = ap octet_of joined ∙ none in
    unfit_last (is_some (octet_of a)) (is_some (octet_of b)) (is_some (octet_of c)) (is_some (octet_of x)) (map (λ part. unwrap_or (octet_of part) 0) (a ∷ b ∷ c ∷ x ∷ [])) (ap is_some last)
none_left a b c d (x ∷ y ∷ parts) joined none = too_many (length parts) _ _

last_part : (a b c d : List ℕ) (number : Option ℕ) → octet_of d ≡ number → octets_of (a ∷ b ∷ c ∷ slice_split is_dot d) ≡ octets_of (a ∷ b ∷ c ∷ d ∷ [])
last_part a b c d None is = none_left a b c d (slice_split is_dot d) (join_with_byte-slice_split 46 d) is ∙ sym (none_left a b c d (d ∷ []) refl is)
last_part a b c d (Some n) is = let digits = digits_of _ _ _ _ n is in ap (λ parts. octets_of (a ∷ b ∷ c ∷ parts)) (undotted d digits)

module _ (text a rest b rest2 c d : List ℕ) (cut : IsCut 46 text a rest) (cut2 : IsCut 46 rest b rest2) (cut3 : IsCut 46 rest2 c d) where
  four_parts : octets_of (slice_split is_dot text) ≡ octets_of (a ∷ b ∷ c ∷ d ∷ [])
  four_parts = rw (split_cut 46 text a rest cut, split_cut 46 rest b rest2 cut2, split_cut 46 rest2 c d cut3) (last_part a b c d (octet_of d) refl)

  pub first_unfit : octet_of a ≡ None → octets_of (slice_split is_dot text) ≡ None
  first_unfit e = four_parts ∙ rw e refl

  pub second_unfit : (k : ℕ) → octet_of a ≡ Some k → octet_of b ≡ None → octets_of (slice_split is_dot text) ≡ None
  second_unfit k e e2 = four_parts ∙ rw (e, e2) refl

  pub third_unfit : (k l : ℕ) → octet_of a ≡ Some k → octet_of b ≡ Some l → octet_of c ≡ None → octets_of (slice_split is_dot text) ≡ None
  third_unfit k l e e2 e3 = four_parts ∙ rw (e, e2, e3) refl

  pub fourth_unfit : (k l m : ℕ) → octet_of a ≡ Some k → octet_of b ≡ Some l → octet_of c ≡ Some m → octet_of d ≡ None → octets_of (slice_split is_dot text) ≡ None
  fourth_unfit k l m e e2 e3 e4 = four_parts ∙ rw (e, e2, e3, e4) refl

  pub all_fit : (k l m n : ℕ) → octet_of a ≡ Some k → octet_of b ≡ Some l → octet_of c ≡ Some m → octet_of d ≡ Some n → octets_of (slice_split is_dot text) ≡ Some (k ∷ l ∷ m ∷ n ∷ [])
  all_fit k l m n e e2 e3 e4 = four_parts ∙ rw (e, e2, e3, e4) refl

pub peer_is : (text address port octets : List ℕ) (number : ℕ) → IsCut 58 text address port → octets_of (slice_split is_dot address) ≡ Some octets → digits_up_to 65535 port ≡ Some number
    → peer_of text ≡ Some (record { ip = V4 octets; port = number })
peer_is text address port octets number cut four digits = rw (cut_is 58 text address port cut, four, digits) refl
