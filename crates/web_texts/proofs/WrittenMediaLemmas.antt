-- A media type in its plainest spelling reads as itself.
use Rattle.std.proofs.Common.{◌≡◌, ◌⊎◌, ◌==◌, ℕ, ◌-◌, Bool, true, false, not, ◌&&◌, List, [], ◌∷◌, ◌++◌, length, reverse, take, drop, refl, ap, sym, ◌∙◌, arith, append_assoc, bytes_eq, length-append}
use Rattle.std.proofs.Common.{inl, inr}
use Rattle.std.specs.Prelude.{Some}
use Rattle.std.specs.List.{list_all, list_any, before_first, after_first, onto_first, prefix_len, suffix_len}
use Rattle.std.proofs.Math.Seq.{take-length}
use Rattle.std.proofs.lemmas.Bool.Decides.{nat_tests}
use Rattle.std.proofs.lemmas.List.{append-nil, take-append-drop}
use Rattle.std.proofs.lemmas.Slice.Eq.{bytes_eq-Decides}
use Rattle.std.proofs.lemmas.List.Folds.{list_all-append, list_any-append}
use Rattle.web_texts.specs.Blanks.{is_blank, trimmed, without_front, without_end}
use Rattle.web_texts.specs.ParameterPlaces.{semicolons}
use Rattle.web_texts.specs.PieceItems.{is_empty}
use Rattle.web_texts.specs.Pieces.{pieces}
use Rattle.web_texts.specs.Tokens.{is_token, is_token_byte}
use Rattle.web_texts.specs.MediaTypes.{is_slash, media_type_of, of_essence, parameter_of, parameters_of}
use Rattle.web_texts.specs.WrittenMediaTypes.{AreKeptParameters, ArePlain, IsKept, IsKeptParameter, ParameterThen, unquoted}
use Rattle.web_texts.specs.Pairs.{Pair}
use Rattle.web_texts.specs.declared.grammar.parameters.Quoting.TheVariants.{Outside}
use Rattle.web_texts.proofs.EssenceLemmas.{slash_back}
use Rattle.web_texts.proofs.KeptMediaLemmas.{differs, kept_essence, token_bytes}
use Rattle.web_texts.proofs.LastCutLemmas.{list_any-reverse, or_false}
use Rattle.web_texts.proofs.ParameterLemmas.{parameters_more, pieces_more}
use Rattle.web_texts.proofs.PieceLemmas.{at_front, behind_front, pieces_cons}
use Rattle.web_texts.proofs.TestLemmas.{and_left, and_right}

-- a text that begins with a front
pub behind_is : (text front : List ℕ) → bytes_eq (take (length front) text) front ≡ true → text ≡ front ++ drop (length front) text
behind_is text front e =
    sym (take-append-drop (length front) text) ∙ ap (λ l. l ++ drop (length front) text) ((bytes_eq-Decides (take (length front) text) front).0 e)

spaced_parts : (text front named all : List ℕ) → text ≡ 59 ∷ front → named ≡ all
    → (front ≡ named) ⊎ (front ≡ 32 ∷ named) → (text ≡ 59 ∷ all) ⊎ (text ≡ 59 ∷ 32 ∷ all)
spaced_parts text front named all is_text is (inl e) = inl (is_text ∙ ap (λ l. 59 ∷ l) (e ∙ is))
spaced_parts text front named all is_text is (inr e) = inr (is_text ∙ ap (λ l. 59 ∷ l) (e ∙ ap (λ l. 32 ∷ l) is))

-- the parts of a parameter, one after another
pub parameter_is : (p : Pair) (text front named equals value rest : List ℕ) → is_token p.value ≡ true → text ≡ 59 ∷ front
    → (front ≡ named) ⊎ (front ≡ 32 ∷ named) → named ≡ p.name ++ equals → equals ≡ 61 ∷ value → value ≡ p.value ++ rest → ParameterThen p text rest
parameter_is p text front named equals value rest token is_text spaced is_named is_equals is_value =
    let joined : named ≡ unquoted p ++ rest =
    is_named ∙ ap (λ l. p.name ++ l) (is_equals ∙ ap (λ l. 61 ∷ l) is_value) ∙ sym (append_assoc p.name (61 ∷ p.value) rest) in
    record { token = token; parts = spaced_parts text front named (unquoted p ++ rest) is_text joined spaced }

-- the byte ends no piece and opens no quoted text
abbrev is_inner : ℕ → Bool
is_inner b = not (b == 59) && not (b == 34)

both_false : (a b : Bool) → (not a && not b) ≡ true → (a ≡ false) × (b ≡ false)
both_false true b e = absurd (cc)
both_false false true e = absurd (cc)
both_false false false e = (refl, refl)

onto_behind : (b : ℕ) (front : List ℕ) (ps : List (List ℕ)) → onto_first b (behind_front front ps) ≡ behind_front (b ∷ front) ps
onto_behind b front [] = refl
onto_behind b front (p ∷ ps) = refl

pieces_front : (front rest : List ℕ) → list_all is_inner front ≡ true → pieces semicolons Outside (front ++ rest) ≡ behind_front front (pieces semicolons Outside rest)
pieces_front [] rest e = sym (at_front semicolons rest).same
pieces_front (b ∷ front) rest e =
    let byte = both_false (b == 59) (b == 34) (and_left (is_inner b) (list_all is_inner front) e) in
    rw (byte.0, byte.1, pieces_front front rest (and_right (is_inner b) (list_all is_inner front) e)) (onto_behind b front (pieces semicolons Outside rest))

pieces_whole : (front : List ℕ) → list_all is_inner front ≡ true → pieces semicolons Outside front ≡ front ∷ []
pieces_whole front e = rw (append-nil front) at (pieces_front front [] e)

pieces_cut : (front rest : List ℕ) → list_all is_inner front ≡ true → pieces semicolons Outside (front ++ 59 ∷ rest) ≡ front ∷ pieces semicolons Outside rest
pieces_cut front rest e = pieces_front front (59 ∷ rest) e ∙ ap (λ l. l ∷ pieces semicolons Outside rest) (append-nil front)

-- bytes of tokens are inner ones, and no blanks

no_semicolon : is_token_byte 59 ≡ false
unfolding is_token_byte
no_semicolon = refl

no_quote : is_token_byte 34 ≡ false
unfolding is_token_byte
no_quote = refl

no_space : is_token_byte 32 ≡ false
unfolding is_token_byte
no_space = refl

no_tab : is_token_byte 9 ≡ false
unfolding is_token_byte
no_tab = refl

token_inner : (text : List ℕ) → list_all is_token_byte text ≡ true → list_all is_inner text ≡ true
token_inner [] e = refl
token_inner (b ∷ text) e =
    let byte = and_left (is_token_byte b) (list_all is_token_byte text) e in
    rw (differs b 59 byte no_semicolon, differs b 34 byte no_quote, token_inner text (and_right (is_token_byte b) (list_all is_token_byte text) e)) refl

token_blank : (text : List ℕ) → list_all is_token_byte text ≡ true → list_any is_blank text ≡ false
token_blank [] e = refl
token_blank (b ∷ text) e =
    let byte = and_left (is_token_byte b) (list_all is_token_byte text) e in
    rw (differs b 32 byte no_space, differs b 9 byte no_tab, token_blank text (and_right (is_token_byte b) (list_all is_token_byte text) e)) refl

-- two tokens with an inner byte between them that is no blank
joined_inner : (front : List ℕ) (mark : ℕ) (rest : List ℕ) → is_inner mark ≡ true → is_token front ≡ true → is_token rest ≡ true → list_all is_inner (front ++ mark ∷ rest) ≡ true
joined_inner front mark rest inner is_front is_rest =
    rw (list_all-append is_inner front (mark ∷ rest), token_inner front (token_bytes front is_front), inner, token_inner rest (token_bytes rest is_rest)) refl

joined_blank : (front : List ℕ) (mark : ℕ) (rest : List ℕ) → is_blank mark ≡ false → is_token front ≡ true → is_token rest ≡ true → list_any is_blank (front ++ mark ∷ rest) ≡ false
joined_blank front mark rest none is_front is_rest =
    rw (list_any-append is_blank front (mark ∷ rest), token_blank front (token_bytes front is_front), none, token_blank rest (token_bytes rest is_rest)) refl

-- blanks at the ends of texts without any

nothing_first : {X : Type 0} (p : X → Bool) (xs : List X) → list_any p xs ≡ false → prefix_len p xs ≡ 0
nothing_first p [] none = refl
nothing_first p (x ∷ xs) none = rw (or_false (p x) (list_any p xs) none).0 refl

no_end : (text : List ℕ) → list_any is_blank text ≡ false → without_end text ≡ text
no_end text none =
    let all : length text - suffix_len is_blank text ≡ length text = omega (arith, nothing_first is_blank (reverse text) (list_any-reverse is_blank text none)) in
    rw all (take-length text)

no_front : (text : List ℕ) → list_any is_blank text ≡ false → without_front text ≡ text
no_front text none = rw (nothing_first is_blank text none) refl

no_space_front : (text : List ℕ) → list_any is_blank text ≡ false → without_front (32 ∷ text) ≡ text
no_space_front text none = rw (nothing_first is_blank text none) refl

some_bytes : (front : List ℕ) (mark : ℕ) (rest : List ℕ) → is_empty (front ++ mark ∷ rest) ≡ false
some_bytes front mark rest = grind (arith, nat_tests, length-append front (mark ∷ rest))

-- Parameters, read: there are none, or they stand after a semicolon.
abbrev AreRead : List Pair → List ℕ → Type 0
AreRead [] text = text ≡ []
AreRead (p ∷ more) text = (behind : List ℕ) × (text ≡ 59 ∷ behind) × (parameters_of (pieces semicolons Outside behind) ≡ Some (p ∷ more))

-- a piece with a parameter of this text
record HasParameter (p : Pair) (piece : List ℕ) : Type 0 where
  inner : list_all is_inner piece ≡ true
  front : without_front piece ≡ unquoted p
  trim : trimmed piece ≡ unquoted p
  some : is_empty (unquoted p) ≡ false
  reads : parameter_of (unquoted p) ≡ Some p

piece_read : (p : Pair) (more : List Pair) (piece rest : List ℕ) → HasParameter p piece → AreRead more rest
    → parameters_of (pieces semicolons Outside (piece ++ rest)) ≡ Some (p ∷ more)
piece_read p [] piece rest has e =
    rw (e, append-nil piece, pieces_whole piece has.inner, has.front, has.some, has.reads) refl
piece_read p (q ∷ more) piece rest has (behind, e, later) =
    rw (e, pieces_cut piece behind has.inner, parameters_more piece (pieces semicolons Outside behind) (pieces_cons semicolons Outside behind), has.trim, has.reads, later) refl

plain_piece : (p : Pair) → IsKeptParameter p → is_token p.value ≡ true → HasParameter p (unquoted p)
plain_piece p kept is =
    let none = joined_blank p.name 61 p.value refl kept.name is in
    record {
      inner = joined_inner p.name 61 p.value refl kept.name is;
      front = no_front (unquoted p) none;
      trim = ap without_end (no_front (unquoted p) none) ∙ no_end (unquoted p) none;
      some = some_bytes p.name 61 p.value;
      reads = kept.reads is;
    }

spaced_piece : (p : Pair) → IsKeptParameter p → is_token p.value ≡ true → HasParameter p (32 ∷ unquoted p)
spaced_piece p kept is =
    let none = joined_blank p.name 61 p.value refl kept.name is in
    record {
      inner = joined_inner p.name 61 p.value refl kept.name is;
      front = no_space_front (unquoted p) none;
      trim = ap without_end (no_space_front (unquoted p) none) ∙ no_end (unquoted p) none;
      some = some_bytes p.name 61 p.value;
      reads = kept.reads is;
    }

parameter_read : (p : Pair) (more : List Pair) (text rest : List ℕ) → IsKeptParameter p → is_token p.value ≡ true
    → (text ≡ 59 ∷ (unquoted p ++ rest)) ⊎ (text ≡ 59 ∷ 32 ∷ (unquoted p ++ rest)) → AreRead more rest → AreRead (p ∷ more) text
parameter_read p more text rest kept is (inl e) later = (unquoted p ++ rest, e, piece_read p more (unquoted p) rest (plain_piece p kept is) later)
parameter_read p more text rest kept is (inr e) later = (32 ∷ (unquoted p ++ rest), e, piece_read p more (32 ∷ unquoted p) rest (spaced_piece p kept is) later)

parameters_read : (params : List Pair) (text : List ℕ) → AreKeptParameters params → ArePlain params text → AreRead params text
parameters_read [] text kept e = e
parameters_read (p ∷ more) text kept (rest, here, plain) = parameter_read p more text rest kept.0 here.token here.parts (parameters_read more rest kept.1 plain)

-- an essence is two tokens with a slash between them

essence_tokens : (essence : List ℕ) (params : List Pair) → IsKept essence params → (is_token (before_first is_slash essence) && is_token (after_first is_slash essence)) ≡ true
essence_tokens essence params kept = and_right (list_any is_slash essence) _ (kept_essence essence params kept)

essence_parts : (essence : List ℕ) (params : List Pair) → IsKept essence params → before_first is_slash essence ++ 47 ∷ after_first is_slash essence ≡ essence
essence_parts essence params kept = slash_back essence (and_left (list_any is_slash essence) _ (kept_essence essence params kept))

essence_inner : (essence : List ℕ) (params : List Pair) → IsKept essence params → list_all is_inner essence ≡ true
essence_inner essence params kept =
    let front = before_first is_slash essence in
    let rest = after_first is_slash essence in
    let tokens = essence_tokens essence params kept in
    ap (list_all is_inner) (sym (essence_parts essence params kept))
    ∙ joined_inner front 47 rest refl (and_left (is_token front) (is_token rest) tokens) (and_right (is_token front) (is_token rest) tokens)

essence_blank : (essence : List ℕ) (params : List Pair) → IsKept essence params → list_any is_blank essence ≡ false
essence_blank essence params kept =
    let front = before_first is_slash essence in
    let rest = after_first is_slash essence in
    let tokens = essence_tokens essence params kept in
    ap (list_any is_blank) (sym (essence_parts essence params kept))
    ∙ joined_blank front 47 rest refl (and_left (is_token front) (is_token rest) tokens) (and_right (is_token front) (is_token rest) tokens)

media_step : (essence : List ℕ) (params : List Pair) (rest : List ℕ) → IsKept essence params → AreRead params rest
    → media_type_of (essence ++ rest) ≡ Some (of_essence essence params)
media_step essence [] rest kept e =
    rw (e, append-nil essence, pieces_whole essence (essence_inner essence [] kept)) kept.reads
media_step essence (p ∷ more) rest kept (behind, e, later) =
    let ps = pieces semicolons Outside behind in
    rw (e, pieces_cut essence behind (essence_inner essence (p ∷ more) kept), pieces_more essence ps (pieces_cons semicolons Outside behind), later, no_end essence (essence_blank essence (p ∷ more) kept)) kept.reads

pub media_written : (essence : List ℕ) (params : List Pair) (text rest : List ℕ) → IsKept essence params → text ≡ essence ++ rest → ArePlain params rest
    → media_type_of text ≡ Some (of_essence essence params)
media_written essence params text rest kept parts plain =
    rw parts (media_step essence params rest kept (parameters_read params rest kept.each plain))
