-- The size of a chunk in hexadecimal digits, and its text.
use Rattle.std.proofs.Common.{◌≡◌, ℕ, zero, suc, ◌+◌, ◌/◌, ◌%◌, ◌^◌, ◌==◌, ◌<◌, ◌≤◌, Bool, true, false, List, [], ◌∷◌, ◌++◌, length, drop, refl, sym, ap, ◌∙◌, arith, append_assoc, append-nil, if◌then◌else◌, length-append, length-drop, pow-add}
use Rattle.std.specs.Prelude.{None}
use Rattle.std.specs.List.{AllByRecursion}
use Rattle.std.specs.Char.{digit_value, is_ascii_hexdigit}
use Rattle.std.specs.Fmt.{digit_glyph, digits, digits_onto}
use Rattle.std.specs.Str.Parse.{AllDigits}
use Rattle.std.proofs.lemmas.Bool.Decides.{nat_tests}
use Rattle.std.proofs.lemmas.Fmt.{digits_is_IsNumeral}
use Rattle.std.proofs.lemmas.List.Elements.{All-cons, All-nil}
use Rattle.http_header.specs.Token.{is_visible_or_blank}
use Rattle.httparse.specs.Ascii.{crlf_bytes}
use Rattle.httparse.specs.Grammar.{AllPass}
use Rattle.web_messages.specs.ChunkedBody.{Chunk, IsChunk, IsSizeLine, SizeLine, print_chunks, size_of, sizes, content}
use Rattle.web_messages.specs.Chunking.{IsSoFar, IsSoFarAt}
use Rattle.web_messages.specs.Joining.{one_chunk}
use Rattle.web_messages.proofs.LineLemmas.{size_line_length}

-- ---- digits

not_zero : (n : ℕ) → (n == 0) ≡ false → 0 < n
not_zero n is = grind (arith, nat_tests, is)

-- a number below 16 to the k has k digits at most
digits_few : (fuel k n : ℕ) (acc : List ℕ) → suc k ≤ fuel → n < 16 ^ suc k → length (digits_onto fuel 16 false n acc) ≤ suc k + length acc
digits_few zero k n acc more small = absurd (omega (arith, more))
digits_few (suc fuel) k n acc more small = of k (λ j m a x y. digits_few fuel j m a x y) (n / 16 == 0) refl more small
  where
    of : (k : ℕ) → ((j m : ℕ) (a : List ℕ) → suc j ≤ fuel → m < 16 ^ suc j → length (digits_onto fuel 16 false m a) ≤ suc j + length a)
        → (b : Bool) → (n / 16 == 0) ≡ b → suc k ≤ suc fuel → n < 16 ^ suc k
        → length (if n / 16 == 0 then digit_glyph false (n % 16) ∷ acc else digits_onto fuel 16 false (n / 16) (digit_glyph false (n % 16) ∷ acc)) ≤ suc k + length acc
    of k fewer true is more small = rw (is) (omega arith)
    of zero fewer false is more small = absurd (omega (arith, small, not_zero (n / 16) is))
    of (suc k) fewer false is more small = rw (is) (omega (
      arith,
      fewer k (n / 16) (digit_glyph false (n % 16) ∷ acc) (omega (arith, more)) (omega (arith, small, pow-add 16 (suc k) 1)),
    ))

-- hexadecimal digits
hexadecimal : (c : ℕ) → digit_value c < 16 → is_ascii_hexdigit c ≡ true
hexadecimal c small = grind (arith, nat_tests, small)

all_hexadecimal : (ds : List ℕ) → AllDigits 16 ds → AllPass is_ascii_hexdigit ds
all_hexadecimal [] all = All-nil (λ c. is_ascii_hexdigit c ≡ true)
all_hexadecimal (c ∷ ds) all = All-cons (λ d. is_ascii_hexdigit d ≡ true) c ds (hexadecimal c all.0) (all_hexadecimal ds all.1)

-- ---- one chunk

abbrev line_of : ℕ → SizeLine
line_of n = record { digits = digits 16 false n; extension = None }

few_digits : (n : ℕ) → n < 4294967296 → length (digits 16 false n) ≤ 8
unfolding digits
few_digits n small = digits_few 64 7 n [] (omega arith) (omega (arith, small))

size_line : (n : ℕ) → n < 4294967296 → IsSizeLine (line_of n) × (size_of (line_of n) ≡ n)
size_line n small =
    let read = digits_is_IsNumeral 16 false (omega arith) (omega arith) n (omega (arith, small)) in
    let few = few_digits n small in (
      record {
        some = read.0.0;
        few = few;
        hexadecimal = all_hexadecimal (digits 16 false n) read.0.1;
        text = All-nil (λ c. is_visible_or_blank c ≡ true);
        short = omega (arith, few, size_line_length (line_of n));
      },
      read.1,
    )

abbrev chunk_of : List ℕ → Chunk
chunk_of bytes = record { line = line_of (length bytes); bytes = bytes }

pub chunk_text : (bytes rest : List ℕ) → print_chunks (chunk_of bytes ∷ []) ++ rest ≡ one_chunk bytes ++ rest
chunk_text bytes rest =
    ap (λ (t : List ℕ). t ++ rest) (append-nil _ ∙ append_assoc (digits 16 false (length bytes)) crlf_bytes (bytes ++ crlf_bytes))

-- a text of one chunk
pub one_so_far : (limit : ℕ) (rest bytes : List ℕ) (left : ℕ) → 0 < length bytes → length bytes < 4294967296 → length bytes + left ≡ limit
    → IsSoFar limit (one_chunk bytes ++ rest) rest bytes left
one_so_far limit rest bytes left some small sum =
    let line = size_line (length bytes) small in
    record {
      chunks = chunk_of bytes ∷ [];
      are_chunks = (record { line = line.0; some = omega (arith, some, line.1); sized = sym line.1 }, tt);
      text_is = sym (chunk_text bytes rest);
      bytes_are = sym (append-nil bytes);
      left_is = omega (arith, sum, line.1);
    }

pub one_length : (bytes : List ℕ) → length bytes < 4294967296 → length (one_chunk bytes) ≤ length bytes + 12
one_length bytes small = omega (
  arith,
  few_digits (length bytes) small,
  length-append (digits 16 false (length bytes)) (crlf_bytes ++ (bytes ++ crlf_bytes)),
  length-append bytes crlf_bytes,
)

-- the sizes of chunks are those of their content
content_sizes : (cs : List Chunk) → AllByRecursion IsChunk cs → length (content cs) ≡ sizes cs
content_sizes [] are = refl
content_sizes (c ∷ cs) are = omega (arith, length-append c.bytes (content cs), are.0.sized, content_sizes cs are.1)

pub so_far_sum : {limit : ℕ} {text rest bytes : List ℕ} {left : ℕ} → IsSoFar limit text rest bytes left → length bytes + left ≡ limit
so_far_sum s = omega (arith, ap length s.bytes_are, content_sizes s.chunks s.are_chunks, s.left_is)

-- where there is a chunk, there is content
pub some_content : {limit : ℕ} {text bytes : List ℕ} {at' left : ℕ} → IsSoFarAt limit text bytes at' left → 0 < at' → 0 < length bytes
some_content {limit} {text} {bytes} {at'} {left} s some = of s.so_far.chunks s.so_far.are_chunks s.so_far.text_is s.so_far.bytes_are
  where
    of : (cs : List Chunk) → AllByRecursion IsChunk cs → text ≡ print_chunks cs ++ drop at' text → bytes ≡ content cs → 0 < length bytes
    of [] are text_is bytes_are = absurd (omega (arith, some, s.inside, ap length text_is, length-drop at' text))
    of (c ∷ cs) are text_is bytes_are =
        omega (arith, ap length bytes_are, length-append c.bytes (content cs), are.0.sized, are.0.some)
