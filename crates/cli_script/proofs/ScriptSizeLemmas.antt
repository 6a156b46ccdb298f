-- The pieces of a script are together no longer than the script.
use Rattle.std.proofs.Common.{◌≡◌, ◌≤◌, ◌<◌, ◌^◌, ℕ, ◌+◌, ◌-◌, ◌==◌, ◌||◌, Bool, true, false, List, [], ◌∷◌, ◌++◌, map, length, take, drop, cond, refl, ap, ◌∙◌, arith, length-append, Option, Some, None, Result, Ok, Err}
use Rattle.std.specs.List.{All, flat_map, before_first, slice_split, onto_first, slice_index, position_or_len}
use Rattle.std.specs.Option.{ForSome}
use Rattle.std.specs.Result.{result_unwrap_or}
use Rattle.std.specs.Str.Lines.{strip_carriage_return}
use Rattle.std.proofs.lemmas.List.{length-take, length-drop}
use Rattle.std.proofs.lemmas.List.Folds.{length-flat_map-take}
use Rattle.hex.specs.Hex.{decode_of}
use Rattle.hex.specs.declared.error.FromHexError.{FromHexError}
use Rattle.hex.proofs.HexLemmas.{decode_of-ok}
use Rattle.web_request.specs.declared.source.Mark.{Mark}
use Rattle.web_request.specs.declared.source.Mark.TheVariants as mark
use Rattle.web_request.specs.Body.{piece_bytes, whole}
use Rattle.cli_script.specs.Line.{Line, line_of, is_space, word_of}
use Rattle.cli_script.specs.ScriptedView.{ScriptedExchangeView}
use Rattle.cli_script.specs.LineKinds.{has}
use Rattle.cli_script.specs.ScriptExchanges.{line_marks, exchange_of, exchanges}
use Rattle.cli_script.specs.Script.{script_lines}
use Rattle.cli_script.specs.declared.line.Word.{Word}
use Rattle.cli_script.specs.declared.line.Word.TheVariants as word
use Rattle.cli_script.specs.Reader.{ReaderView}
use Rattle.cli_script.proofs.ReaderLemmas.{Keeps, IsRead}
use Rattle.web_texts.specs.Bytes.{is_newline}
use Rattle.web_texts.proofs.LastCutLemmas.{before_first-cons}

-- the bytes that a line and that lines give

abbrev size_of : Line → ℕ
size_of line = length (piece_bytes (line_marks line.word line.argument))

abbrev size : List Line → ℕ
size [] = 0
size (x ∷ lines) = size_of x + size lines

abbrev total : List ScriptedExchangeView → ℕ
total exchanges = length (flat_map (λ e. piece_bytes e.marks) exchanges)

length-piece_bytes : (m n : List Mark) → length (piece_bytes (m ++ n)) ≡ length (piece_bytes m) + length (piece_bytes n)
length-piece_bytes [] n = omega arith
length-piece_bytes (mark.Piece b ∷ m) n = rw (length-append b (piece_bytes (m ++ n)), length-append b (piece_bytes m)) (omega (arith, length-piece_bytes m n))
length-piece_bytes (mark.Stall ∷ m) n = length-piece_bytes m n
length-piece_bytes (mark.Fault ∷ m) n = length-piece_bytes m n

size_is : (head : List ℕ) (lines : List Line) → length (piece_bytes (exchange_of head lines).marks) ≡ size lines
size_is head [] = refl
size_is head (x ∷ lines) = length-piece_bytes (line_marks x.word x.argument) (exchange_of head lines).marks ∙ ap (λ n. size_of x + n) (size_is head lines)

step : (b : Bool) (x : Line) (rest : List Line) → total (exchanges rest) + size (before_first (has word.Exchange) rest) ≤ size rest
    → total (cond b (exchange_of x.argument (before_first (has word.Exchange) rest) ∷ exchanges rest) (exchanges rest)) + size (cond b [] (x ∷ before_first (has word.Exchange) rest)) ≤ size_of x + size rest
step true x rest e =
    let first = size_is x.argument (before_first (has word.Exchange) rest) in
    rw length-append (omega (arith, e, first))
step false x rest e = omega (arith, e)

-- the bytes of the exchanges, and of the lines before the first of them
total_le : (lines : List Line) → total (exchanges lines) + size (before_first (has word.Exchange) lines) ≤ size lines
total_le [] = omega arith
total_le (x ∷ rest) = rw (before_first-cons (has word.Exchange) x rest) (step (has word.Exchange x) x rest (total_le rest))

-- a line gives no more bytes than it has

joined_whole : (text : List ℕ) → length (piece_bytes (whole text)) ≡ length text
joined_whole [] = refl
joined_whole (x ∷ text) = rw length-append (omega arith)

decoded : (r : Result (List ℕ) FromHexError) (text : List ℕ) → decode_of text ≡ r → length (result_unwrap_or r []) ≤ length text
decoded (Ok bytes) text e = omega (arith, (decode_of-ok text bytes e).2)
decoded (Err e) text is = omega arith

marks_le : (v : Word) (text : List ℕ) → length (piece_bytes (line_marks v text)) ≤ length text
marks_le word.Text text = omega (arith, joined_whole text)
marks_le word.Piece text = omega (arith, joined_whole (result_unwrap_or (decode_of text) []), decoded (decode_of text) text refl)
marks_le word.Stall text = omega arith
marks_le word.Fault text = omega arith
marks_le word.Plan text = omega arith
marks_le word.Exchange text = omega arith
marks_le word.Header text = omega arith
marks_le word.Param text = omega arith
marks_le word.Layer text = omega arith
marks_le word.Peer text = omega arith
marks_le word.Local text = omega arith
marks_le word.Conn text = omega arith
marks_le word.Skipped text = omega arith
marks_le word.Unknown text = omega arith

argument_le : (b : Bool) (v : Word) (n : ℕ) (text : List ℕ)
    → size_of (cond b (record { word = word.Skipped; argument = [] }) (record { word = v; argument = drop n text })) ≤ length text
argument_le true v n text = omega arith
argument_le false v n text = omega (arith, marks_le v (drop n text), length-drop n text)

line_of_le : (text : List ℕ) → size_of (line_of text) ≤ length text
line_of_le text = argument_le (length text == 0 || slice_index text 0 == 35) (word_of (before_first is_space text)) (position_or_len is_space text + 1) text

stripped_le : (b : Bool) (n : ℕ) (text : List ℕ) → length (cond b (take n text) text) ≤ length text
stripped_le true n text = omega (arith, length-take n text)
stripped_le false n text = omega arith

line_le : (text : List ℕ) → size_of (line_of (strip_carriage_return text)) ≤ length text
line_le text =
    let stripped : length (strip_carriage_return text) ≤ length text = stripped_le (slice_index text (length text - 1) == 13) (length text - 1) text in
    let line : size_of (line_of (strip_carriage_return text)) ≤ length (strip_carriage_return text) = line_of_le (strip_carriage_return text) in
    omega (arith, stripped, line)

-- all lines together have no more bytes than the script

lengths : List (List ℕ) → ℕ
lengths [] = 0
lengths (part ∷ parts) = length part + lengths parts

lines_le : (parts : List (List ℕ)) → size (map (λ text. line_of (strip_carriage_return text)) parts) ≤ lengths parts
unfolding lengths
lines_le [] = omega arith
lines_le (part ∷ parts) = omega (arith, line_le part, lines_le parts)

onto_le : (b : Bool) (x : ℕ) (parts : List (List ℕ)) → lengths (cond b ([] ∷ parts) (onto_first x parts)) ≤ lengths parts + 1
unfolding lengths
onto_le true x parts = omega arith
onto_le false x [] = omega arith
onto_le false x (part ∷ parts) = omega arith

parts_le : (text : List ℕ) → lengths (slice_split is_newline text) ≤ length text
unfolding lengths
parts_le [] = omega arith
parts_le (x ∷ text) = omega (arith, onto_le (is_newline x) x (slice_split is_newline text), parts_le text)

pub sizes : (bytes : List ℕ) → total (exchanges (script_lines bytes)) ≤ length bytes
sizes bytes = omega (arith, total_le (script_lines bytes), lines_le (slice_split is_newline bytes), parts_le bytes)

pub each_small : (bytes : List ℕ) → length bytes < 2 ^ 63 → All (λ e. length (piece_bytes e.marks) < 2 ^ 63) (exchanges (script_lines bytes))
each_small bytes small =
    λ k d inside.
    let one = length-flat_map-take (λ (e : ScriptedExchangeView). piece_bytes e.marks) (exchanges (script_lines bytes)) k d inside in
    let all = sizes bytes in
    omega (arith, one, all, small)

-- ---- the pieces of the open exchange

size-append : (m n : List Line) → size (m ++ n) ≡ size m + size n
size-append [] n = omega arith
size-append (x ∷ m) n = omega (arith, size-append m n)

kept_small : (before : List Line) (whole : List ScriptedExchangeView) (o : Option ScriptedExchangeView) (f : Bool) → Keeps before whole o f → ForSome o (λ e. length (piece_bytes e.marks) ≤ size before)
kept_small before whole None f k = λ e is. absurd (cc)
kept_small before whole (Some x) f (first, front, rest, at) =
    λ e is.
    let same : x ≡ e = cc in
    let open_size : length (piece_bytes x.marks) ≡ size rest = rw at.open_is (size_is first.argument rest) in
    let all : size before ≡ size front + (size_of first + size rest) = rw at.before_is (size-append front (first ∷ rest)) in
    rw (← same) (omega (arith, open_size, all))

pub open_small : (bytes : List ℕ) (before left : List Line) (whole : List ScriptedExchangeView) (s : ReaderView) → length bytes < 2 ^ 63 → script_lines bytes ≡ before ++ left → IsRead before whole s
    → ForSome s.open_exchange (λ e. length (piece_bytes e.marks) < 2 ^ 63)
open_small bytes before left whole s small is read =
    λ e open_is.
    let one = kept_small before whole s.open_exchange s.has_fault read.exchange e open_is in
    let parts : size (script_lines bytes) ≡ size before + size left = rw is (size-append before left) in
    let lines = lines_le (slice_split is_newline bytes) in
    let all = parts_le bytes in
    omega (arith, one, parts, lines, all, small)
