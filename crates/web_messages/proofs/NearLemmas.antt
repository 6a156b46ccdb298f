-- How many bytes are after the chunks that were read, where the body is not whole.
use Rattle.std.proofs.Common.{◌≡◌, ℕ, ◌+◌, ◌≤◌, List, [], ◌∷◌, ◌++◌, length, drop, refl, sym, ap, ◌∙◌, arith, append-nil, length-append, length-drop}
use Rattle.std.specs.List.{AllByRecursion}
use Rattle.std.proofs.lemmas.Grind.{flat_map-append}
use Rattle.httparse.specs.Ascii.{crlf_bytes}
use Rattle.httparse.specs.Pieces.{Completes}
use Rattle.web_messages.specs.ChunkedBody.{Chunk, IsChunk, content, print_chunks, print_size_line, print_trailers}
use Rattle.std.specs.Borrow.{Bor}
use Rattle.web_messages.specs.declared.chunked.Chunked.{Chunked}
use Rattle.web_messages.specs.declared.chunked.Chunked.TheVariants as chunked
use Rattle.web_messages.specs.Chunking.{EndsNear, HasChunks, IsSoFar}
use Rattle.web_messages.specs.Lines.{DataLine, SizeLinePiece, TrailersPiece}
use Rattle.web_messages.proofs.ChunkLemmas.{GoesOn, behind, goes_on, inside}

-- a text that is completed to another is no longer than it
completed : (text more whole : List ℕ) → text ++ (more ++ []) ≡ whole → length text ≤ length whole
completed text more whole is = omega (arith, ap length is, length-append text (more ++ []))

pub line_near : {text : List ℕ} → Completes SizeLinePiece text → length text ≤ 256
line_near {text} x =
    let r = x.reads [] in
    let whole = completed text x.more (print_size_line x.tree) (r.1 ∙ append-nil (print_size_line x.tree)) in
    omega (arith, whole, r.0.short)

pub data_near : {size : ℕ} {text : List ℕ} → Completes (DataLine size) text → length text ≤ size + 2
data_near {size} {text} x =
    let r = x.reads [] in
    let whole = completed text x.more (x.tree ++ (crlf_bytes ++ [])) r.1 in
    omega (arith, whole, r.0, length-append x.tree (crlf_bytes ++ []))

pub trailers_near : {text : List ℕ} → Completes TrailersPiece text → length text ≤ 16386
trailers_near {text} x =
    let r = x.reads [] in
    let whole = completed text x.more (print_trailers x.tree ++ (crlf_bytes ++ [])) r.2 in
    omega (arith, whole, r.1, length-append (print_trailers x.tree) (crlf_bytes ++ []))

-- chunks without content are none
pub no_chunks : (es : List Chunk) → AllByRecursion IsChunk es → length (content es) ≡ 0 → es ≡ []
no_chunks [] are none = refl
no_chunks (c ∷ es) are none = absurd (omega (arith, none, length-append c.bytes (content es), are.0.sized, are.0.some))

-- the trailers are near the end of the chunks that were read
pub end_near : {limit left : ℕ} {text rest bytes after : List ℕ} → IsSoFar limit text rest bytes left → HasChunks text bytes after
    → length rest ≤ 256 + length after
end_near {limit} {left} {text} {rest} {bytes} {after} s h =
    of (goes_on s.chunks h.chunks h.last rest after s.are_chunks h.are_chunks h.is_last (sym s.text_is ∙ h.text_is))
  where
    of : GoesOn s.chunks h.chunks h.last rest after → length rest ≤ 256 + length after
    of (inside some fits) = absurd (omega (arith, some, h.ends))
    of (behind es are is text_is) =
        let same : content s.chunks ≡ content s.chunks ++ content es =
        sym s.bytes_are ∙ h.bytes_are ∙ ap content is ∙ flat_map-append (λ (c : Chunk). c.bytes) s.chunks es in
        let none : length (content es) ≡ 0 = omega (arith, ap length same, length-append (content s.chunks) (content es)) in
        let size : length rest ≡ length (print_size_line h.last ++ after) =
        ap length (text_is ∙ ap (λ (cs : List Chunk). print_chunks cs ++ (print_size_line h.last ++ after)) (no_chunks es are none)) in
        omega (arith, size, length-append (print_size_line h.last) after, h.is_last.short)

-- the same, of places in the text
pub drop_near : (text : List ℕ) (at' start : ℕ) → at' ≤ length text → start ≤ length text → length (drop at' text) ≤ 256 + length (drop start text)
    → start ≤ at' + 256
drop_near text at' start a b near = omega (arith, a, b, near, length-drop at' text, length-drop start text)

-- the same, of an end that is near another place
pub near_too : (at' room start few : ℕ) (text : List ℕ) (x : Chunked (Bor (List ℕ))) → start + few ≤ at' + room → EndsNear start few text x
    → EndsNear at' room text x
near_too at' room start few text (chunked.Body rest) less h = tt
near_too at' room start few text chunked.TooLarge less h = tt
near_too at' room start few text chunked.Unfinished less h = omega (arith, less, h)
near_too at' room start few text chunked.Wrong less h = tt
