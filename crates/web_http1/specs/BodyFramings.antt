-- How the receiver of a reply knows the end of its body, and the text of a body that is written
-- piece by piece (RFC 7230, sections 3.3.3 and 4.1).
use Rattle.std.specs.Prelude.{◌≡◌, ℕ, ◌-◌, ◌≤◌, false, List, [], ◌∷◌, ◌++◌, length, codes, ⊤}
use Rattle.std.specs.Fmt.{digits}
use Rattle.web_request.specs.Body.{ends_in_fault, piece_bytes}
use Rattle.web_request.specs.declared.source.Mark.{Mark}
use Rattle.web_request.specs.declared.source.Mark.TheVariants.{Piece, Stall, Fault}
use Rattle.web_http1.specs.declared.due_body.BodyFraming.{BodyFraming}
use Rattle.web_http1.specs.declared.due_body.BodyFraming.TheVariants.{Length, Chunked, UntilClose}
use Rattle.web_http1.specs.ReplyBytes.{crlf}

-- the size in hexadecimal digits, as few as it has, and the bytes
abbrev pub chunk_text : List ℕ → List ℕ
chunk_text b = digits 16 false (length b) ++ crlf ++ b ++ crlf

-- the last chunk, and no trailers
abbrev pub last_chunk : List ℕ
last_chunk = codes "0" ++ crlf ++ crlf

-- a chunk of each piece, and the last one
abbrev pub chunks_text : List Mark → List ℕ
chunks_text [] = last_chunk
chunks_text (Piece b ∷ m) = chunk_text b ++ chunks_text m
chunks_text (Stall ∷ m) = chunks_text m
chunks_text (Fault ∷ m) = chunks_text m

-- the text of a body of these marks
abbrev pub body_text : BodyFraming → List Mark → List ℕ
body_text (Length n) marks = piece_bytes marks
body_text Chunked marks = chunks_text marks
body_text UntilClose marks = piece_bytes marks

-- the text of one piece, and what stands after the last
abbrev pub piece_text : BodyFraming → List ℕ → List ℕ
piece_text (Length n) b = b
piece_text Chunked b = chunk_text b
piece_text UntilClose b = b

abbrev pub end_text : BodyFraming → List ℕ
end_text (Length n) = []
end_text Chunked = last_chunk
end_text UntilClose = []

-- the framing of what is left after k bytes
abbrev pub after_bytes : BodyFraming → ℕ → BodyFraming
after_bytes (Length n) k = Length (n - k)
after_bytes Chunked k = Chunked
after_bytes UntilClose k = UntilClose

-- k bytes are no more than are due
abbrev pub Fits : BodyFraming → ℕ → Type 0
Fits (Length n) k = k ≤ n
Fits Chunked k = ⊤
Fits UntilClose k = ⊤

-- no byte is due any more
abbrev pub NoneIsDue : BodyFraming → Type 0
NoneIsDue (Length n) = n ≡ 0
NoneIsDue Chunked = ⊤
NoneIsDue UntilClose = ⊤

-- the marks have the length that is stated, and reading them does not fail
abbrev pub IsAsStated : BodyFraming → List Mark → Type 0
IsAsStated (Length n) marks = (ends_in_fault marks ≡ false) × (length (piece_bytes marks) ≡ n)
IsAsStated Chunked marks = ends_in_fault marks ≡ false
IsAsStated UntilClose marks = ends_in_fault marks ≡ false
