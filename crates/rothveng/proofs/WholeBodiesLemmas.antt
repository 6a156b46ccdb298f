-- A body in one piece has no stall: what is read of it comes at the first poll.
use Rattle.std.proofs.Common.{◌≡◌, ℕ, zero, suc, ◌-◌, Bool, true, false, cond, List, [], ◌∷◌, ◌++◌, map, length, refl, nat_lt}
use Rattle.std.specs.Prelude.{Option, None, Some, Result, Ok, Err}
use Rattle.std.specs.Option.{option_map}
use Rattle.http_header.specs.FieldValue.{FieldValue}
use Rattle.http_header.specs.HeaderMap.{Entries}
use Rattle.web_texts.specs.declared.errors.ContentTypeError.{ContentTypeError}
use Rattle.web_request.specs.declared.source.Mark.TheVariants.{Piece}
use Rattle.web_request.specs.Body.{ends_in_fault, piece_bytes, stalls, whole}
use Rattle.web_request.specs.Reading.{reading, reading_at}
use Rattle.web_body.specs.HeadTests.{refusal_by}
use Rattle.web_lines.specs.Lines.{AfterBytes, Answer, AtEnd, LineAnswer, Moment, line_answers}
use Rattle.web_lines.specs.LineSchedules.{delay_of, due, end_of, ends_at, stalls_before}
use Rattle.web_reply.specs.Replies.{Fault}
use Rattle.web_extract.specs.BodyArguments.{body_result, collected_result, payload_fault, read_result, unless_refused}
use Rattle.web_extract.specs.ListResults.{DelayedResult}
use Rattle.web_extract_body.specs.HandledBodies.{delay_of_body, rest_where}
use Rattle.web_multipart_parts.specs.PartReading.{Reader, new_reader, parts_with}
use Rattle.web_multipart_parts.specs.Parts.{Closes, CutOff, Ending, Fails}
use Rattle.web_multipart_stream.specs.PartSchedules.{end_delay, schedule}
use Rattle.web_multipart_stream.specs.StreamViews.{due_by}
use Rattle.demo_arguments.specs.LinesArgument.{result_by}

-- reading it under a limit

read_none : (over : Bool) → (reading_at (cond over (Some []) None) []).delay ≡ 0
read_none true = refl
read_none false = refl

read_piece : (before behind : Bool) (b : List ℕ)
    → (reading_at (cond before (Some []) (cond behind (Some (Piece b ∷ [])) None)) (Piece b ∷ [])).delay ≡ 0
read_piece true behind b = refl
read_piece false true b = refl
read_piece false false b = refl

pub reading_whole : (limit : ℕ) (b : List ℕ) → (reading limit (whole b)).delay ≡ 0
unfolding reading
reading_whole limit [] = read_none (nat_lt limit 0)
reading_whole limit (x ∷ xs) = read_piece (nat_lt limit 0) (nat_lt limit (length (piece_bytes (Piece (x ∷ xs) ∷ [])))) (x ∷ xs)

unless_whole : {T : Type 0} (refusal : Option Fault) (r : DelayedResult T) → r.delay ≡ 0 → (unless_refused refusal r).delay ≡ 0
unless_whole None r h = h
unless_whole (Some e) r h = refl

pub body_whole : (refusal : Option Fault) (limit : ℕ) (headers : Entries FieldValue) (b : List ℕ)
    → (body_result refusal limit headers (whole b)).delay ≡ 0
body_whole refusal limit headers b =
    unless_whole refusal (collected_result limit headers (whole b))
    (unless_whole (option_map payload_fault (refusal_by headers limit)) (read_result (reading limit (whole b))) (reading_whole limit b))

-- the same of what another argument left of it
pub body_left : (is_taken : Bool) (refusal : Option Fault) (limit : ℕ) (headers : Entries FieldValue) (b : List ℕ)
    → (body_result refusal limit headers (rest_where is_taken (whole b))).delay ≡ 0
body_left true refusal limit headers b = body_whole refusal limit headers []
body_left false refusal limit headers b = body_whole refusal limit headers b

pub decoded_whole : {E : Type 0} (limit : ℕ) (refusal : Option E) (b : List ℕ) → delay_of_body limit refusal (whole b) ≡ 0
decoded_whole limit None b = reading_whole limit b
decoded_whole limit (Some e) b = refl

-- its lines and its parts

stalls_whole : (b : List ℕ) → stalls (whole b) ≡ 0
stalls_whole [] = refl
stalls_whole (x ∷ xs) = refl

before_none : (n : ℕ) → stalls_before n [] ≡ 0
before_none zero = refl
before_none (suc n) = refl

before_whole : (n : ℕ) (b : List ℕ) → stalls_before n (whole b) ≡ 0
before_whole zero b = refl
before_whole (suc n) [] = refl
before_whole (suc n) (x ∷ xs) = before_none (suc n - length (x ∷ xs))

line_whole : (came : ℕ) (b : List ℕ) (known : Moment) → delay_of came (whole b) known ≡ 0
line_whole came b (AfterBytes n) = before_whole (n - came) b
line_whole came b AtEnd = stalls_whole b

ends_whole : (answer : Answer) (delay rest : ℕ) → delay ≡ 0 → rest ≡ 0 → ends_at answer delay rest ≡ 0
ends_whole (Ok line) delay rest now none = none
ends_whole (Err error) delay rest now none = now

end_whole : (came : ℕ) (b : List ℕ) (answers : List LineAnswer) → end_of (stalls (whole b)) (map (due came (whole b)) answers) ≡ 0
end_whole came b [] = stalls_whole b
end_whole came b (a ∷ answers) =
    ends_whole a.answer (delay_of came (whole b) a.known) (end_of (stalls (whole b)) (map (due came (whole b)) answers))
    (line_whole came b a.known) (end_whole came b answers)

pub lines_whole : (encoding : Result (Unit {0}) ContentTypeError) (limit : ℕ) (b : List ℕ) → (result_by encoding limit (whole b)).delay ≡ 0
lines_whole (Ok done) limit b = end_whole 0 b (line_answers limit (ends_in_fault (whole b)) ([] ++ piece_bytes (whole b)))
lines_whole (Err e) limit b = refl

closing_whole : (came : ℕ) (b : List ℕ) (ending : Ending) → end_delay came (whole b) ending ≡ 0
closing_whole came b (Closes n) = before_whole (n - came) b
closing_whole came b (Fails n error) = before_whole (n - came) b
closing_whole came b CutOff = stalls_whole b

schedule_whole : (r : Reader) (b : List ℕ) → (schedule r (whole b)).ends ≡ 0
schedule_whole r b = closing_whole (length r.came) b (parts_with r (piece_bytes (whole b))).ending

pub parts_whole : (boundary : Option (List ℕ)) (is_coded : Bool) (limit : ℕ) (b : List ℕ) → (due_by boundary is_coded limit (whole b)).ends ≡ 0
parts_whole None is_coded limit b = refl
parts_whole (Some boundary) true limit b = refl
parts_whole (Some boundary) false limit b = schedule_whole (new_reader boundary limit) b
