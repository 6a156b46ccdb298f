-- What the steps of a reader, and the marks that are left, mean for what is due.
use Rattle.std.proofs.Common.{◌≡◌, ◌<◌, ◌+◌, ◌-◌, ℕ, zero, suc, Bool, List, [], ◌∷◌, ◌++◌, refl, sym, ◌∙◌, ap, length, map, arith, append_assoc, length-append}
use Rattle.std.specs.List.{AllByRecursion}
use Rattle.web_request.specs.declared.source.Mark.{Mark}
use Rattle.web_request.specs.declared.source.Mark.TheVariants.{Piece, Stall, Fault}
use Rattle.web_request.specs.Body.{ends_in_fault, piece_bytes}
use Rattle.web_multipart_parts.specs.Parts.{Closes, CutOff, Ending, Fails, Found, Parts, behind, later_ending, later_found, part_then}
use Rattle.web_multipart_parts.specs.PartReading.{GivesEnd, GivesPart, GoesOn, IsLaterEnding, IsLaterFound, Reader, Waits, parts_with}
use Rattle.web_multipart_parts.specs.declared.part.Part.{Part}
use Rattle.web_multipart_parts.specs.declared.part.PartError.{PartError}
use Rattle.web_body.specs.declared.message_body.PayloadError.TheVariants.{Io}
use Rattle.web_body.specs.Cuttings.{SameBody}
use Rattle.web_lines.specs.LineSchedules.{stalls_before}
use Rattle.web_multipart_stream.specs.MultipartErrors.{multipart_error}
use Rattle.web_multipart_stream.specs.PartSchedules.{Closed, Due, Failed, Outcome, Schedule, due, end_delay, ended, fed, later, one_later, outcome_of, part_due, schedule, scheduled}
use Rattle.web_multipart_stream.specs.ScheduleLaws.{SameParts}
use Rattle.web_multipart_stream.specs.declared.error.MultipartError.TheVariants as multipart

same_schedule : (f g : List Due) (m n : ℕ) (o p : Outcome) → f ≡ g → m ≡ n → o ≡ p
    → ◌≡◌ {A = Schedule} (record { parts = f; ends = m; outcome = o }) (record { parts = g; ends = n; outcome = p })
same_schedule f g m n o p a b c =
    ap (λ (x : List Due). let s : Schedule = record { parts = x; ends = m; outcome = o } in s) a
    ∙ (ap (λ (x : ℕ). let s : Schedule = record { parts = g; ends = x; outcome = o } in s) b
    ∙ ap (λ (x : Outcome). let s : Schedule = record { parts = g; ends = n; outcome = x } in s) c)

same_due : (a b : ℕ) (part : Part) → a ≡ b → ◌≡◌ {A = Due} (record { delay = a; part = part }) (record { delay = b; part = part })
same_due a b part e = ap (λ (x : ℕ). let d : Due = record { delay = x; part = part } in d) e

-- ---- so many bytes later

due_moved : (n came : ℕ) (m : List Mark) (f : Found) → due (n + came) m (later_found n f) ≡ due came m f
due_moved n came m f = let e : (n + f.known) - (n + came) ≡ f.known - came = omega arith in same_due _ _ f.part (ap (λ i. stalls_before i m) e)

all_moved : (n came : ℕ) (m : List Mark) (fs : List Found) → map (due (n + came) m) (map (later_found n) fs) ≡ map (due came m) fs
all_moved n came m [] = refl
all_moved n came m (f ∷ fs) = ap (λ x. x ∷ map (due (n + came) m) (map (later_found n) fs)) (due_moved n came m f) ∙ ap (λ xs. due came m f ∷ xs) (all_moved n came m fs)

end_moved : (n came : ℕ) (m : List Mark) (e : Ending) → end_delay (n + came) m (later_ending n e) ≡ end_delay came m e
end_moved n came m (Closes k) = let e : (n + k) - (n + came) ≡ k - came = omega arith in ap (λ i. stalls_before i m) e
end_moved n came m (Fails k error) = let e : (n + k) - (n + came) ≡ k - came = omega arith in ap (λ i. stalls_before i m) e
end_moved n came m CutOff = refl

outcome_moved : (n : ℕ) (fault : Bool) (e : Ending) → outcome_of fault (later_ending n e) ≡ outcome_of fault e
outcome_moved n fault (Closes k) = refl
outcome_moved n fault (Fails k error) = refl
outcome_moved n fault CutOff = refl

moved : (n came : ℕ) (m : List Mark) (p : Parts) → scheduled (n + came) m (behind n p) ≡ scheduled came m p
moved n came m p = same_schedule _ _ _ _ _ _ (all_moved n came m p.found) (end_moved n came m p.ending) (outcome_moved n (ends_in_fault m) p.ending)

pub schedule_goes : (old new : Reader) (m : List Mark) → GoesOn old new → schedule old m ≡ schedule new m
schedule_goes old new m g =
    ap (λ p. scheduled (length old.came) m p) (g.parts (piece_bytes m))
    ∙ (ap (λ k. scheduled k m (behind g.read (parts_with new (piece_bytes m)))) g.size
    ∙ moved g.read (length new.came) m (parts_with new (piece_bytes m)))

part_moved : (n came : ℕ) (m : List Mark) (part : Part) (p : Parts) → scheduled (n + came) m (part_then n part p) ≡ part_due part (scheduled came m p)
part_moved n came m part p =
    let now : n - (n + came) ≡ 0 = omega arith in
    same_schedule _ _ _ _ _ _
    (ap (λ x. x ∷ map (due (n + came) m) (map (later_found n) p.found)) (same_due _ 0 part (ap (λ i. stalls_before i m) now))
    ∙ ap (λ (xs : List Due). let d : Due = record { delay = 0; part = part } in d ∷ xs) (all_moved n came m p.found))
    (end_moved n came m p.ending) (outcome_moved n (ends_in_fault m) p.ending)

pub schedule_part : (old : Reader) (part : Part) (new : Reader) (m : List Mark) → GivesPart old part new → schedule old m ≡ part_due part (schedule new m)
schedule_part old part new m g =
    ap (λ p. scheduled (length old.came) m p) (g.parts (piece_bytes m))
    ∙ (ap (λ k. scheduled k m (part_then g.read part (parts_with new (piece_bytes m)))) g.size
    ∙ part_moved g.read (length new.came) m part (parts_with new (piece_bytes m)))

pub schedule_closes : (old : Reader) (m : List Mark) → GivesEnd old Closes → schedule old m ≡ ended Closed
schedule_closes old m g =
    let within = g.within in
    let now : g.read - length old.came ≡ 0 = omega (arith, within) in
    ap (λ p. scheduled (length old.came) m p) (g.parts (piece_bytes m))
    ∙ same_schedule [] [] (stalls_before (g.read - length old.came) m) 0 Closed Closed refl (ap (λ i. stalls_before i m) now) refl

pub schedule_fails : (old : Reader) (error : PartError) (m : List Mark) → GivesEnd old (λ n. Fails n error) → schedule old m ≡ ended (Failed (multipart_error error))
schedule_fails old error m g =
    let within = g.within in
    let now : g.read - length old.came ≡ 0 = omega (arith, within) in
    ap (λ p. scheduled (length old.came) m p) (g.parts (piece_bytes m))
    ∙ same_schedule [] [] (stalls_before (g.read - length old.came) m) 0 (Failed (multipart_error error)) (Failed (multipart_error error)) refl (ap (λ i. stalls_before i m) now) refl

-- ---- a piece

zero_less : (n : ℕ) → 0 - n ≡ 0
zero_less n = omega arith

stalls_piece : (n : ℕ) (b : List ℕ) (m : List Mark) → stalls_before n (Piece b ∷ m) ≡ stalls_before (n - length b) m
stalls_piece zero b m = ap (λ i. stalls_before i m) (sym (zero_less (length b)))
stalls_piece (suc n) b m = refl

delay_piece : (came n : ℕ) (b : List ℕ) (m : List Mark) → stalls_before (n - came) (Piece b ∷ m) ≡ stalls_before (n - (came + length b)) m
delay_piece came n b m =
    let e : (n - came) - length b ≡ n - (came + length b) = omega arith in
    stalls_piece (n - came) b m ∙ ap (λ i. stalls_before i m) e

all_piece : (came : ℕ) (b : List ℕ) (m : List Mark) (fs : List Found) → map (due came (Piece b ∷ m)) fs ≡ map (due (came + length b) m) fs
all_piece came b m [] = refl
all_piece came b m (f ∷ fs) = ap (λ x. x ∷ map (due came (Piece b ∷ m)) fs) (same_due _ _ f.part (delay_piece came f.known b m)) ∙ ap (λ xs. due (came + length b) m f ∷ xs) (all_piece came b m fs)

end_piece : (came : ℕ) (b : List ℕ) (m : List Mark) (e : Ending) → end_delay came (Piece b ∷ m) e ≡ end_delay (came + length b) m e
end_piece came b m (Closes n) = delay_piece came n b m
end_piece came b m (Fails n error) = delay_piece came n b m
end_piece came b m CutOff = refl

piece_scheduled : (came : ℕ) (b : List ℕ) (m : List Mark) (p : Parts) → scheduled came (Piece b ∷ m) p ≡ scheduled (came + length b) m p
piece_scheduled came b m p = same_schedule _ _ _ _ _ _ (all_piece came b m p.found) (end_piece came b m p.ending) refl

pub schedule_piece : (r : Reader) (b : List ℕ) (m : List Mark) → schedule r (Piece b ∷ m) ≡ schedule (fed r b) m
schedule_piece r b m =
    piece_scheduled (length r.came) b m (parts_with r (b ++ piece_bytes m))
    ∙ (ap (λ k. scheduled k m (parts_with r (b ++ piece_bytes m))) (sym (length-append r.came b))
    ∙ ap (λ (xs : List ℕ). scheduled (length (r.came ++ b)) m (parts_with (record r { came = [] }) xs)) (sym (append_assoc r.came b (piece_bytes m))))

-- ---- a stall

delay_stall : (came n : ℕ) (m : List Mark) → came < n → stalls_before (n - came) (Stall ∷ m) ≡ suc (stalls_before (n - came) m)
delay_stall came n m h =
    let e : n - came ≡ suc (n - came - 1) = omega (arith, h) in
    ap (λ i. stalls_before i (Stall ∷ m)) e ∙ ap (λ i. suc (stalls_before i m)) (sym e)

all_stall : (came : ℕ) (m : List Mark) (fs : List Found) → AllByRecursion (IsLaterFound came) fs → map (due came (Stall ∷ m)) fs ≡ map later (map (due came m) fs)
all_stall came m [] h = refl
all_stall came m (f ∷ fs) h = ap (λ x. x ∷ map (due came (Stall ∷ m)) fs) (same_due _ _ f.part (delay_stall came f.known m h.0)) ∙ ap (λ xs. later (due came m f) ∷ xs) (all_stall came m fs h.1)

end_stall : (came : ℕ) (m : List Mark) (e : Ending) → IsLaterEnding came e → end_delay came (Stall ∷ m) e ≡ suc (end_delay came m e)
end_stall came m (Closes n) h = delay_stall came n m h
end_stall came m (Fails n error) h = delay_stall came n m h
end_stall came m CutOff h = refl

pub schedule_stall : (r : Reader) (m : List Mark) → Waits r → schedule r (Stall ∷ m) ≡ one_later (schedule r m)
schedule_stall r m w =
    let l = w.later (piece_bytes m) in
    same_schedule _ _ _ _ _ _ (all_stall (length r.came) m (parts_with r (piece_bytes m)).found l.found) (end_stall (length r.came) m (parts_with r (piece_bytes m)).ending l.ending) refl

-- ---- the end

pub schedule_fault : (r : Reader) → Waits r → schedule r (Fault ∷ []) ≡ ended (Failed (multipart.Payload Io))
schedule_fault r w = ap (λ p. scheduled (length r.came) (Fault ∷ []) p) w.cut_off

pub schedule_none : (r : Reader) → Waits r → schedule r [] ≡ ended (Failed multipart.Grammar)
schedule_none r w = ap (λ p. scheduled (length r.came) [] p) w.cut_off

-- ---- other cuttings

dues_parts : (came : ℕ) (m : List Mark) (fs : List Found) → map (λ d. d.part) (map (due came m) fs) ≡ map (λ f. f.part) fs
dues_parts came m [] = refl
dues_parts came m (f ∷ fs) = ap (λ (ps : List Part). f.part ∷ ps) (dues_parts came m fs)

pub same_parts : (r : Reader) (m n : List Mark) → SameBody m n → SameParts (schedule r m) (schedule r n)
same_parts r m n same = record {
  parts =
      dues_parts (length r.came) m (parts_with r (piece_bytes m)).found
      ∙ (ap (λ (bs : List ℕ). map (λ f. f.part) (parts_with r bs).found) same.bytes
      ∙ sym (dues_parts (length r.came) n (parts_with r (piece_bytes n)).found));
  outcome =
      ap (λ (bs : List ℕ). outcome_of (ends_in_fault m) (parts_with r bs).ending) same.bytes
      ∙ ap (λ (b : Bool). outcome_of b (parts_with r (piece_bytes n)).ending) same.ending;
}
