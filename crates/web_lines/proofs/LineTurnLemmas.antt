-- What a turn of a payload means for the answers of its lines, where the front of a line came.
use Rattle.std.proofs.Common.{◌≡◌, ◌<◌, ℕ, true, false, List, [], ◌∷◌, ◌++◌, Ok, Err, Option, None, Some, refl, sym, ap, length, subst, arith}
use Rattle.std.specs.Prelude.{IfSome, option_map}
use Rattle.std.specs.Str.{is_utf8}
use Rattle.std.proofs.lemmas.List.{append-nil}
use Rattle.web_request.specs.declared.source.Mark.{Mark}
use Rattle.web_request.specs.declared.source.Mark.TheVariants.{Piece, Stall, Fault}
use Rattle.web_request.specs.Feed.{Takes, TakesLast, NoneLeft}
use Rattle.web_body.specs.declared.message_body.PayloadError.TheVariants.{Io}
use Rattle.web_body.specs.declared.errors.lines_error.ReadlinesError.{ReadlinesError}
use Rattle.web_body.specs.declared.errors.lines_error.ReadlinesError.TheVariants as lines
use Rattle.web_body.specs.Collector.{StallsNext}
use Rattle.web_lines.specs.Lines.{Answer, AtEnd, line_answers, text_answer}
use Rattle.web_lines.specs.LineSchedules.{error_due, line_due, nothing_due, one_later, schedule}
use Rattle.web_lines.specs.LineCuts.{IsUnfinished, TakesFirst}
use Rattle.web_lines.proofs.LineCutLemmas.{GivesError, first_due}
use Rattle.web_lines.proofs.LineLemmas.{fits, one_line}
use Rattle.web_lines.proofs.ScheduleLemmas.{schedule_piece, schedule_stall}

-- ---- the end of a body after the front of a line

fault_answer : (limit : ℕ) (came : List ℕ) → IsUnfinished limit came → line_answers limit true came ≡ record { known = AtEnd; answer = Err (lines.Payload Io) } ∷ []
fault_answer limit [] on = refl
fault_answer limit (b ∷ came) on = rw (one_line b came on.none, on.none, fits limit (length (b ∷ came)) on.within) refl

last_answer : (limit : ℕ) (came : List ℕ) (answer : Answer) → IsUnfinished limit came → 0 < length came → text_answer came ≡ answer
    → line_answers limit false came ≡ record { known = AtEnd; answer = answer } ∷ []
last_answer limit [] answer on some is = absurd (omega (arith, some))
last_answer limit (b ∷ came) answer on some is = rw (one_line b came on.none, on.none, fits limit (length (b ∷ came)) on.within, is) refl

schedule_fault : (limit : ℕ) (came : List ℕ) → IsUnfinished limit came → schedule limit came (Fault ∷ []) ≡ error_due (lines.Payload Io)
schedule_fault limit came on = rw (append-nil came, fault_answer limit came on) refl

schedule_line : (limit : ℕ) (came : List ℕ) → IsUnfinished limit came → 0 < length came → is_utf8 came ≡ true → schedule limit came [] ≡ line_due came nothing_due
schedule_line limit came on some good =
    let fine : text_answer came ≡ Ok came = rw good refl in
    rw (append-nil came, last_answer limit came (Ok came) on some fine) refl

schedule_error : (limit : ℕ) (came : List ℕ) → IsUnfinished limit came → 0 < length came → is_utf8 came ≡ false → schedule limit came [] ≡ error_due lines.EncodingError
schedule_error limit came on some bad =
    let wrong : text_answer came ≡ Err lines.EncodingError = rw bad refl in
    rw (append-nil came, last_answer limit came (Err lines.EncodingError) on some wrong) refl

-- ---- what was cut off

pub cut_gives : (limit : ℕ) (came text held piece : List ℕ) → TakesFirst limit came text held piece → (marks : Option (List Mark))
    → option_map (schedule limit came) marks ≡ option_map (line_due text) (option_map (schedule limit (held ++ piece)) marks)
cut_gives limit came text held piece gives None = refl
cut_gives limit came text held piece gives (Some m) = rw gives.held_is (ap Some (first_due limit came text piece gives.first gives.good m))

pub cut_fails : (limit : ℕ) (came : List ℕ) (error : ReadlinesError) → GivesError limit came error → (marks : Option (List Mark))
    → IfSome (option_map (schedule limit came) marks) (λ s. s ≡ error_due error)
cut_fails limit came error gives None = tt
cut_fails limit came error gives (Some m) = gives m

-- ---- the turns

pub turn_piece : (limit : ℕ) (came b : List ℕ) (old new : Option (List Mark)) → Takes (Piece b) old new
    → option_map (schedule limit (came ++ b)) new ≡ option_map (schedule limit came) old
turn_piece limit came b None new t = rw t refl
turn_piece limit came b (Some m) new t = rw (t.2, t.1) (ap Some (sym (schedule_piece limit came b t.0)))

module _ (limit : ℕ) (came : List ℕ) (on : IsUnfinished limit came) where
  pub turn_stall : (old new : Option (List Mark)) → Takes Stall old new
      → option_map (schedule limit came) old ≡ option_map one_later (option_map (schedule limit came) new)
  turn_stall None new t = rw t refl
  turn_stall (Some m) new t = rw (t.2, t.1) (ap Some (schedule_stall limit came t.0 on))

  pub turn_fault : (old new : Option (List Mark)) → TakesLast Fault old new
      → IfSome (option_map (schedule limit came) old) (λ s. s ≡ error_due (lines.Payload Io))
  turn_fault None new t = tt
  turn_fault (Some m) new t = rw t.0 (schedule_fault limit came on)

  pub end_line : (text : List ℕ) → text ≡ came → 0 < length came → is_utf8 came ≡ true → (old new : Option (List Mark)) → NoneLeft old new
      → option_map (schedule limit came) old ≡ option_map (line_due text) (option_map (schedule limit []) new)
  end_line text is some good None new t = rw t refl
  end_line text is some good (Some m) new t = rw (t.1, t.0, is) (ap Some (schedule_line limit came on some good))

  pub end_error : 0 < length came → is_utf8 came ≡ false → (old new : Option (List Mark)) → NoneLeft old new
      → IfSome (option_map (schedule limit came) old) (λ s. s ≡ error_due lines.EncodingError)
  end_error some bad None new t = tt
  end_error some bad (Some m) new t = rw t.0 (schedule_error limit came on some bad)

pub end_none : (limit : ℕ) (old new : Option (List Mark)) → NoneLeft old new → IfSome (option_map (schedule limit []) old) (λ s. s ≡ nothing_due)
end_none limit None new t = tt
end_none limit (Some m) new t = rw t.0 refl

pub end_same : (limit : ℕ) (old new : Option (List Mark)) → NoneLeft old new → option_map (schedule limit []) new ≡ option_map (schedule limit []) old
end_same limit None new t = rw t refl
end_same limit (Some m) new t = rw (t.1, t.0) refl

-- ---- where a stall is next, nothing else is

pub no_piece : (b : List ℕ) (old new : Option (List Mark)) → Takes (Piece b) old new → StallsNext old → ⊥
no_piece b None new t next = next
no_piece b (Some m) new t next = subst (λ (x : List Mark). StallsNext (Some x)) t.1 next

pub no_fault : (old new : Option (List Mark)) → TakesLast Fault old new → StallsNext old → ⊥
no_fault None new t next = next
no_fault (Some m) new t next = subst (λ (x : List Mark). StallsNext (Some x)) t.0 next

pub no_end : (old new : Option (List Mark)) → NoneLeft old new → StallsNext old → ⊥
no_end None new t next = next
no_end (Some m) new t next = subst (λ (x : List Mark). StallsNext (Some x)) t.0 next

pub no_marks : (old : Option (List Mark)) → old ≡ None → StallsNext old → ⊥
no_marks old is next = subst StallsNext is next
