-- The answers of lines do not depend on the cutting.
use Rattle.std.proofs.Common.{◌≡◌, ℕ, Bool, List, [], ◌∷◌, ◌++◌, map, refl, sym, ◌∙◌, ap}
use Rattle.web_request.specs.declared.source.Mark.{Mark}
use Rattle.web_request.specs.Body.{ends_in_fault, piece_bytes}
use Rattle.web_body.specs.Cuttings.{SameBody}
use Rattle.web_lines.specs.LineCuttings.{answers_of}
use Rattle.web_lines.specs.LineSchedules.{due, schedule}
use Rattle.web_lines.specs.Lines.{Answer, LineAnswer, line_answers}

dues_answers : (came : ℕ) (m : List Mark) (l : List LineAnswer) → map (λ d. d.answer) (map (due came m) l) ≡ map (λ a. a.answer) l
dues_answers came m [] = refl
dues_answers came m (a ∷ l) = ap (λ (r : List Answer). a.answer ∷ r) (dues_answers came m l)

pub same_answers : (limit : ℕ) (came : List ℕ) (m n : List Mark) → SameBody m n → answers_of (schedule limit came m) ≡ answers_of (schedule limit came n)
same_answers limit came m n same =
    dues_answers _ m (line_answers limit (ends_in_fault m) (came ++ piece_bytes m))
    ∙ (ap (λ (b : Bool). map (λ a. a.answer) (line_answers limit b (came ++ piece_bytes m))) same.ending
    ∙ (ap (λ (bs : List ℕ). map (λ a. a.answer) (line_answers limit (ends_in_fault n) (came ++ bs))) same.bytes
    ∙ sym (dues_answers _ n (line_answers limit (ends_in_fault n) (came ++ piece_bytes n)))))
