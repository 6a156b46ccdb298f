-- A connection whose bytes were taken piece by piece.
use Rattle.std.proofs.Common.{◌≡◌, ℕ, Bool, List, [], ◌∷◌, ◌++◌, Option, None, Some, refl, sym, ap, ◌∙◌, subst, append_assoc, append-nil}
use Rattle.std.specs.Prelude.{MatchOption}
use Rattle.std.proofs.lemmas.List.{append_cancel_left}
use Rattle.web_worker.specs.Setting.{Setting}
use Rattle.web_messages.specs.declared.limits.Limits.{Limits}
use Rattle.web_messages.proofs.SkipLemmas.{same_ahead}
use Rattle.web_http1.specs.declared.ended.Ended.{Ended}
use Rattle.web_http1.specs.declared.ended.Ended.TheVariants as ended
use Rattle.web_http1.specs.Answers.{Answer, Served}
use Rattle.web_http1.specs.Connections.{ConnectionView, GoesOn, StepsTo, WaitsForMore, open_at}
use Rattle.web_http1.specs.ConnectionPieces.{AnswersWhole, Fed, FinishedWith, IsPrefixOfAnswers, joined}
use Rattle.web_http1.specs.ConnectionSteps.{with_piece}
use Rattle.web_http1.specs.Serving.{AnswersAll}
use Rattle.web_http1.proofs.ConnectionLemmas.{goes_further}
use Rattle.web_http1.proofs.GoesLemmas as given_of
use Rattle.web_http1.proofs.GoesLemmas.{none_written}
use Rattle.web_http1.proofs.ServingLemmas.{waits_empty}

module _ {S L D C V K : Type 0} (s : Setting S L D C V K) where
  -- a connection that ended goes on as it did, whatever is left of it
  pub ended_goes : (c : ConnectionView) (piece : List ℕ) (e : Ended) (more : List ℕ) (xs : List Answer) (given rest : List ℕ) (closed : Bool)
      → GoesOn s c (Some e) (piece ++ more) xs given rest closed → GoesOn s (with_piece c piece) (Some e) more xs given rest closed
  ended_goes c piece ended.Closed more xs given rest closed g = g
  ended_goes c piece (ended.Refused w) more xs given rest closed g = g
  ended_goes c piece ended.SourceFault more xs given rest closed g = g
  ended_goes c piece ended.NoMemory more xs given rest closed g = g

  -- one piece
  piece_goes : (c mid : ConnectionView) (piece before first more : List ℕ) (xs : List Answer) (given rest : List ℕ) (closed : Bool) (o : Option Ended) → c.ended ≡ o
      → mid.limits ≡ c.limits → MatchOption o (StepsTo s (with_piece c piece) mid before (before ++ first)) (λ e. (mid ≡ with_piece c piece) × (before ++ first ≡ before))
      → GoesOn s c o (piece ++ more) xs given rest closed → GoesOn s mid mid.ended more xs (given ++ first) rest closed
  piece_goes c mid piece before first more xs given rest closed None is same step g =
      let served = subst (λ (t : List ℕ). Served s c.limits t g.0 g.1 closed) (sym (append_assoc c.left piece more)) g.3 in
      let written : step.0 ≡ first = sym (append_cancel_left before first step.0 step.1) in
      subst (λ (t : List ℕ). GoesOn s mid mid.ended more xs (given ++ t) rest closed) written
      (goes_further s (with_piece c piece) mid more xs given step.0 rest closed same (g.0, g.1, g.2, served, g.4) (step.2 more g.0 g.1 closed served))
  piece_goes c mid piece before first more xs given rest closed (Some e) is same step g =
      let none : given ≡ given ++ first = sym (ap (λ (t : List ℕ). given ++ t) (none_written before first step.1) ∙ append-nil given) in
      let now = subst (λ (o : Option Ended). GoesOn s (with_piece c piece) o more xs given rest closed) (sym is) (ended_goes c piece e more xs given rest closed g) in
      subst (λ (d : ConnectionView). GoesOn s d d.ended more xs (given ++ first) rest closed) (sym step.0)
      (subst (λ (t : List ℕ). GoesOn s (with_piece c piece) c.ended more xs t rest closed) none now)

  -- all pieces
  fed_goes : (c : ConnectionView) (pieces : List (List ℕ)) (new : ConnectionView) (others : List ℕ) → Fed s c pieces new others
      → (more : List ℕ) (xs : List Answer) (given rest : List ℕ) (closed : Bool) → GoesOn s c c.ended (joined pieces ++ more) xs given rest closed
      → GoesOn s new new.ended more xs (given ++ others) rest closed
  fed_goes c [] new others fed more xs given rest closed g =
      subst (λ (d : ConnectionView). GoesOn s d d.ended more xs (given ++ others) rest closed) (sym fed.0)
      (subst (λ (t : List ℕ). GoesOn s c c.ended more xs t rest closed) (sym (ap (λ (t : List ℕ). given ++ t) fed.1 ∙ append-nil given)) g)
  fed_goes c (piece ∷ pieces) new others fed more xs given rest closed g =
      let g' = subst (λ (t : List ℕ). GoesOn s c c.ended t xs given rest closed) (append_assoc piece (joined pieces) more) g in
      let first = piece_goes c fed.0 piece fed.1 fed.2 (joined pieces ++ more) xs given rest closed c.ended refl fed.5 fed.4 g' in
      let all = fed_goes fed.0 pieces new fed.3 fed.7 more xs (given ++ fed.2) rest closed first in
      subst (λ (t : List ℕ). GoesOn s new new.ended more xs t rest closed) (append_assoc given fed.2 fed.3 ∙ ap (λ (t : List ℕ). given ++ t) (sym fed.8)) all

  fed_waits : (c : ConnectionView) (pieces : List (List ℕ)) (new : ConnectionView) (given : List ℕ) → Fed s c pieces new given → WaitsForMore c → WaitsForMore new
  fed_waits c [] new given fed w = subst WaitsForMore (sym fed.0) w
  fed_waits c (piece ∷ pieces) new given fed w = fed_waits fed.0 pieces new fed.3 fed.7 fed.6

  fed_limits : (c : ConnectionView) (pieces : List (List ℕ)) (new : ConnectionView) (given : List ℕ) → Fed s c pieces new given → new.limits ≡ c.limits
  fed_limits c [] new given fed = ap (λ (d : ConnectionView). d.limits) fed.0
  fed_limits c (piece ∷ pieces) new given fed = fed_limits fed.0 pieces new fed.3 fed.7 ∙ fed.5

  module _ (limits : Limits) (pieces : List (List ℕ)) (new : ConnectionView) (given : List ℕ) (fed : Fed s (open_at limits []) pieces new given) where
    goes : (more : List ℕ) (xs : List Answer) (rest : List ℕ) (closed : Bool) → Served s limits (joined pieces ++ more) xs rest closed
        → GoesOn s new new.ended more xs given rest closed
    goes more xs rest closed v = fed_goes (open_at limits []) pieces new given fed more xs [] rest closed (xs, rest, same_ahead limits rest, v, refl)

    waits : WaitsForMore new
    waits = fed_waits (open_at limits []) pieces new given fed (waits_empty limits (open_at limits []) refl)

    same : new.limits ≡ limits
    same = fed_limits (open_at limits []) pieces new given fed

    pub is_prefix : IsPrefixOfAnswers s limits (joined pieces) given
    is_prefix = given_of.is_prefix s limits (joined pieces) new given same goes

    pub answers_whole : AnswersWhole s limits (joined pieces) new.ended given
    answers_whole = given_of.answers_whole s limits (joined pieces) new given same goes waits

    pub answers_all : (end : Ended) (tail : List ℕ) → FinishedWith new end tail → AnswersAll s limits (joined pieces) end [] (given ++ tail)
    answers_all = given_of.answers_all s limits (joined pieces) new given same goes waits
