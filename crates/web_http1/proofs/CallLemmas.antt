-- A connection that took pieces and answered, in any order of the calls.
use Rattle.std.proofs.Common.{◌≡◌, ℕ, Bool, List, [], ◌∷◌, ◌++◌, Option, None, Some, refl, sym, ap, ◌∙◌, subst, append_assoc, append-nil}
use Rattle.std.specs.Prelude.{MatchOption}
use Rattle.std.proofs.lemmas.List.{append_cancel_left}
use Rattle.web_worker.specs.Setting.{Setting}
use Rattle.web_messages.specs.declared.limits.Limits.{Limits}
use Rattle.web_messages.proofs.SkipLemmas.{same_ahead}
use Rattle.web_http1.specs.declared.ended.Ended.{Ended}
use Rattle.web_http1.specs.Answers.{Answer, Served}
use Rattle.web_http1.specs.ConnectionCalls.{Call, Called, fed}
use Rattle.web_http1.specs.Connections.{ConnectionView, GoesOn, StepsTo, WaitsForMore, open_at}
use Rattle.web_http1.specs.ConnectionPieces.{AnswersWhole, FinishedWith, IsPrefixOfAnswers}
use Rattle.web_http1.specs.ConnectionSteps.{with_piece}
use Rattle.web_http1.specs.Serving.{AnswersAll}
use Rattle.web_http1.proofs.ConnectionLemmas.{goes_further}
use Rattle.web_http1.proofs.GoesLemmas as given_of
use Rattle.web_http1.proofs.GoesLemmas.{none_written}
use Rattle.web_http1.proofs.PieceLemmas.{ended_goes}

module _ {S L D C V K : Type 0} (s : Setting S L D C V K) where
  -- a piece was taken
  piece_taken : (c : ConnectionView) (piece more : List ℕ) (xs : List Answer) (given rest : List ℕ) (closed : Bool) (o : Option Ended)
      → GoesOn s c o (piece ++ more) xs given rest closed → GoesOn s (with_piece c piece) o more xs given rest closed
  piece_taken c piece more xs given rest closed None g =
      (g.0, g.1, g.2, subst (λ (t : List ℕ). Served s c.limits t g.0 g.1 closed) (sym (append_assoc c.left piece more)) g.3, g.4)
  piece_taken c piece more xs given rest closed (Some e) g = ended_goes s c piece e more xs given rest closed g

  -- an answer
  answered : (c mid : ConnectionView) (before first more : List ℕ) (xs : List Answer) (given rest : List ℕ) (closed : Bool) (o : Option Ended)
      → mid.limits ≡ c.limits → MatchOption o (StepsTo s c mid before (before ++ first)) (λ e. (mid ≡ c) × (before ++ first ≡ before))
      → c.ended ≡ o → GoesOn s c o more xs given rest closed → GoesOn s mid mid.ended more xs (given ++ first) rest closed
  answered c mid before first more xs given rest closed None same step is g =
      let written : step.0 ≡ first = sym (append_cancel_left before first step.0 step.1) in
      subst (λ (t : List ℕ). GoesOn s mid mid.ended more xs (given ++ t) rest closed) written
      (goes_further s c mid more xs given step.0 rest closed same g (step.2 more g.0 g.1 closed g.3))
  answered c mid before first more xs given rest closed (Some e) same step is g =
      let none : given ≡ given ++ first = sym (ap (λ (t : List ℕ). given ++ t) (none_written before first step.1) ∙ append-nil given) in
      let now = subst (λ (o : Option Ended). GoesOn s c o more xs given rest closed) (sym is) g in
      subst (λ (d : ConnectionView). GoesOn s d d.ended more xs (given ++ first) rest closed) (sym step.0)
      (subst (λ (t : List ℕ). GoesOn s c c.ended more xs t rest closed) none now)

  -- all calls
  called_goes : (c : ConnectionView) (calls : List Call) (new : ConnectionView) (others : List ℕ) → Called s c calls new others
      → (more : List ℕ) (xs : List Answer) (given rest : List ℕ) (closed : Bool) → GoesOn s c c.ended (fed calls ++ more) xs given rest closed
      → GoesOn s new new.ended more xs (given ++ others) rest closed
  called_goes c [] new others a more xs given rest closed g =
      subst (λ (d : ConnectionView). GoesOn s d d.ended more xs (given ++ others) rest closed) (sym a.0)
      (subst (λ (t : List ℕ). GoesOn s c c.ended more xs t rest closed) (sym (ap (λ (t : List ℕ). given ++ t) a.1 ∙ append-nil given)) g)
  called_goes c (Some piece ∷ calls) new others a more xs given rest closed g =
      let g' = subst (λ (t : List ℕ). GoesOn s c c.ended t xs given rest closed) (append_assoc piece (fed calls) more) g in
      called_goes (with_piece c piece) calls new others a more xs given rest closed (piece_taken c piece (fed calls ++ more) xs given rest closed c.ended g')
  called_goes c (None ∷ calls) new others a more xs given rest closed g =
      let first = answered c a.0 a.1 a.2 (fed calls ++ more) xs given rest closed c.ended a.5 a.4 refl g in
      let all = called_goes a.0 calls new a.3 a.6 more xs (given ++ a.2) rest closed first in
      subst (λ (t : List ℕ). GoesOn s new new.ended more xs t rest closed) (append_assoc given a.2 a.3 ∙ ap (λ (t : List ℕ). given ++ t) (sym a.7)) all

  called_limits : (c : ConnectionView) (calls : List Call) (new : ConnectionView) (given : List ℕ) → Called s c calls new given → new.limits ≡ c.limits
  called_limits c [] new given a = ap (λ (d : ConnectionView). d.limits) a.0
  called_limits c (Some piece ∷ calls) new given a = called_limits (with_piece c piece) calls new given a
  called_limits c (None ∷ calls) new given a = called_limits a.0 calls new a.3 a.6 ∙ a.5

  module _ (limits : Limits) (calls : List Call) (new : ConnectionView) (given : List ℕ) (called : Called s (open_at limits []) calls new given) where
    goes : (more : List ℕ) (xs : List Answer) (rest : List ℕ) (closed : Bool) → Served s limits (fed calls ++ more) xs rest closed
        → GoesOn s new new.ended more xs given rest closed
    goes more xs rest closed v = called_goes (open_at limits []) calls new given called more xs [] rest closed (xs, rest, same_ahead limits rest, v, refl)

    same : new.limits ≡ limits
    same = called_limits (open_at limits []) calls new given called

    pub is_prefix : IsPrefixOfAnswers s limits (fed calls) given
    is_prefix = given_of.is_prefix s limits (fed calls) new given same goes

    pub answers_whole : WaitsForMore new → AnswersWhole s limits (fed calls) new.ended given
    answers_whole = given_of.answers_whole s limits (fed calls) new given same goes

    pub answers_all : WaitsForMore new → (end : Ended) (tail : List ℕ) → FinishedWith new end tail → AnswersAll s limits (fed calls) end [] (given ++ tail)
    answers_all = given_of.answers_all s limits (fed calls) new given same goes
