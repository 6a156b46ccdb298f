-- A connection that gave a part of the answers of its bytes, however they were taken.
use Rattle.std.proofs.Common.{false, ◌≡◌, ℕ, ◌⊎◌, inl, inr, Bool, List, [], ◌∷◌, ◌++◌, Option, None, Some, refl, sym, ap, ◌∙◌, subst, append-nil}
use Rattle.std.specs.Prelude.{MatchOption}
use Rattle.std.proofs.lemmas.List.{append_cancel_left}
use Rattle.web_request.specs.Feed.{Feed}
use Rattle.web_request.specs.declared.source.Mark.{Mark}
use Rattle.web_request.specs.declared.source.Mark.TheVariants as mark
use Rattle.web_worker.specs.Setting.{Setting}
use Rattle.web_messages.specs.NextMessage.{IsNext}
use Rattle.web_messages.specs.declared.limits.Limits.{Limits}
use Rattle.web_messages.specs.declared.message.Next.TheVariants as next
use Rattle.web_http1.specs.declared.ended.Ended.{Ended}
use Rattle.web_http1.specs.declared.ended.Ended.TheVariants as ended
use Rattle.web_http1.specs.Answers.{Answer, EndsAtEnd, Served, replies}
use Rattle.web_http1.specs.Connections.{ConnectionView, FinishesWith, GoesOn, WaitsForMore}
use Rattle.web_http1.specs.ConnectionPieces.{AnswersWhole, FinishedWith, GivesAll, IsPrefixOfAnswers}
use Rattle.web_http1.specs.Serving.{AnswersAll}
use Rattle.web_http1.proofs.ServingLemmas.{SoFar, ended_all, finished, lacks_memory}

-- nothing was written
pub none_written : (before first : List ℕ) → before ++ first ≡ before → first ≡ []
none_written before first is = append_cancel_left before first [] (is ∙ sym (append-nil before))

module _ {S L D C V K : Type 0} (s : Setting S L D C V K) where
  module _ (limits : Limits) (bytes : List ℕ) (new : ConnectionView) (given : List ℕ) (same : new.limits ≡ limits)
      (goes : (more : List ℕ) (xs : List Answer) (rest : List ℕ) (closed : Bool) → Served s limits (bytes ++ more) xs rest closed → GoesOn s new new.ended more xs given rest closed) where
    -- as over a source of one piece of these bytes, of which those are left
    abbrev all_marks : List ℕ → List Mark
    all_marks more = mark.Piece (bytes ++ more) ∷ []

    abbrev left_marks : List ℕ → List Mark
    left_marks more = mark.Piece more ∷ []

    abbrev feed_of : List ℕ → Feed
    feed_of more = record { marks = Some (left_marks more); faults = 0; stalls = 0; given = 0; answers = 0; lacked = false }

    so_far : (more : List ℕ) → SoFar s limits (all_marks more) (feed_of more) new [] given
    so_far more = record {
      left = left_marks more;
      is_left = record { left_is = refl; fault = refl };
      given = given;
      written = refl;
      goes = λ xs rest closed v.
          subst (λ (t : List ℕ). GoesOn s new new.ended t xs given rest closed) (sym (append-nil more))
          (goes more xs rest closed (subst (λ (t : List ℕ). Served s limits t xs rest closed) (append-nil (bytes ++ more)) v));
    }

    -- the bytes may be followed by these
    ends_all : (more : List ℕ) (o : Option Ended) → new.ended ≡ o → (e : Ended) × AnswersAll s limits (bytes ++ more) e [] given
    ends_all more None is = (
      ended.NoMemory,
      subst (λ (t : List ℕ). AnswersAll s limits t ended.NoMemory [] given) (append-nil (bytes ++ more))
          (lacks_memory s limits (all_marks more) (feed_of more) new [] given (so_far more) (inl is)),
    )
    ends_all more (Some e) is = (
      e,
      subst (λ (t : List ℕ). AnswersAll s limits t e [] given) (append-nil (bytes ++ more))
          (ended_all s limits (all_marks more) (feed_of more) new [] given (so_far more) e is same),
    )

    pub is_prefix : IsPrefixOfAnswers s limits (bytes) given
    is_prefix more text end a =
        let all = ends_all more new.ended refl in
        of all.0 (all.1 text end a)
      where
        of : (e : Ended) → ((e ≡ end) × (given ≡ [] ++ text)) ⊎ ((e ≡ ended.NoMemory) × (front : List ℕ) × (back : List ℕ) × (text ≡ front ++ back) × (given ≡ [] ++ front))
            → (back : List ℕ) × (text ≡ given ++ back)
        of e (inl h) = ([], sym h.1 ∙ sym (append-nil given))
        of e (inr h) = (h.2, h.3 ∙ ap (λ (t : List ℕ). t ++ h.2) (sym h.4))

    module _ (waits : WaitsForMore new) where
      gives_all : (o : Option Ended) → new.ended ≡ o → (xs : List Answer) (rest : List ℕ) (closed : Bool) → GoesOn s new o [] xs given rest closed → GivesAll o (replies xs) given
      gives_all None is xs rest closed g = of g.0 g.3 g.4
        where
          of : (ys : List Answer) → Served s new.limits (new.left ++ []) ys g.1 closed → replies xs ≡ given ++ replies ys → given ≡ replies xs
          of [] v e = sym (append-nil given) ∙ sym e
          of (y ∷ ys) v e = absurd (waits is (next.Message y.message) (subst (λ (t : List ℕ). IsNext new.limits t (next.Message y.message)) (append-nil new.left) v.0))
      gives_all (Some ended.Closed) is xs rest closed g = g.1
      gives_all (Some (ended.Refused w)) is xs rest closed g = g.3
      gives_all (Some ended.SourceFault) is xs rest closed g = g
      gives_all (Some ended.NoMemory) is xs rest closed g = g

      pub answers_whole : AnswersWhole s limits (bytes) new.ended given
      answers_whole xs rest closed v =
          gives_all new.ended refl xs rest closed
          (goes [] xs rest closed (subst (λ (t : List ℕ). Served s limits t xs rest closed) (sym (append-nil (bytes))) v))

      -- as over a source of one piece, which is all that comes
      abbrev end_feed : Feed
      end_feed = record { marks = Some []; faults = 0; stalls = 0; given = 0; answers = 0; lacked = false }

      all_so_far : SoFar s limits (mark.Piece (bytes) ∷ []) end_feed new [] given
      all_so_far = record {
        left = [];
        is_left = record { left_is = refl; fault = refl };
        given = given;
        written = refl;
        goes = λ xs rest closed v. goes [] xs rest closed v;
      }

      finished_as : (end : Ended) (before tail : List ℕ) → FinishesWith new.limits new.left end before (before ++ tail) → FinishesWith limits new.left end given (given ++ tail)
      finished_as end before tail (inl f) =
          inl (f.0, ap (λ (t : List ℕ). given ++ t) (append_cancel_left before tail f.0 f.1), subst (λ (l : Limits). EndsAtEnd l new.left f.0 end) same f.2)
      finished_as end before tail (inr f) = inr (f.0, ap (λ (t : List ℕ). given ++ t) (none_written before tail f.1) ∙ append-nil given)

      all_given : (o : Option Ended) → new.ended ≡ o → (end : Ended) (before tail : List ℕ)
          → MatchOption o (FinishesWith new.limits new.left end before (before ++ tail)) (λ e. (end ≡ e) × (before ++ tail ≡ before))
          → AnswersAll s limits (bytes ++ []) end [] (given ++ tail)
      unfolding all_so_far
      all_given None is end before tail f =
          finished s limits (mark.Piece (bytes) ∷ []) end_feed new [] given all_so_far is same waits end (given ++ tail) refl (finished_as end before tail f)
      all_given (Some e) is end before tail f =
          let all = ended_all s limits (mark.Piece (bytes) ∷ []) end_feed new [] given all_so_far e is same in
          subst (λ (t : List ℕ). AnswersAll s limits (bytes ++ []) end [] t) (sym (ap (λ (t : List ℕ). given ++ t) (none_written before tail f.1) ∙ append-nil given))
          (subst (λ (x : Ended). AnswersAll s limits (bytes ++ []) x [] given) (sym f.0) all)

      pub answers_all : (end : Ended) (tail : List ℕ) → FinishedWith new end tail → AnswersAll s limits (bytes) end [] (given ++ tail)
      answers_all end tail f =
          subst (λ (t : List ℕ). AnswersAll s limits t end [] (given ++ tail)) (append-nil (bytes))
          (all_given new.ended refl end f.0 tail f.1)
