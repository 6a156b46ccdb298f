-- The replies to exchanges whose bodies are cut differently.
use Rattle.std.specs.Prelude.{◌≡◌, ◌≤◌, ℕ, List, Some, length}
use Rattle.web_request.specs.declared.source.Mark.{Mark}
use Rattle.web_request.specs.Body.{piece_bytes}
use Rattle.web_request.specs.Feed.{Feed}
use Rattle.web_request.specs.Request.{Request}
use Rattle.web_body.specs.Cuttings.{SameBody}
use Rattle.web_body.specs.Payload.{payload_feed}
use Rattle.web_reply.specs.ResponseBodies.{Plain}
use Rattle.web_reply.specs.Replies.{Reply}
use Rattle.web_worker.specs.Exchanges.{ExchangeView}
use Rattle.web_worker.specs.Flights.{ExchangeGives}
use Rattle.web_worker.specs.Setting.{Setting}
use Rattle.web_cutting.specs.CutFree.{CutFree, CutFreeWithin}

-- two exchanges that differ in nothing but how their body is cut
pub record DifferInCutting {S L D C : Type 0} (feed : S → Feed) (x y : ExchangeView S L D C)
    : Type 0 where
  pub parts : x.parts ≡ y.parts
  pub first : List Mark
  pub second : List Mark
  pub first_is : (payload_feed feed x.body).marks ≡ Some first
  pub second_is : (payload_feed feed y.body).marks ≡ Some second
  pub body : SameBody first second

-- where the extractors, which may come as `means` says, do not depend on the cutting, the other
-- exchange may have the same replies
abbrev pub CutsReplies : {S L D C V K T : Type 0}
    → (Request L D C → List Mark → List Mark → ℕ → T → Type 0) → Setting S L D C V K → Type 0
CutsReplies {S} {L} {D} {C} means s =
    (x y : ExchangeView S L D C) → DifferInCutting s.feed x y
    → CutFree (means (s.request x))
    → (d : ℕ) (r : Reply Plain) → ExchangeGives s x d r → (e : ℕ) × ExchangeGives s y e r

-- the same, where they do not depend on that of a body within a limit, and the body is within it
abbrev pub CutsRepliesWithin : {S L D C V K T : Type 0}
    → (Request L D C → List Mark → List Mark → ℕ → T → Type 0) → Setting S L D C V K → Type 0
CutsRepliesWithin {S} {L} {D} {C} means s =
    (limit : ℕ) (x y : ExchangeView S L D C) → (differ : DifferInCutting s.feed x y)
    → length (piece_bytes differ.first) ≤ limit → CutFreeWithin limit (means (s.request x))
    → (d : ℕ) (r : Reply Plain) → ExchangeGives s x d r → (e : ℕ) × ExchangeGives s y e r
