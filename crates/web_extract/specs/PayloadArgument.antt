-- The payload itself as an argument.
use Rattle.std.specs.Prelude.{◌≡◌, ℕ, List, [], Option, Some, Result, Ok, Err, refl}
use Rattle.std.proofs.Common.{inl, inr}
use Rattle.web_request.specs.declared.source.Mark.{Mark}
use Rattle.web_request.specs.Feed.{Feed}
use Rattle.web_codec.specs.Answers.{OrAll}
use Rattle.web_body.specs.declared.payload.Payload.{Payload}
use Rattle.web_body.specs.Payload.{payload_feed}
use Rattle.web_reply.specs.Replies.{Fault}
use Rattle.web_extract.specs.Extracts.{AllowsSome}
use Rattle.web_extract.specs.HeadArguments.{immediate}
use Rattle.web_extract.specs.ListResults.{DelayedResult}

-- a payload that has these marks, all of them unread
abbrev pub IsUnread :
    {S : Type 0} → (S → Feed) → List Mark → Result (Payload S) Fault → Type 0
IsUnread feed m (Ok p) = (payload_feed feed p).marks ≡ Some m
IsUnread feed m (Err e) = ⊥

-- All marks are taken, and the payload that has them comes at the first poll. Where no payload has
-- them, every result counts as allowed.
abbrev pub MeansPayload : {S : Type 0}
    → (S → Feed) → List Mark → List Mark → ℕ → Result (Payload S) Fault → Type 0
MeansPayload feed m rest n x = (rest ≡ []) × (n ≡ 0) × OrAll (IsUnread feed m) x

pub payload_some : {S : Type 0} (feed : S → Feed) (e : Fault) (m : List Mark)
    → AllowsSome (MeansPayload feed m)
payload_some feed e m none =
    none [] 0 (Err e) (refl, refl, inr (λ y h. none [] 0 y (refl, refl, inl h)))

-- the marks that a payload states
abbrev pub seen_payload : {S : Type 0}
    → (S → Feed) → Result (Payload S) Fault → Result (Option (List Mark)) Fault
seen_payload feed (Ok p) = Ok (payload_feed feed p).marks
seen_payload feed (Err e) = Err e

-- the payload as an argument, seen by its marks
abbrev pub payload_result : List Mark → DelayedResult (Option (List Mark))
payload_result m = immediate (Ok (Some m))

-- Where some payload has the marks, nothing but a payload that has them is allowed, and none is
-- left.
abbrev pub OnlyPayload : {S : Type 0}
    → (S → Feed) → (List Mark → List Mark → ℕ → Result (Payload S) Fault → Type 0) → Type 0
OnlyPayload {S} feed means = (p : Payload S) (m : List Mark) → (payload_feed feed p).marks ≡ Some m
    → (rest : List Mark) (n : ℕ) (x : Result (Payload S) Fault) → means m rest n x
    → (rest ≡ []) × (n ≡ (payload_result m).delay)
    × (seen_payload feed x ≡ (payload_result m).result)
