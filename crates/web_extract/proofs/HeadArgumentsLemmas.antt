-- Arguments that come at the first poll allow nothing else.
use Rattle.std.proofs.Common.{◌≡◌, ℕ, List, ap, refl, inl, inr}
use Rattle.std.specs.Prelude.{Some, Result, Ok, Err}
use Rattle.http_uri.specs.declared.uri.Uri.{Uri}
use Rattle.web_request.specs.declared.source.Mark.{Mark}
use Rattle.web_request.specs.Feed.{Feed}
use Rattle.web_request.specs.Head.{Head, head_target, uri_view}
use Rattle.web_request.specs.Request.{Record, Request}
use Rattle.web_codec.specs.Answers.{OrAll}
use Rattle.web_body.specs.declared.payload.Payload.{Payload}
use Rattle.web_body.specs.Payload.{payload_feed}
use Rattle.web_reply.specs.Replies.{Fault}
use Rattle.web_extract.specs.HeadArguments.{AllowsNow, IsRequest, IsTarget, MeansNow, MeansUri, OnlyNow, OnlyTarget, seen_request, seen_target}
use Rattle.web_extract.specs.ListResults.{Exactly}
use Rattle.web_extract.specs.HeadArguments.{immediate}
use Rattle.web_extract.specs.PayloadArgument.{IsUnread, MeansPayload, OnlyPayload, seen_payload}

pub now_exactly : {T : Type 0} (r : Result T Fault) (m : List Mark) → Exactly (MeansNow r) m m (immediate r)
now_exactly r m left n x = (λ h. h, λ h. h)

request_seen : {L D C E : Type 0} (q : Request L D C) (x : Result (Record L D C) E) → IsRequest q x → seen_request x ≡ Ok q
request_seen q (Ok r) h = ap Ok h.0
request_seen q (Err e) h = absurd h

pub only_request : {L D C E : Type 0} (q : Request L D C) → OnlyNow (seen_request {E = E}) (AllowsNow (IsRequest q)) (Ok q)
only_request q m rest n x h = (h.0, h.1, request_seen q x h.2)

pub only_method : {X : Type 0} (y : X) → OnlyNow (λ x. x) (MeansNow y) y
only_method y m rest n x h = h

target_seen : {E : Type 0} (head : Head) (u : Uri) → uri_view u ≡ head_target head
    → (x : Result Uri E) → OrAll (IsTarget head) x → seen_target x ≡ Ok (head_target head)
target_seen head u e (Ok v) (inl h) = ap Ok h
target_seen head u e (Err f) (inl h) = absurd h
target_seen head u e x (inr none) = absurd (none (Ok u) e)

pub only_target : {E : Type 0} (head : Head) → OnlyTarget {E = E} head (MeansUri head)
only_target head u e m rest n x h = (h.0, h.1, target_seen head u e x h.2)

unread_seen : {S : Type 0} (feed : S → Feed) (p : Payload S) (m : List Mark) → IsUnread feed m (Ok p)
    → (x : Result (Payload S) Fault) → OrAll (IsUnread feed m) x → seen_payload feed x ≡ Ok (Some m)
unread_seen feed p m e (Ok v) (inl h) = ap Ok h
unread_seen feed p m e (Err f) (inl h) = absurd h
unread_seen feed p m e x (inr none) = absurd (none (Ok p) e)

pub only_payload : {S : Type 0} (feed : S → Feed) → OnlyPayload feed (MeansPayload feed)
only_payload feed p m e rest n x h = (h.0, h.1, unread_seen feed p m e x h.2)
