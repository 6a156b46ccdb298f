-- Arguments that take nothing of the body and come at the first poll.
use Rattle.std.specs.Prelude.{◌≡◌, ℕ, List, Result, Ok, Err, refl}
use Rattle.std.proofs.Common.{inl, inr}
use Rattle.web_request.specs.declared.source.Mark.{Mark}
use Rattle.web_request.specs.Head.{Head, Target, head_target, uri_view}
use Rattle.web_request.specs.Request.{Record, Request, nothing_kept, record_of}
use Rattle.web_codec.specs.Answers.{OrAll}
use Rattle.web_reply.specs.Replies.{Fault}
use Rattle.http_uri.specs.declared.uri.Uri.{Uri}
use Rattle.web_extract.specs.Extracts.{AllowsSome}
use Rattle.web_extract.specs.ListResults.{DelayedResult}

-- the marks are left, and what is allowed comes at the first poll
abbrev pub AllowsNow : {X : Type 0} → (X → Type 0) → List Mark → List Mark → ℕ → X → Type 0
AllowsNow allowed m rest n x = (rest ≡ m) × (n ≡ 0) × allowed x

-- the marks are left, and this comes at the first poll
abbrev pub MeansNow : {X : Type 0} → X → List Mark → List Mark → ℕ → X → Type 0
MeansNow y m rest n x = (rest ≡ m) × (n ≡ 0) × (x ≡ y)

pub now_some : {X : Type 0} (y : X) (m : List Mark) → AllowsSome (MeansNow y m)
now_some y m none = none m 0 y (refl, refl, refl)

-- this, without a delay
abbrev pub immediate : {T : Type 0} → Result T Fault → DelayedResult T
immediate r = record { delay = 0; result = r }

-- a request as an argument: the request itself, in whatever record, of which nothing is computed
abbrev pub IsRequest :
    {L D C E : Type 0} → Request L D C → Result (Record L D C) E → Type 0
IsRequest q (Ok r) = (r.request ≡ q) × (r.kept ≡ nothing_kept)
IsRequest q (Err e) = ⊥

pub request_some : {L D C E : Type 0} (q : Request L D C) (m : List Mark)
    → AllowsSome (AllowsNow (IsRequest {E = E} q) m)
request_some q m none = none m 0 (Ok (record_of q)) (refl, refl, (refl, refl))

-- the request of the record
abbrev pub seen_request :
    {L D C E : Type 0} → Result (Record L D C) E → Result (Request L D C) E
seen_request (Ok r) = Ok r.request
seen_request (Err e) = Err e

-- a request target as an argument, by its parts
abbrev pub IsTarget : {E : Type 0} → Head → Result Uri E → Type 0
IsTarget head (Ok u) = uri_view u ≡ head_target head
IsTarget head (Err e) = ⊥

-- Where no target has the parts of the head's, which no request has, every result counts as
-- allowed.
abbrev pub MeansUri : {E : Type 0} → Head → List Mark → List Mark → ℕ → Result Uri E → Type 0
MeansUri head m rest n x = AllowsNow (OrAll (IsTarget head)) m rest n x

pub uri_some : {E : Type 0} (head : Head) (e : E) (m : List Mark)
    → AllowsSome (MeansUri {E = E} head m)
uri_some head e m none =
    none m 0 (Err e) (refl, refl, inr (λ y h. none m 0 y (refl, refl, inl h)))

abbrev pub seen_target : {E : Type 0} → Result Uri E → Result Target E
seen_target (Ok u) = Ok (uri_view u)
seen_target (Err e) = Err e

-- nothing but this is allowed, seen by the view, for all marks, which are left
abbrev pub OnlyNow : {X Y : Type 0}
    → (X → Y) → (List Mark → List Mark → ℕ → X → Type 0) → Y → Type 0
OnlyNow {X} view means y = (m rest : List Mark) (n : ℕ) (x : X) → means m rest n x
    → (rest ≡ m) × (n ≡ 0) × (view x ≡ y)

-- the same for a target that has the parts of the head's
abbrev pub OnlyTarget : {E : Type 0}
    → Head → (List Mark → List Mark → ℕ → Result Uri E → Type 0) → Type 0
OnlyTarget head means = (u : Uri) → uri_view u ≡ head_target head
    → OnlyNow seen_target means (Ok (head_target head))
