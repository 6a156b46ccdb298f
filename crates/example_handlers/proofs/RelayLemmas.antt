-- The handler of a proxy.
use Rattle.std.proofs.Common.{◌≡◌, ℕ, List, arith, ap, sym, ◌∙◌, inl, inr}
use Rattle.std.specs.Prelude.{Option, Some, Result, Ok, Err, max}
use Rattle.web_request.specs.declared.source.Mark.{Mark}
use Rattle.web_request.specs.Feed.{Feed}
use Rattle.web_request.specs.Request.{Record, Request}
use Rattle.web_codec.specs.Answers.{OrAll}
use Rattle.web_body.specs.declared.payload.Payload.{Payload}
use Rattle.web_body.specs.Payload.{payload_feed}
use Rattle.web_reply.specs.declared.body.BoxBody.{BoxBody}
use Rattle.web_reply.specs.ResponseBodies.{Plain, box_plain}
use Rattle.web_reply.specs.Replies.{Fault, Reply, plain_reply}
use Rattle.web_extract.specs.CollectedResults.{collected2}
use Rattle.web_extract.specs.HeadArguments.{AllowsNow, IsRequest}
use Rattle.web_extract.specs.ListMeanings.{Means2, Member}
use Rattle.web_extract.specs.PayloadArgument.{IsUnread, MeansPayload}
use Rattle.web_worker.specs.ExchangeRules.{Rules}
use Rattle.web_worker.specs.HandlerServices.{rules_of}
use Rattle.web_worker.specs.ReplyFunctions.{LeadsTo}
use Rattle.example_handlers.specs.Relays.{relayed_reply}

-- where some payload has the marks, what is allowed is a payload that has them
unread : {S : Type 0} (feed : S → Feed) (m : List Mark) (p : Payload S) → (payload_feed feed p).marks ≡ Some m
    → (x : Result (Payload S) Fault) → OrAll (IsUnread feed m) x → IsUnread feed m x
unread feed m p has x (inl is) = is
unread feed m p has x (inr none) = absurd (none (Ok p) has)

module _ {S L D C : Type 0} (feed : S → Feed) where
  abbrev pub Arguments : Request L D C → List Mark → List Mark → ℕ → Result (Record L D C × Payload S) Fault → Type 0
  Arguments q m rest n x =
      Means2 (Member (λ e f. f ≡ e) (AllowsNow (IsRequest q)))
      (Member (λ e f. f ≡ e) (λ m rest n x. MeansPayload feed m rest n x)) m rest n x

  abbrev pub relay_rules : Rules L D C (Record L D C × Payload S) Fault (Reply (BoxBody S))
  relay_rules = rules_of Arguments (λ e f. f ≡ e)
      (λ v n y. (n ≡ 0) × (plain_reply (λ b. box_plain feed b) y
      ≡ relayed_reply v.0.request.head.headers (payload_feed feed v.1).marks))
      (λ y q r. r ≡ plain_reply (λ b. box_plain feed b) y)

  -- the request, and a payload with these marks
  abbrev Came : Request L D C → List Mark → Result (Record L D C × Payload S) Fault → Type 0
  Came q m (Ok v) = (v.0.request ≡ q) × ((payload_feed feed v.1).marks ≡ Some m)
  Came q m (Err e) = ⊥

  -- where some payload has the marks, both come at the first poll
  came_as : (q : Request L D C) (m : List Mark) (body : Payload S) → (payload_feed feed body).marks ≡ Some m
      → (rest left : List Mark) (n : ℕ) (x : Result (Record L D C × Payload S) Fault)
      → (n1 : ℕ) (x1 : Result (Record L D C) Fault) → Member (λ e f. f ≡ e) (AllowsNow (IsRequest q)) m left n1 x1
      → (n2 : ℕ) (x2 : Result (Payload S) Fault) → Member (λ e f. f ≡ e) (λ m rest n x. MeansPayload feed m rest n x) left rest n2 x2
      → n ≡ max n1 n2 → x ≡ collected2 x1 x2 → (n ≡ 0) × Came q m x
  came_as q m body has rest left n x n1 (Ok r) (all, first, is) n2 (Ok p) (none, second, is_unread) at result = (
    omega (arith, first, second, at),
    rw result (is.0, unread feed left body (has ∙ ap Some (sym all)) (Ok p) is_unread ∙ ap Some all),
  )
  came_as q m body has rest left n x n1 (Ok r) (all, first, is) n2 (Err f) (e, (none, second, is_unread), turns) at result =
      absurd (unread feed left body (has ∙ ap Some (sym all)) (Err e) is_unread)
  came_as q m body has rest left n x n1 (Err f) (e, (all, first, is), turns) n2 x2 h at result = absurd is

  came : (q : Request L D C) (m : List Mark) (body : Payload S) → (payload_feed feed body).marks ≡ Some m
      → (rest : List Mark) (n : ℕ) (x : Result (Record L D C × Payload S) Fault) → Arguments q m rest n x
      → (n ≡ 0) × Came q m x
  came q m body has rest n x (left, j) =
      came_as q m body has rest left n x j.n1 j.x1 j.first_gives j.n2 j.x2 j.second_gives j.delay j.result

  -- so the handler's value becomes the reply with these fields and marks
  pub leads : (q : Request L D C) (m : List Mark) (body : Payload S)
      → (payload_feed feed body).marks ≡ Some m → (r : Reply Plain)
      → relayed_reply q.head.headers (Some m) ≡ r
      → (rest : List Mark) (n : ℕ) (x : Result (Record L D C × Payload S) Fault)
      → Arguments q m rest n x → LeadsTo relay_rules q 0 0 r n x
  leads q m body has r e rest n (Ok v) allowed =
      let c = came q m body has rest n (Ok v) allowed in (
        c.0,
        λ k y answer. (
          answer.0,
          λ s response. response
              ∙ (answer.1
              ∙ (ap (λ (t : Request L D C). relayed_reply t.head.headers (payload_feed feed v.1).marks) c.1.0
              ∙ (ap (λ (o : Option (List Mark)). relayed_reply q.head.headers o) c.1.1 ∙ e))),
        ),
      )
  leads q m body has r e rest n (Err f) allowed =
      absurd (came q m body has rest n (Err f) allowed).1
