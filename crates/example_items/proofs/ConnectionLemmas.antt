-- The site's answers over a connection are those of its promises.
use Rattle.std.proofs.Common.{◌≡◌, ℕ, ◌+◌, arith, refl, drop}
use Rattle.std.specs.Prelude.{List, [], ◌∷◌, Option, None, Some, Bool, true, false}
use Rattle.web_request.specs.Feed.{Feed}
use Rattle.web_request.specs.Pool.{Pool}
use Rattle.web_request.specs.Request.{Request}
use Rattle.web_request.specs.declared.source.Mark.{Mark}
use Rattle.web_body.specs.Payload.{payload_feed}
use Rattle.web_reply.specs.ResponseBodies.{Plain}
use Rattle.web_reply.specs.Replies.{Reply}
use Rattle.web_messages.specs.declared.limits.Limits.{Limits}
use Rattle.web_worker.specs.Exchanges.{ExchangeView, request_of}
use Rattle.web_worker.specs.OutcomeFunctions.{AnswersOnce}
use Rattle.web_worker.specs.ServicePromises.{Promise}
use Rattle.web_worker.specs.Setting.{Setting, setting_of}
use Rattle.web_worker.proofs.ExchangeLawLemmas.{bridged}
use Rattle.web_http1.specs.Answers.{Answer, Answers, Behind, IsAnswerTo, Served, sent_answer}
use Rattle.web_http1.specs.declared.ended.Ended.{Ended}
use Rattle.example_items.specs.ItemConnections.{item_setting}
use Rattle.example_items.specs.ItemReplies.{RepliesOnce}
use Rattle.example_items.specs.ItemSites.{item_reply}

-- ---- the answers of one setting are those of another, in which the same messages have one reply

behind_as : (closes : Bool) (A B C : Type 0) → (B → C) → Behind closes A B → Behind closes A C
behind_as true A B C f h = h
behind_as false A B C f h = f h

module _ {S L D C V J W K : Type 0} (s : Setting S L D C V J) (t : Setting S L D C W K)
    (limits : Limits) (same : (x : Answer) → IsAnswerTo t x → IsAnswerTo s x) where
  served_as : (bytes : List ℕ) (xs : List Answer) (rest : List ℕ) (closed : Bool)
      → Served t limits bytes xs rest closed → Served s limits bytes xs rest closed
  served_as bytes [] rest closed h = h
  served_as bytes (x ∷ xs) rest closed h = (
    h.0,
    same x h.1,
    behind_as (sent_answer x).closes _ _ _
        (served_as (drop x.message.used bytes) xs rest closed) h.2,
  )

  pub answers_as : (bytes given : List ℕ) (end : Ended)
      → Answers t limits bytes given end → Answers s limits bytes given end
  answers_as bytes given end h = record {
    answers = h.answers;
    rest = h.rest;
    closed = h.closed;
    served = served_as bytes h.answers h.rest h.closed h.served;
    tail = h.tail;
    text_is = h.text_is;
    ends = h.ends;
  }

-- ---- a service that has the replies of the site

module _ {S L D C V K : Type 0} (feed : S → Feed) (pool : Pool L)
    (completed : Request L D C → Request L D C) (promise : Request L D C → List Mark → Promise V)
    (left : K → Request L D C → Promise V)
    (once : (q : Request L D C) (m : List Mark)
    → RepliesOnce (promise q m) (item_reply q m)) where
  abbrev service : Setting S L D C V K
  service = setting_of completed promise left feed pool

  once_as : (x : ExchangeView S L D C) (d : ℕ) (r : Reply Plain) (marks : Option (List Mark))
      → (payload_feed feed x.body).marks ≡ marks
      → AnswersOnce (item_setting feed pool) x d r → AnswersOnce service x d r
  once_as x d r None is a = let never = a.comes (d + 1) (omega arith) in absurd (rw is at never)
  once_as x d r (Some m) is a =
      let q = request_of pool x in
      let here = item_reply q m in
      let same = a.once here.delay here.reply (rw is (refl, refl)) in
      bridged service x m d r is (rw (← same.0, ← same.1) (once q m))

  pub answer_as : (x : Answer) → IsAnswerTo (item_setting {D = D} {C = C} feed pool) x
      → IsAnswerTo service x
  answer_as x h = record {
    once = once_as _ x.delay x.reply _ refl h.once;
    soon = h.soon;
    states = h.states;
  }
