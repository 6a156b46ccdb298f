-- The request of the first example: its body stalls once and is `hello`.
use Rattle.std.proofs.Common.{◌≡◌, ℕ, List, [], ◌∷◌, refl, inl, inr, ap, subst}
use Rattle.std.specs.Prelude.{Option, None, Some, Result, Ok, Err, IfOk, IsErrAnd, MatchResult, codes, ◌⊎◌}
use Rattle.web_request.specs.declared.source.Mark.{Mark}
use Rattle.web_request.specs.declared.source.Mark.TheVariants.{Piece, Stall}
use Rattle.web_request.specs.Pool.{Pool}
use Rattle.web_request.specs.Reading.{reading}
use Rattle.http_header.specs.FieldValue.{FieldValue}
use Rattle.http_header.specs.HeaderMap.{Entries}
use Rattle.web_request.specs.Nearest.{nearest}
use Rattle.web_body.specs.HeadTests.{refusal_by}
use Rattle.web_body.specs.MessageBody.{answer_of, default_limit}
use Rattle.web_body.specs.PayloadSettings.{PayloadSettings, default_payload_settings}
use Rattle.web_reply.specs.ResponseBodies.{Plain}
use Rattle.web_reply.specs.Replies.{Reply}
use Rattle.web_reply.specs.Responders.{bytes_reply}
use Rattle.web_extract.specs.BytesArgument.{bytes_result}
use Rattle.web_extract.specs.LayerConfigurations.{Configurations, holds_nothing, payload_settings}
use Rattle.web_extract.specs.ListResults.{DelayedResult}
use Rattle.web_worker.specs.Exchanges.{ExchangeView, request_of}
use Rattle.web_worker.specs.AnsweredExchanges.{reply_or_error}
use Rattle.web_worker.specs.OutcomeFunctions.{AnswersOnce, DeterministicOutcomes}
use Rattle.web_worker.specs.Outcomes.{OutcomeView, OutcomeView.NoMemory}
use Rattle.web_worker.specs.PlanOutcomes.{outcome_of, poll_count}
use Rattle.web_worker.specs.Setting.{Setting}

abbrev pub hello_marks : List Mark
hello_marks = Piece (codes "he") ∷ Stall ∷ Piece (codes "llo") ∷ []

one_stall : (reading default_limit hello_marks).delay ≡ 1
one_stall = unfold reading in refl

hello_bytes : answer_of (reading default_limit hello_marks).content ≡ Ok (codes "hello")
hello_bytes = unfold reading in refl

module _ {S L D C V K : Type 0} (s : Setting S L D C V K) (x : ExchangeView S L D C)
    (d : ℕ) (r : Reply Plain) (once : AnswersOnce s x d r) (plan : List ℕ) where
  named : (o : OutcomeView) → (o ≡ NoMemory) ⊎ (o ≡ outcome_of d r (poll_count plan 0))
      → (o ∷ [] ≡ outcome_of d r (poll_count plan 0) ∷ []) ⊎ (o ∷ [] ≡ NoMemory ∷ [])
  named o (inl e) = inr (ap (λ z. z ∷ []) e)
  named o (inr e) = inl (ap (λ z. z ∷ []) e)

  only : (os : List OutcomeView) → DeterministicOutcomes s plan (x ∷ []) os
      → (os ≡ outcome_of d r (poll_count plan 0) ∷ []) ⊎ (os ≡ NoMemory ∷ [])
  only [] h = absurd h
  only (o ∷ p ∷ os) h = absurd h.1
  only (o ∷ []) h = named o (h.0 d r once)

  -- the one outcome of the one exchange
  pub only_outcome : (xs : List (ExchangeView S L D C)) → xs ≡ x ∷ [] → (os : List OutcomeView)
      → DeterministicOutcomes s plan xs os
      → (os ≡ outcome_of d r (poll_count plan 0) ∷ []) ⊎ (os ≡ NoMemory ∷ [])
  only_outcome xs is os h =
      only os (subst (λ (z : List (ExchangeView S L D C)). DeterministicOutcomes s plan z os) is h)

-- what is known of a value, where the error is turned into another
pub on_mapped : {T E F : Type 0} (result : Result T E) (mapped : Result T F)
    (K : E → F → Type 0) (P Q : T → Type 0) → ((x : T) → P x → Q x)
    → MatchResult result (λ x. mapped ≡ Ok x) (λ e. IsErrAnd mapped (K e))
    → IfOk result P → IfOk mapped Q
on_mapped (Ok x) mapped K P Q f e p = rw e (f x p)
on_mapped (Err y) (Ok z) K P Q f e p = absurd e
on_mapped (Err y) (Err z) K P Q f e p = tt

nearest_nothing : {L X : Type 0} (held : L → Option X) → ((l : L) → held l ≡ None)
    → (layers : List L) → nearest held layers ≡ None
nearest_nothing held nothing [] = refl
nearest_nothing held nothing (l ∷ layers) = rw (nearest_nothing held nothing layers) (nothing l)

-- the configuration of payloads is the default where no layer has one
default_settings : {L J F P Q T : Type 0} (of_layer : L → Configurations J F P Q T)
    → ((l : L) → of_layer l ≡ holds_nothing) → (layers : List L)
    → payload_settings of_layer layers ≡ default_payload_settings
default_settings of_layer nothing layers =
    rw (
      nearest_nothing (λ l. (of_layer l).payload) (λ l. ap (λ c. c.payload) (nothing l)) layers,
      nearest_nothing (λ l. (of_layer l).shared_payload) (λ l. ap (λ c. c.shared_payload) (nothing l)) layers,
    ) refl

-- a body of these marks that no test of the head refuses
hello_body : (settings : PayloadSettings) → settings ≡ default_payload_settings → (headers : Entries FieldValue)
    → refusal_by headers default_limit ≡ None → (marks : List Mark) → marks ≡ hello_marks
    → bytes_result settings headers marks ≡ record { delay = 1; result = Ok (codes "hello") }
hello_body settings default headers unrefused marks are = rw (default, are, unrefused, one_stall, hello_bytes) refl

module _ {S L D C V K J F P Q T : Type 0} (of_layer : L → Configurations J F P Q T)
    (nothing : (l : L) → of_layer l ≡ holds_nothing) (pool : Pool L)
    (s : Setting S L D C V K) (x : ExchangeView S L D C)
    (unrefused : refusal_by x.parts.head.headers default_limit ≡ None) where
  -- the body as an argument
  abbrev argument : DelayedResult (List ℕ)
  argument = bytes_result (payload_settings of_layer (request_of pool x).layers)
      x.parts.head.headers hello_marks

  body : argument ≡ record { delay = 1; result = Ok (codes "hello") }
  body =
      hello_body (payload_settings of_layer (request_of pool x).layers)
      (default_settings of_layer nothing (request_of pool x).layers)
      x.parts.head.headers unrefused hello_marks refl

  -- one delay, and the reply with the body
  pub hello_once : AnswersOnce s x argument.delay (reply_or_error bytes_reply argument.result)
      → AnswersOnce s x 1 (bytes_reply (codes "hello"))
  hello_once once = rw body at once
