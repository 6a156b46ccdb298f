-- The handler whose future stalls once.
use Rattle.std.proofs.Common.{◌≡◌, ℕ, List, Bor, ap, ◌∙◌}
use Rattle.std.specs.Prelude.{Result, Ok, Err, codes}
use Rattle.web_request.specs.declared.source.Mark.{Mark}
use Rattle.web_request.specs.Request.{Request}
use Rattle.web_reply.specs.Replies.{Fault}
use Rattle.web_reply.specs.Responders.{text_reply}
use Rattle.web_extract.specs.ReadyFuture.{MeansUnit}
use Rattle.web_extract.specs.declared.never.Never.{Never}
use Rattle.web_worker.specs.ExchangeRules.{Rules}
use Rattle.web_worker.specs.HandlerServices.{rules_of}
use Rattle.web_worker.specs.ReplyFunctions.{LeadsTo}

module _ {L D C : Type 0} (converts : Never → Fault → Type 0) where
  abbrev pub greeting_rules : Rules L D C (Unit {0}) Never (Bor (List ℕ))
  greeting_rules = rules_of (λ q m rest n x. MeansUnit m rest n x) converts
      (λ args n y. (n ≡ 1) × (y.now ≡ codes "hello")) (λ t q r. r ≡ text_reply t.now)

  -- no extractor is waited for, and the handler for one poll
  pub greets : (q : Request L D C) (m rest : List Mark) (n : ℕ) (x : Result (Unit {0}) Never)
      → MeansUnit m rest n x → LeadsTo greeting_rules q 0 1 (text_reply (codes "hello")) n x
  greets q m rest n (Ok v) (left, now, value) =
      (now, λ k y answer. (answer.0, λ r response. response ∙ ap text_reply answer.1))
  greets q m rest n (Err e) (left, now, value) = absurd (cc value)
