-- Responses of what was written.
use Rattle.std.proofs.Common.{◌≡◌, ℕ, List, refl}
use Rattle.std.specs.Prelude.{Result, Ok, Err, IfOk}
use Rattle.web_codec.specs.declared.faults.WriteFault.{WriteFault}
use Rattle.web_reply.specs.Replies.{Fault, Reply, error_reply, plain_reply, typed_reply}
use Rattle.web_reply.specs.ResponseBodies.{Plain, whole_plain}
use Rattle.web_reply.specs.declared.body.WholeBody.{WholeBody}
use Rattle.web_reply.specs.declared.body.WholeBody.TheVariants as whole
use Rattle.web_extract_body.specs.ValueReplies.{written_reply}

module _ (content_type : List ℕ) (error : WriteFault → Fault) (prints : Result (List ℕ) WriteFault → Type 0) where
  abbrev Responds : Reply Plain → Type 0
  Responds r = (x : Result (List ℕ) WriteFault) × prints x × (r ≡ written_reply content_type error x)

  pub text_responds : {N : Type 0} (text : List ℕ) → prints (Ok text) → (y : Result (Reply WholeBody) N)
      → IfOk y (λ r. r ≡ typed_reply 200 content_type (whole.Bytes text)) → IfOk y (λ r. Responds (plain_reply whole_plain r))
  text_responds text p (Ok r) h = (Ok text, p, rw h refl)
  text_responds text p (Err n) h = tt

  pub refusal_responds : {N : Type 0} (e : WriteFault) → prints (Err e) → (y : Result (Reply WholeBody) N)
      → IfOk y (λ r. r ≡ error_reply (error e)) → IfOk y (λ r. Responds (plain_reply whole_plain r))
  refusal_responds e p (Ok r) h = (Err e, p, rw h refl)
  refusal_responds e p (Err n) h = tt
