-- The replies to exchanges whose bodies are cut differently.
use Rattle.std.proofs.Common.{◌≤◌, ℕ, ◌+◌, List, length, refl, subst}
use Rattle.std.specs.Prelude.{Option, Result, Ok, Err, ⊤, MatchOption}
use Rattle.web_request.specs.declared.source.Mark.{Mark}
use Rattle.web_request.specs.Body.{piece_bytes}
use Rattle.web_request.specs.Feed.{Feed}
use Rattle.web_request.specs.Pool.{Pool, new_record}
use Rattle.web_request.specs.Request.{Request}
use Rattle.web_body.specs.Cuttings.{SameBody}
use Rattle.web_reply.specs.ResponseBodies.{Plain}
use Rattle.web_reply.specs.Replies.{Fault, Reply}
use Rattle.web_worker.specs.ExchangeRules.{After, Replies, Rules}
use Rattle.web_worker.specs.HandlerServices.{handler_setting}
use Rattle.web_cutting.specs.CutFree.{CutFree, CutFreeWithin}
use Rattle.web_cutting.specs.CutReplies.{CutsReplies, CutsRepliesWithin}

module _ {L D C V E Y : Type 0} (R : Rules L D C V E Y) (q : Request L D C) where
  after_other : (n k : ℕ) (v : Result V E) (d : ℕ) (r : Reply Plain) → After R q n v d r → (e : ℕ) × After R q k v e r
  after_other n k (Err f) d r h = (k, (refl, h.1))
  after_other n k (Ok v) d r (j, y, answers, responds, is) = (k + j, (j, y, answers, responds, refl))

  replies_cut : CutFree (R.means q) → (m n : List Mark) → SameBody m n → (d : ℕ) (r : Reply Plain)
      → Replies R q m d r → (e : ℕ) × Replies R q n e r
  replies_cut free m n same d r (rest, k, v, means, after) =
      let a = free m n rest k v same means in
      let b = after_other k a.1 v d r after in
      (b.0, (a.0, a.1, v, a.2, b.1))

  replies_within : (limit : ℕ) → CutFreeWithin limit (R.means q) → (m n : List Mark) → SameBody m n → length (piece_bytes m) ≤ limit
      → (d : ℕ) (r : Reply Plain) → Replies R q m d r → (e : ℕ) × Replies R q n e r
  replies_within limit free m n same small d r (rest, k, v, means, after) =
      let a = free m n rest k v same small means in
      let b = after_other k a.1 v d r after in
      (b.0, (a.0, a.1, v, a.2, b.1))

module _ {S L D C V E Y U W : Type 0} (means : Request L D C → List Mark → List Mark → ℕ → Result V E → Type 0)
    (converts : E → Fault → Type 0) (answers : V → ℕ → Y → Type 0) (responds : Y → Request L D C → Reply Plain → Type 0)
    (feed : S → Feed) (arguments : U → ℕ → Result V E → Type 0) (handling : W → ℕ → Y → Type 0) (pool : Pool L) where
  abbrev rules : Rules L D C V E Y
  rules = record { means = means; converts = converts; answers = answers; responds = responds }

  pub cuts_replies : CutsReplies means (handler_setting means converts answers responds feed arguments handling pool)
  cuts_replies x y other free d r h =
      let of_first = subst (λ (marks : Option (List Mark)). MatchOption marks ⊤ (λ m. Replies rules (new_record pool.root pool.config 0 x.parts).request m d r)) other.first_is h in
      let cut = replies_cut rules (new_record pool.root pool.config 0 x.parts).request free other.first other.second other.body d r of_first in
      (cut.0, rw (other.second_is, ← other.parts) cut.1)

  pub cuts_replies_within : CutsRepliesWithin means (handler_setting means converts answers responds feed arguments handling pool)
  cuts_replies_within limit x y other small free d r h =
      let of_first = subst (λ (marks : Option (List Mark)). MatchOption marks ⊤ (λ m. Replies rules (new_record pool.root pool.config 0 x.parts).request m d r)) other.first_is h in
      let cut = replies_within rules (new_record pool.root pool.config 0 x.parts).request limit free other.first other.second other.body small d r of_first in
      (cut.0, rw (other.second_is, ← other.parts) cut.1)
