-- One of two arguments where each of them allows exactly one result.
use Rattle.std.proofs.Common.{◌≡◌, ℕ, ◌+◌, List, refl, sym, ap, subst, ◌∙◌, arith}
use Rattle.std.specs.Prelude.{Result, Ok, Err}
use Rattle.web_request.specs.Body.{whole}
use Rattle.web_request.specs.declared.source.Mark.{Mark}
use Rattle.web_reply.specs.Replies.{Fault}
use Rattle.web_extract.specs.ListMeanings.{ArgumentMeaning, Member}
use Rattle.web_extract.specs.ListResults.{DelayedResult}
use Rattle.web_extract_body.specs.declared.either.Either.{Either}
use Rattle.web_extract_body.specs.declared.either.Either.TheVariants.{Left, Right}
use Rattle.web_extract_body.specs.declared.either.EitherExtractError.TheVariants.{Bytes, Extract}
use Rattle.web_extract_body.specs.AddedDelays.{Then}
use Rattle.web_extract_body.specs.EitherArgument.{AfterBytes, AfterLeft, ComesRight}
use Rattle.web_extract_body.specs.EitherArgument.{ConvertsEither, EitherResult, MeansEither, On}
use Rattle.web_extract_body.specs.EitherArgument.{added, after_bytes, after_left, either_result}
use Rattle.web_extract_body.specs.EitherArgument.{right_or, right_result}
use Rattle.web_extract_body.specs.EitherLaw.{DecidesEither, Only, OnlyOf}

module _ {V W E F : Type 0} (body : ArgumentMeaning (List ℕ) Fault)
    (cl : E → Fault → Type 0) (left : ArgumentMeaning V E)
    (cr : F → Fault → Type 0) (right : ArgumentMeaning W F)
    (lc : (e : E) → (x : Fault) × cl e x) (rc : (e : F) → (x : Fault) × cr e x)
    (l : List Mark → DelayedResult V) (r : List Mark → DelayedResult W)
    (lo : OnlyOf (Member cl left) l) (ro : OnlyOf (Member cr right) r) where
  -- the result with its error converted
  abbrev Turns : EitherResult V W E F → Result (Either V W) Fault → Type 0
  Turns (Ok v) x = x ≡ Ok v
  Turns (Err e) x = (f : Fault) × ConvertsEither cl e f × (x ≡ Err f)

  -- the delay and the result of both sides, where the left one has this result
  abbrev Sides : List Mark → ℕ → Result (Either V W) Fault → Result V Fault → Type 0
  Sides m j x q =
      (j ≡ (l m).delay + (after_left (r m) q).delay) × (x ≡ (after_left (r m) q).result)

  left_refused : (m left_rest rest : List Mark) (k i j : ℕ) (e : E) (w : Result W F)
      (x : Result (Either V W) Fault)
      → left m left_rest k (Err e) → right m rest i w → Turns (right_result e w) x → j ≡ k + i
      → Sides m j x (l m).result
  left_refused m left_rest rest k i j e (Ok w) x hl hr t sum =
      let a = lo m left_rest k (Err (lc e).0) (e, hl, (lc e).1) in
      let b = ro m rest i (Ok w) hr in
      let a0 = a.0 in
      let b0 = b.0 in
      subst (Sides m j x) a.1 (omega (arith, sum, a0, b0), t ∙ ap (right_or (lc e).0) b.1)
  left_refused m left_rest rest k i j e (Err y) x hl hr t sum =
      let a = lo m left_rest k (Err t.0) (e, hl, t.1) in
      let b = ro m rest i (Err (rc y).0) (y, hr, (rc y).1) in
      let a0 = a.0 in
      let b0 = b.0 in
      subst (Sides m j x) a.1 (omega (arith, sum, a0, b0), t.2 ∙ ap (right_or t.0) b.1)

  left_came : (m left_rest : List Mark) (k i j : ℕ) (y : Result V E) (z : EitherResult V W E F)
      (x : Result (Either V W) Fault)
      → left m left_rest k y → AfterLeft (On right m) y i z → Turns z x → j ≡ k + i
      → Sides m j x (l m).result
  left_came m left_rest k i j (Ok v) z x h a t sum =
      let b = lo m left_rest k (Ok v) h in
      let b0 = b.0 in
      let a0 = a.0 in
      subst (Sides m j x) b.1
      (omega (arith, sum, a0, b0), subst (λ (q : EitherResult V W E F). Turns q x) a.1 t)
  left_came m left_rest k i j (Err e) z x h a t sum =
      left_refused m left_rest a.1.0 k i j e a.0 x h a.1.1
      (subst (λ (q : EitherResult V W E F). Turns q x) a.2 t) sum

  module _ (b : DelayedResult (List ℕ)) where
    abbrev Whole : ℕ → Result (Either V W) Fault → Result (List ℕ) Fault → Type 0
    Whole n x q = (n ≡ b.delay + (after_bytes l r q).delay) × (x ≡ (after_bytes l r q).result)

    bytes_came : (m rest : List Mark) → Only (body m rest) b
        → (k j n : ℕ) (y : Result (List ℕ) Fault) (z : EitherResult V W E F)
        (x : Result (Either V W) Fault)
        → body m rest k y → AfterBytes left right y j z → Turns z x → n ≡ k + j
        → Whole n x b.result
    bytes_came m rest only k j n (Err e) z x h a t sum =
        let c = only k (Err e) h in
        let c0 = c.0 in
        let a0 = a.0 in
        let turned = subst (λ (q : EitherResult V W E F). Turns q x) a.1 t in
        subst (Whole n x) c.1 (omega (arith, sum, a0, c0), turned.2 ∙ ap Err turned.1)
    bytes_came m rest only k j n (Ok bytes) z x h a t sum =
        let c = only k (Ok bytes) h in
        let c0 = c.0 in
        let d = left_came (whole bytes) a.3.0 a.0 a.1 j a.2 z x a.3.1 a.4 t a.5 in
        let d0 = d.0 in
        subst (Whole n x) c.1 (omega (arith, sum, c0, d0), d.1)

    either_only : (m rest : List Mark) → Only (body m rest) b
        → Only (Member (ConvertsEither cl) (MeansEither body left right) m rest)
        (either_result b l r)
    either_only m rest only n (Ok v) h =
        bytes_came m rest only h.0 h.1 n h.2 (Ok v) (Ok v) h.3 h.4 refl h.5
    either_only m rest only n (Err f) h =
        let g = h.1 in
        bytes_came m rest only g.0 g.1 n g.2 (Err h.0) (Err f) g.3 g.4 (f, h.2, refl) g.5

pub either_decides : {V W E F : Type 0} (body : ArgumentMeaning (List ℕ) Fault)
    (cl : E → Fault → Type 0) (left : ArgumentMeaning V E)
    (cr : F → Fault → Type 0) (right : ArgumentMeaning W F)
    → ((e : E) → (x : Fault) × cl e x) → ((e : F) → (x : Fault) × cr e x)
    → DecidesEither body cl left cr right
either_decides body cl left cr right lc rc m rest b l r bo lo ro =
    either_only body cl left cr right lc rc l r lo ro b m rest bo
