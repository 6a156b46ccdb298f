-- Polls of the future of one of two arguments, and what follows a result that is there.
use Rattle.std.proofs.Common.{◌≡◌, ℕ, suc, Bool, List, arith}
use Rattle.std.specs.Prelude.{Option, None, Some, Result, Ok, Err}
use Rattle.web_request.specs.declared.source.Mark.{Mark}
use Rattle.web_request.specs.Body.{whole}
use Rattle.web_body.specs.PollSteps.{Shifts}
use Rattle.web_body.specs.declared.poll.Step.{Step}
use Rattle.web_reply.specs.Replies.{Fault}
use Rattle.web_extract.specs.Extracts.{Extracts}
use Rattle.web_extract.specs.ListMeanings.{ArgumentMeaning}
use Rattle.web_extract_body.specs.declared.either.EitherExtractState.{EitherExtractState}
use Rattle.web_extract_body.specs.declared.either_steps.Next.{Next}
use Rattle.web_extract_body.specs.declared.either_steps.Next.TheVariants.{Waits, Comes, NoMemory}
use Rattle.web_extract_body.specs.AddedDelays.{Then}
use Rattle.web_extract_body.specs.EitherArgument.{EitherResult, On, ComesRight, AfterLeft}
use Rattle.web_extract_body.specs.EitherArgument.{AfterBytes, MeansEither}
use Rattle.web_extract_body.specs.EitherStates.{GivesOn, Keeps, Proceeds, state_finished, state_gives}

pub proceeds_within : {S X : Type 0} (finished : S → Bool) (gives : S → ℕ → X → Type 0)
    (new old : ℕ → X → Type 0)
    → ((n : ℕ) (x : X) → new n x → old n x)
    → (w : Next S X) → Proceeds finished gives new w → Proceeds finished gives old w
proceeds_within finished gives new old f (Waits s) h = (h.0, λ n x g. f (suc n) x (h.1 n x g))
proceeds_within finished gives new old f (Comes x) h = f 0 x h
proceeds_within finished gives new old f NoMemory h = tt

-- what is there now is followed by what comes after it
pub then_now : {Y X : Type 0} (first : ℕ → Y → Type 0) (after : Y → ℕ → X → Type 0) (y : Y)
    → first 0 y → (n : ℕ) (x : X) → after y n x → Then first after n x
then_now first after y h n x g = (0, n, y, h, g, omega arith)

pub then_later : {Y X : Type 0} (new old : ℕ → Y → Type 0) (after : Y → ℕ → X → Type 0)
    → ((k : ℕ) (y : Y) → new k y → old (suc k) y)
    → (n : ℕ) (x : X) → Then new after n x → Then old after (suc n) x
then_later new old after f n x h =
    let e = h.5 in (suc h.0, h.1, h.2, f h.0 h.2 h.3, h.4, omega (arith, e))

pub then_within : {Y X : Type 0} (new old : ℕ → Y → Type 0) (after : Y → ℕ → X → Type 0)
    → ((k : ℕ) (y : Y) → new k y → old k y)
    → (n : ℕ) (x : X) → Then new after n x → Then old after n x
then_within new old after f n x h = (h.0, h.1, h.2, f h.0 h.2 h.3, h.4, h.5)

module _ {B L R V W E F : Type 0} (b : B → ℕ → Result (List ℕ) Fault → Type 0)
    (l : L → ℕ → Result V E → Type 0) (r : R → ℕ → Result W F → Type 0)
    (left : ArgumentMeaning V E) (right : ArgumentMeaning W F)
    (bf : B → Bool) (lf : L → Bool) (rf : R → Bool) where
  abbrev pub Goes : (ℕ → EitherResult V W E F → Type 0)
      → Next (EitherExtractState B L R E) (EitherResult V W E F) → Type 0
  Goes old w = Proceeds (state_finished bf lf rf) (state_gives b l r left right) old w

  weaker : (new old : ℕ → EitherResult V W E F → Type 0)
      → ((n : ℕ) (x : EitherResult V W E F) → new n x → old n x)
      → (w : Next (EitherExtractState B L R E) (EitherResult V W E F)) → Goes new w → Goes old w
  weaker new old f w h =
      proceeds_within (state_finished bf lf rf) (state_gives b l r left right) new old f w h

  pub right_begins : (f : R) (e : E) (m : List Mark) → GivesOn right m (r f)
      → (w : Next (EitherExtractState B L R E) (EitherResult V W E F))
      → Goes (ComesRight e (r f)) w → Goes (AfterLeft (On right m) (Err e)) w
  right_begins f e m from w h =
      weaker (ComesRight e (r f)) (AfterLeft (On right m) (Err e))
      (λ n x a. (a.0, (from.0, from.1 n a.0 a.1), a.2)) w h

  pub left_refuses : (f : L) (e : E) (m : List Mark) → l f 0 (Err e)
      → (w : Next (EitherExtractState B L R E) (EitherResult V W E F))
      → Goes (AfterLeft (On right m) (Err e)) w → Goes (Then (l f) (AfterLeft (On right m))) w
  left_refuses f e m now w h =
      weaker (AfterLeft (On right m) (Err e)) (Then (l f) (AfterLeft (On right m)))
      (then_now (l f) (AfterLeft (On right m)) (Err e) now) w h

  pub left_later : (old new : L) (m : List Mark)
      → ((n : ℕ) (x : Result V E) → l new n x → l old (suc n) x)
      → (n : ℕ) (x : EitherResult V W E F)
      → Then (l new) (AfterLeft (On right m)) n x
      → Then (l old) (AfterLeft (On right m)) (suc n) x
  left_later old new m f n x h = then_later (l new) (l old) (AfterLeft (On right m)) f n x h

  pub left_begins : (f : L) (body lent : List ℕ) → lent ≡ body → GivesOn left (whole lent) (l f)
      → (w : Next (EitherExtractState B L R E) (EitherResult V W E F))
      → Goes (Then (l f) (AfterLeft (On right (whole body)))) w
      → Goes (AfterBytes left right (Ok body)) w
  left_begins f body lent same from w h =
      weaker (Then (l f) (AfterLeft (On right (whole body)))) (AfterBytes left right (Ok body))
      (then_within (l f) (On left (whole body)) (AfterLeft (On right (whole body)))
      (λ k y a. (from.0, rw same at (from.1 k y a)))) w h

  pub bytes_come : (f : B) (body : List ℕ) → b f 0 (Ok body)
      → (w : Next (EitherExtractState B L R E) (EitherResult V W E F))
      → Goes (AfterBytes left right (Ok body)) w → Goes (Then (b f) (AfterBytes left right)) w
  bytes_come f body now w h =
      weaker (AfterBytes left right (Ok body)) (Then (b f) (AfterBytes left right))
      (then_now (b f) (AfterBytes left right) (Ok body) now) w h

-- what a poll keeps or returns, as a step of the future
pub keeps_shifts : {S X : Type 0} (finished : S → Bool) (gives : S → ℕ → X → Type 0)
    (old : ℕ → X → Type 0) (place : S) (next : Next S X) (new : S) (t : Step X)
    → Proceeds finished gives old next → Keeps place next new t
    → Shifts t old (λ n x. gives new n x)
keeps_shifts finished gives old place (Waits s) new t p k = rw k.1 (rw k.0 p.1)
keeps_shifts finished gives old place (Comes x) new t p k = rw k.1 tt
keeps_shifts finished gives old place NoMemory new t p k = rw k.1 tt

-- the future that waits for the body gives what the argument means
pub either_begins : {V W E F : Type 0} (body : ArgumentMeaning (List ℕ) Fault)
    (left : ArgumentMeaning V E) (right : ArgumentMeaning W F)
    (gives : ℕ → Result (List ℕ) Fault → Type 0) (old new : Option (List Mark))
    → Extracts body gives old new
    → Extracts (λ m rest n x. MeansEither body left right m rest n x)
    (λ n x. Then gives (AfterBytes left right) n x) old new
either_begins body left right gives None new h = tt
either_begins body left right gives (Some m) new h =
    (h.0, h.1, then_within gives (body m h.0) (AfterBytes left right) h.2)
