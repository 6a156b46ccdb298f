-- Arguments that allow one rest, one delay and one result, where the value is seen by a function.
use Rattle.std.proofs.Common.{◌≡◌, ℕ, List, refl, subst, ap, ◌∙◌}
use Rattle.std.specs.Prelude.{Result, Ok, Err}
use Rattle.web_request.specs.declared.source.Mark.{Mark}
use Rattle.web_reply.specs.Replies.{Fault}
use Rattle.web_extract.specs.CappedArguments.{GivesCapped, as_capped, wrapped}
use Rattle.web_extract.specs.CollectedResults.{map_value}
use Rattle.web_extract.specs.ConvertedFutures.{ConvertsResult, GivesConvertedBy, converted_result}
use Rattle.web_extract.specs.ListResults.{DelayedResult, list2, list3, with_value}
use Rattle.web_extract.specs.declared.body.capped_argument.Capped.{Capped}
use Rattle.web_extract.specs.ListMeanings.{ArgumentMeaning, Meaning, Means2, Means3, Member}
use Rattle.web_extract.specs.SeenResults.{SeenAs}
use Rattle.web_extract.proofs.ConvertedFuturesLemmas.{GivesOnly}
use Rattle.web_extract.proofs.SeenResultsLemmas.{sees2, sees3}
use Rattle.demo_picked.specs.Picking.{same_fault}

-- Of each list of marks the argument leaves these, and its result, seen by f, is this one.
abbrev pub Seen : {T V : Type 0} → (T → V) → Meaning T → (List Mark → List Mark)
    → (List Mark → DelayedResult V) → Type 0
Seen {T} f means rest a =
    (m : List Mark) → SeenAs f means m (rest m) (a m)

-- the same of an argument with an error of its own
abbrev pub SeenAlone : {T E V : Type 0} → (T → V) → (E → Fault)
    → ArgumentMeaning T E → (List Mark → List Mark) → (List Mark → DelayedResult V) → Type 0
SeenAlone {T} {E} f error means rest a =
    (m left : List Mark) (n : ℕ) (y : Result T E) → means m left n y
    → (left ≡ rest m) × (n ≡ (a m).delay) × (converted_result f error y ≡ (a m).result)

pub converted_same : {T : Type 0} (r : Result T Fault) → converted_result (λ v. v) same_fault r ≡ r
converted_same (Ok v) = refl
converted_same (Err e) = refl

wrapped_value : {T : Type 0} {cap : ℕ} (y : Result T Fault)
    → converted_result (λ v. v) same_fault (wrapped {cap = cap} y) ≡ map_value as_capped (converted_result (λ v. v) same_fault y)
wrapped_value (Ok v) = refl
wrapped_value (Err e) = refl

-- an argument under a limit of its own
pub capped_alone : {T : Type 0} (cap : ℕ) (means : ArgumentMeaning T Fault) (rest : List Mark → List Mark) (a : List Mark → DelayedResult T)
    → SeenAlone (λ v. v) same_fault means rest a
    → SeenAlone {T = Capped T cap} (λ v. v) same_fault (λ m left. GivesCapped (means m left)) rest (λ m. with_value as_capped (a m))
capped_alone cap means rest a seen m left n x h =
    let once = seen m left n h.0 h.1 in
    (once.0, once.1, ap (converted_result (λ v. v) same_fault) h.2 ∙ wrapped_value h.0 ∙ ap (map_value as_capped) once.2)

-- an argument as a place of a list, whose refusals convert as a function says
pub listed_seen : {T E V : Type 0} (f : T → V) (converts : E → Fault → Type 0) (error : E → Fault)
    → ((e : E) (x : Fault) → converts e x → x ≡ error e)
    → (means : ArgumentMeaning T E) (rest : List Mark → List Mark) (a : List Mark → DelayedResult V)
    → SeenAlone f error means rest a → Seen f (Member converts means) rest a
listed_seen f converts error only means rest a seen m left n (Ok v) h = seen m left n (Ok v) h
listed_seen f converts error only means rest a seen m left n (Err e) h =
    rw (only h.0 e h.2) (seen m left n (Err h.0) h.1)

module _ {T U V W : Type 0} (f : T → V) (g : U → W) (first : Meaning T) (second : Meaning U)
    (rest1 rest2 : List Mark → List Mark)
    (a : List Mark → DelayedResult V) (b : List Mark → DelayedResult W)
    (seen1 : Seen f first rest1 a) (seen2 : Seen g second rest2 b) where
  -- a list of two, of which the second gets what the first leaves
  pub pair_seen : Seen (λ v. (f v.0, g v.1)) (Means2 first second) (λ m. rest2 (rest1 m))
      (λ m. list2 (a m) (b (rest1 m)))
  pair_seen m =
      sees2 f g first second m (rest1 m) (rest2 (rest1 m)) (a m) (b (rest1 m)) (seen1 m) (seen2 (rest1 m))

module _ {T U X V W Y : Type 0} (f : T → V) (g : U → W) (h : X → Y)
    (first : Meaning T) (second : Meaning U) (third : Meaning X)
    (rest1 rest2 rest3 : List Mark → List Mark)
    (a : List Mark → DelayedResult V) (b : List Mark → DelayedResult W) (c : List Mark → DelayedResult Y)
    (seen1 : Seen f first rest1 a) (seen2 : Seen g second rest2 b) (seen3 : Seen h third rest3 c) where
  -- a list of three, each of which gets what the one before leaves
  pub three_seen : Seen (λ v. (f v.0, g v.1, h v.2)) (Means3 first second third)
      (λ m. rest3 (rest2 (rest1 m))) (λ m. list3 (a m) (b (rest1 m)) (c (rest2 (rest1 m))))
  three_seen m =
      sees3 f g h first second third m (rest1 m) (rest2 (rest1 m)) (rest3 (rest2 (rest1 m)))
      (a m) (b (rest1 m)) (c (rest2 (rest1 m))) (seen1 m) (seen2 (rest1 m)) (seen3 (rest2 (rest1 m)))

-- values that are seen by a function, and then converted
module _ {T V P : Type 0} (f : T → V) (value : V → P) where
  converted_seen : (y : Result T Fault) (x : Result P Fault)
      → ConvertsResult (λ v w. w ≡ value (f v)) (λ e w. w ≡ same_fault e) y x
      → x ≡ map_value value (map_value f y)
  converted_seen (Ok v) x h = h.2 ∙ ap Ok h.1
  converted_seen (Err e) x h = h.2 ∙ ap Err h.1

  -- one delay and one result, converted
  pub chosen_only : (means : Meaning T) (rest : List Mark → List Mark) (a : List Mark → DelayedResult V)
      → Seen f means rest a → (m left : List Mark)
      → GivesOnly (λ n x. GivesConvertedBy (λ v. value (f v)) same_fault (means m left) n x)
      (a m).delay (map_value value (a m).result)
  chosen_only means rest a seen m left n x h =
      let once = seen m left n h.0 h.1 in
      (once.1, converted_seen h.0 x h.2 ∙ ap (map_value value) once.2)
