-- Headers that are changed one by one.
use Rattle.std.proofs.Common.{◌≡◌, ℕ, ◌⊎◌, List, [], ◌∷◌, IfOk, refl, ap, ◌∙◌, subst, inl, inr}
use Rattle.std.specs.Prelude.{Option, Result, Ok, Err, IsOk}
use Rattle.std.specs.List.{fold}
use Rattle.std.specs.Option.{unwrap_or}
use Rattle.std.proofs.lemmas.Bool.{cases_Bool}
use Rattle.http_header.specs.FieldValue.{FieldValue}
use Rattle.http_header.specs.HeaderMap.{append, insert, pairs}
use Rattle.web_reply.specs.ResponseBodies.{Plain, either_plain, whole_plain}
use Rattle.web_reply.specs.Replies.{Reply, plain_reply}
use Rattle.web_reply.specs.declared.errors.cause.HttpError.{HttpError}
use Rattle.web_reply.specs.declared.errors.cause.HttpError.TheVariants.{MaxSize}
use Rattle.web_reply.specs.HeaderSteps.{Headers, and_place_each, place, refuses_append, refuses_insert}
use Rattle.web_build.specs.Customized.{Customized, Fits, LayersOwn, either_reply, insert_all, layer_headers, layered, stacked, with_layers}
use Rattle.web_reply.specs.declared.body.EitherBody.{EitherBody}
use Rattle.web_reply.specs.declared.body.WholeBody.{WholeBody}
use Rattle.web_reply.specs.declared.header_setting.Placing.{Placing}
use Rattle.web_reply.specs.declared.header_setting.Placing.TheVariants.{Replace, Append}

abbrev Header : Type 0
Header = List ℕ × FieldValue

-- a header has no room, or it is changed so
abbrev Changes : Placing → (Headers → Header → Headers) → Type 0
Changes placing change =
    (m : Headers) (h : Header) → (place placing h.0 h.1 m ≡ Err MaxSize) ⊎ (place placing h.0 h.1 m ≡ Ok (change m h))

replaces : Changes Replace (λ m h. insert m h.0 h.1)
replaces m h = elim (cases_Bool (refuses_insert m h.0)) [ inl t ↦ inl (rw t) | inr f ↦ inr (rw f) ]

appends : Changes Append (λ m h. append m h.0 h.1)
appends m h = elim (cases_Bool (refuses_append m h.0)) [ inl t ↦ inl (rw t) | inr f ↦ inr (rw f) ]

module _ (placing : Placing) (change : Headers → Header → Headers) (changes : Changes placing change) where
  changed : (h : Header) (hs : List Header) (m : Headers) (s : Result Headers HttpError) → (s ≡ Err MaxSize) ⊎ (s ≡ Ok (change m h))
      → (IsOk (and_place_each placing (Ok (change m h)) hs) → and_place_each placing (Ok (change m h)) hs ≡ Ok (fold change (change m h) hs))
      → IsOk (and_place_each placing s hs) → and_place_each placing s hs ≡ Ok (fold change (change m h) hs)
  changed h hs m s (inl e) rest ok = let bad = subst (λ (z : Result Headers HttpError). IsOk (and_place_each placing z hs)) e ok in absurd (cc)
  changed h hs m s (inr e) rest ok = rw e (rest (subst (λ (z : Result Headers HttpError). IsOk (and_place_each placing z hs)) e ok))

  each : (hs : List Header) (m : Headers) → IsOk (and_place_each placing (Ok m) hs) → and_place_each placing (Ok m) hs ≡ Ok (fold change m hs)
  each [] m ok = refl
  each (h ∷ hs) m ok = changed h hs m (place placing h.0 h.1 m) (changes m h) (each hs (change m h)) ok

-- where all have room, each of the first had room
first_fits : (placing : Placing) (hs : List Header) (s : Result Headers HttpError) → IsOk (and_place_each placing s hs) → IsOk s
first_fits placing hs (Ok m) ok = refl
first_fits placing hs (Err e) ok = ok

pub is_stacked : {R : Type 0} (c : Customized R) (own : Reply Plain) → Fits c own → layered c own ≡ stacked c own
is_stacked c own fits =
    let first = each Replace (λ m h. insert m h.0 h.1) replaces (pairs c.overrides) own.head.headers (first_fits Append (pairs c.appended) _ fits) in
    let last = each Append (λ m h. append m h.0 h.1) appends (pairs c.appended) (insert_all own.head.headers (pairs c.overrides)) (rw first at fits) in
    rw (first, last)

-- a changed response with its body as a plain value
pub either_is_layered : {B : Type 0} (plain : B → Plain) (own : Reply B) (status : Option ℕ) (s : Result Headers HttpError)
    → plain_reply (λ body. either_plain plain whole_plain body) (either_reply own status s)
    ≡ with_layers (plain_reply plain own) (unwrap_or status own.head.status) s
either_is_layered plain own status (Ok m) = refl
either_is_layered plain own status (Err e) = refl

pub gives_layered : {R Q B E : Type 0} (responds : R → Q → Reply Plain → Type 0) (plain : B → Plain) (answer : Result (Reply (EitherBody B WholeBody)) E)
    (c : Customized R) (q : Q) (own : Reply B) → responds c.inner q (plain_reply plain own)
    → IfOk answer (λ r. r ≡ either_reply own c.status (layer_headers c.overrides c.appended own.head.headers))
    → IfOk answer (λ r. LayersOwn responds c q (plain_reply (λ body. either_plain plain whole_plain body) r))
gives_layered {R} {Q} {B} responds plain (Ok r) c q own says h = (
  plain_reply plain own,
  says,
  ap (λ (x : Reply (EitherBody B WholeBody)). plain_reply (λ body. either_plain plain whole_plain body) x) h
      ∙ either_is_layered plain own c.status (layer_headers c.overrides c.appended own.head.headers),
)
gives_layered responds plain (Err e) c q own says h = h
