-- What a builder builds, and when it is spent.
use Rattle.std.proofs.Common.{◌≡◌, ℕ, true, false, Option, Some, None, MatchOption, is_none, IfOk, refl, ap, ◌∙◌, subst, sym, inl, inr}
use Rattle.std.specs.Prelude.{List, Result, Ok, Err, IsOkAnd, codes, is_some}
use Rattle.std.specs.Option.{unwrap_or}
use Rattle.std.specs.Bool.{Decides}
use Rattle.std.proofs.lemmas.Bool.{cases_Bool}
use Rattle.http_header.specs.HeaderMap.{ContainsKey, index_of}
use Rattle.http_header.specs.Places.{IsAbsent, IsAt}
use Rattle.http_header.proofs.PlacesLemmas.{index_of_cases}
use Rattle.web_reply.specs.HeaderSteps.{Headers}
use Rattle.web_reply.specs.ResponseBodies.{Plain, whole_plain}
use Rattle.web_reply.specs.Replies.{Fault, Reply, fault_of, with_body}
use Rattle.web_reply.specs.declared.errors.cause.Cause.TheVariants.{Http}
use Rattle.web_reply.specs.declared.errors.cause.HttpError.{HttpError}
use Rattle.serde_json.specs.Data.{Data}
use Rattle.web_codec.specs.PrintedValues.{PrintsJson}
use Rattle.web_codec.specs.declared.faults.WriteFault.{WriteFault}
use Rattle.web_build.specs.Builders.{Building, BuildsJson, built, default_type, has_type, json_reply, message_of, reply_of, set_no_chunking}

type_decides : (m : Headers) → Decides (has_type m) (ContainsKey m (codes "content-type"))
type_decides m = by (index_of m (codes "content-type")) (index_of_cases m (codes "content-type"))
  where
    by : (o : Option ℕ) → MatchOption o (IsAbsent m (codes "content-type")) (IsAt m (codes "content-type"))
        → Decides (is_some o) (ContainsKey m (codes "content-type"))
    by None x = (λ h. cc, λ h. absurd (x.absent h))
    by (Some i) x = (λ _. x.contains, λ _. refl)

pub is_typed : (m : Headers) → ContainsKey m (codes "content-type") → has_type m ≡ true
is_typed m h = (type_decides m).1 h

pub is_untyped : (m : Headers) → ¬ (ContainsKey m (codes "content-type")) → has_type m ≡ false
is_untyped m n = elim (cases_Bool (has_type m)) [ inl t ↦ absurd (n ((type_decides m).0 t)) | inr f ↦ f ]

-- the builder is as spent after a setter as it was
pub default_type_unspent : (content_type : List ℕ) (b : Building) → is_none b.response ≡ false → is_none (default_type content_type b).response ≡ false
default_type_unspent content_type b unspent = by b.response unspent
  where
    by : (r : Option (Reply (Unit {0}))) → is_none r ≡ false
        → is_none (default_type content_type (record { response = r; error = b.error })).response ≡ false
    by None unspent = unspent
    by (Some r) unspent = refl

pub no_chunking_unspent : (n : ℕ) (b : Building) → is_none b.response ≡ false → is_none (set_no_chunking n b).response ≡ false
no_chunking_unspent n b unspent = by b.response unspent
  where
    by : (r : Option (Reply (Unit {0}))) → is_none r ≡ false
        → is_none (set_no_chunking n (record { response = r; error = b.error })).response ≡ false
    by None unspent = unspent
    by (Some r) unspent = refl

some_same : {T : Type 0} (a b : T) → Some a ≡ Some b → a ≡ b
some_same {T} a b e = ap (λ (o : Option T). unwrap_or o a) e

pub is_built : {B : Type 0} (plain : B → Plain) (body : B) (r : Option (Reply (Unit {0}))) (e : Option HttpError) (x : Result (Reply B) Fault)
    → Some x ≡ message_of body r e → reply_of plain x ≡ built whole_plain (plain body) r e
is_built plain body r (Some e) x is = ap (λ (y : Result _ Fault). reply_of plain y) (some_same x (Err (fault_of (Http e))) is)
is_built plain body None None x is = absurd (cc)
is_built plain body (Some r) None x is = ap (λ (y : Result _ Fault). reply_of plain y) (some_same x (Ok (with_body body r)) is)

-- where no error is kept, what is built has the body that was given
pub has_body : {B : Type 0} (P : B → Type 0) (body : B) (r : Option (Reply (Unit {0}))) (e : Option HttpError) (x : Result (Reply B) Fault)
    → Some x ≡ message_of body r e → e ≡ None → P body → IsOkAnd x (λ reply. P reply.body)
has_body P body r (Some e) x is none p = absurd (cc)
has_body P body None None x is none p = absurd (cc)
has_body {B} P body (Some r) None x is none p =
    subst (λ (y : Result (Reply B) Fault). IsOkAnd y (λ reply. P reply.body)) (sym (some_same x (Ok (with_body body r)) is)) p

module _ {R E : Type 0} (view : R → Reply Plain) where
  pub gives_same : (answer : Result R E) (x y : Reply Plain) → x ≡ y → IfOk answer (λ r. view r ≡ x) → IfOk answer (λ r. view r ≡ y)
  gives_same (Ok r) x y same h = h ∙ same
  gives_same (Err e) x y same h = h

  pub gives_json : (answer : Result R E) (writes : Result Data WriteFault → Type 0) (b : Building) (text : Result (List ℕ) WriteFault)
      → PrintsJson writes text → IfOk answer (λ r. view r ≡ json_reply b text) → IfOk answer (λ r. BuildsJson writes b (view r))
  gives_json (Ok r) writes b text prints h = (text, prints, h)
  gives_json (Err e) writes b text prints h = h
