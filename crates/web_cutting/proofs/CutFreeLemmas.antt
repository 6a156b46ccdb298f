-- Arguments that do not depend on the cutting.
use Rattle.std.proofs.Common.{◌≡◌, ◌≤◌, ℕ, max, List, [], length, refl, ◌∙◌, subst}
use Rattle.std.specs.Prelude.{Option, None, Some, Result, Ok, Err}
use Rattle.std.specs.Option.{option_map}
use Rattle.http_header.specs.FieldValue.{FieldValue}
use Rattle.http_header.specs.HeaderMap.{Entries}
use Rattle.web_request.specs.declared.source.Mark.{Mark}
use Rattle.web_request.specs.Reading.{Content, reading}
use Rattle.web_body.specs.Collector.{Read, read_of}
use Rattle.web_body.specs.MessageBody.{answer_of}
use Rattle.web_body.specs.HeadTests.{refusal_by}
use Rattle.web_reply.specs.Replies.{Fault}
use Rattle.web_body.specs.PayloadSettings.{PayloadSettings}
use Rattle.web_extract.specs.BytesArgument.{MeansBytes}
use Rattle.web_extract.specs.OptionArgument.{GivesOption, as_option}
use Rattle.web_extract.specs.ResultArgument.{AsResult, GivesResult}
use Rattle.web_extract.specs.StringArgument.{MeansString, bytes_of, decoded, string_refusal}
use Rattle.web_extract.specs.BodyArguments.{type_refusal, MeansBodyAfter, body_result, collected, collected_result, payload_fault, rest_after, unless_refused, read_result}
use Rattle.web_extract.specs.ListResults.{DelayedResult}
use Rattle.web_extract.specs.HeadArguments.{AllowsNow}
use Rattle.web_extract.specs.CappedArguments.{GivesCapped, wrapped}
use Rattle.web_extract.specs.ListMeanings.{Meaning, Means1, Means2, Means3, Means4, Member}
use Rattle.web_body.specs.Cuttings.{SameBody}
use Rattle.web_cutting.specs.CutFree.{CutFree}
use Rattle.web_cutting.specs.CutDecoders.{CutsBody}
use Rattle.web_request.specs.Body.{piece_bytes}
use Rattle.web_cutting.proofs.CutReadingLemmas.{SaysNoSize, says_same, within_same}

-- ---- the body collected

collected_same : (limit : ℕ) (m n : List Mark) → SameBody m n → collected (answer_of ((reading limit m).content)) ≡ collected (answer_of ((reading limit n).content))
collected_same limit m n same =
    says_same (λ c (x : Result (List ℕ) Fault). x ≡ collected (answer_of c)) (λ a b x h. h) limit m n same (collected (answer_of ((reading limit m).content))) refl

result_unless : (refusal : Option Fault) (r s : DelayedResult (List ℕ)) → r.result ≡ s.result → (unless_refused refusal r).result ≡ (unless_refused refusal s).result
result_unless None r s e = e
result_unless (Some f) r s e = refl

empty_same : SameBody [] []
empty_same = record { bytes = refl; ending = refl }

rest_same : (refusal : Option Fault) (m n : List Mark) → SameBody m n → SameBody (rest_after refusal m) (rest_after refusal n)
rest_same None m n same = empty_same
rest_same (Some e) m n same = same

module _ (refusal : Option Fault) (limit : ℕ) (headers : Entries FieldValue) where
  body_same : (m n : List Mark) → SameBody m n → (body_result refusal limit headers m).result ≡ (body_result refusal limit headers n).result
  body_same m n same =
      result_unless refusal (collected_result limit headers m) (collected_result limit headers n)
      (result_unless (option_map payload_fault (refusal_by headers limit)) (read_result (reading limit m)) (read_result (reading limit n)) (collected_same limit m n same))

  pub body_cut : CutFree (MeansBodyAfter refusal limit headers)
  body_cut m n rest d x same h =
      let kept : SameBody rest (rest_after refusal n) = rw h.0 (rest_same refusal m n same) in
      (rest_after refusal n, (body_result refusal limit headers n).delay, (refl, refl, h.2 ∙ body_same m n same), kept)

-- ---- a result as what it is turned into

pub turned_cut : {X Y : Type 0} (means : List Mark → List Mark → ℕ → X → Type 0) (into : X → Y → Type 0) → CutFree means
    → CutFree (λ m rest n y. (x : X) × means m rest n x × into x y)
turned_cut means into free m n rest d y same h =
    let r = free m n rest d h.0 same h.1 in
    (r.0, r.1, (h.0, r.2, h.2), r.3)

pub member_cut : {T E : Type 0} (converts : E → Fault → Type 0) (means : List Mark → List Mark → ℕ → Result T E → Type 0) → CutFree means → CutFree (Member converts means)
member_cut converts means free m n rest d (Ok v) same h = free m n rest d (Ok v) same h
member_cut converts means free m n rest d (Err x) same h =
    let r = free m n rest d (Err h.0) same h.1 in
    (r.0, r.1, (h.0, r.2, h.2), r.3)

pub now_cut : {X : Type 0} (allowed : X → Type 0) → CutFree (AllowsNow allowed)
now_cut allowed m n rest d x same h = (n, 0, (refl, refl, h.2), rw h.0 same)

-- ---- the arguments

pub bytes_cut : (settings : PayloadSettings) (headers : Entries FieldValue) → CutFree (MeansBytes settings headers)
bytes_cut settings headers = body_cut (type_refusal settings.required_type headers) settings.limit headers

pub string_cut : (settings : PayloadSettings) (headers : Entries FieldValue) → CutFree (MeansString settings headers)
string_cut settings headers =
    turned_cut (MeansBodyAfter (string_refusal settings headers) settings.limit headers) (λ y x. bytes_of x ≡ decoded y) (body_cut (string_refusal settings headers) settings.limit headers)

pub option_cut : {T E : Type 0} (means : List Mark → List Mark → ℕ → Result T E → Type 0) → CutFree means → CutFree (λ m rest n x. GivesOption (means m rest) n x)
option_cut means free = turned_cut means (λ y x. x ≡ as_option y) free

pub result_cut : {T E F : Type 0} (c : E → F → Type 0) (means : List Mark → List Mark → ℕ → Result T E → Type 0) → CutFree means → CutFree (λ m rest n x. GivesResult c (means m rest) n x)
result_cut c means free = turned_cut means (λ y x. AsResult c y x) free

-- ---- a body that is decoded

pub decoded_cut : {T E : Type 0} (decodes : Read → Result T E → Type 0) → SaysNoSize (λ c x. decodes (read_of c) x) → (limit : ℕ) (refusal : Option E) (m n : List Mark) → SameBody m n
    → CutsBody decodes limit refusal m n
decoded_cut decodes none limit (Some e) m n same d x h = (0, (refl, h.1))
decoded_cut decodes none limit None m n same d x h =
    ((reading limit n).delay, (refl, says_same (λ c y. decodes (read_of c) y) none limit m n same x h.1))

-- the same of any decoder, where the limit is not passed
pub within_cut : {T E : Type 0} (decodes : Read → Result T E → Type 0) (limit : ℕ) (refusal : Option E) (m n : List Mark) → SameBody m n → length (piece_bytes m) ≤ limit
    → CutsBody decodes limit refusal m n
within_cut decodes limit (Some e) m n same fits d x h = (0, (refl, h.1))
within_cut decodes limit None m n same fits d x h =
    ((reading limit n).delay, (refl, subst (λ (c : Content). decodes (read_of c) x) (within_same limit m n same fits) h.1))

pub capped_cut : {T E : Type 0} (cap : ℕ) (means : List Mark → List Mark → ℕ → Result T E → Type 0) → CutFree means
    → CutFree (λ m rest n x. GivesCapped {cap = cap} (means m rest) n x)
capped_cut cap means free = turned_cut means (λ y x. x ≡ wrapped y) free

-- ---- lists: each place leaves the same of the body

pub one_cut : {A : Type 0} (first : Meaning A) → CutFree first → CutFree (Means1 first)
one_cut first free m n rest d (Ok v) same h = free m n rest d (Ok v.0) same h
one_cut first free m n rest d (Err e) same h = free m n rest d (Err e) same h

pub two_cut : {A B : Type 0} (first : Meaning A) (second : Meaning B) → CutFree first → CutFree second → CutFree (Means2 first second)
two_cut first second free1 free2 m n rest d x same (left, j) =
    let a = free1 m n left j.n1 j.x1 same j.first_gives in
    let b = free2 left a.0 rest j.n2 j.x2 a.3 j.second_gives in (
      b.0,
      max a.1 b.1,
      (
        a.0,
        record {
          n1 = a.1;
          x1 = j.x1;
          first_gives = a.2;
          n2 = b.1;
          x2 = j.x2;
          second_gives = b.2;
          delay = refl;
          result = j.result;
        },
      ),
      b.3,
    )

pub three_cut : {A B C : Type 0} (first : Meaning A) (second : Meaning B) (third : Meaning C)
    → CutFree first → CutFree second → CutFree third → CutFree (Means3 first second third)
three_cut first second third free1 free2 free3 m n rest d x same (left1, left2, j) =
    let a = free1 m n left1 j.n1 j.x1 same j.first_gives in
    let b = two_cut second third free2 free3 left1 a.0 rest j.n2 j.x2 a.3 (left2, j.second_gives) in (
      b.0,
      max a.1 b.1,
      (
        a.0,
        b.2.0,
        record {
          n1 = a.1;
          x1 = j.x1;
          first_gives = a.2;
          n2 = b.1;
          x2 = j.x2;
          second_gives = b.2.1;
          delay = refl;
          result = j.result;
        },
      ),
      b.3,
    )

pub four_cut : {A B C D : Type 0} (first : Meaning A) (second : Meaning B) (third : Meaning C) (fourth : Meaning D)
    → CutFree first → CutFree second → CutFree third → CutFree fourth → CutFree (Means4 first second third fourth)
four_cut first second third fourth free1 free2 free3 free4 m n rest d x same (left1, left2, left3, j) =
    let k = j.second_gives in
    let a = free1 m n left1 j.n1 j.x1 same j.first_gives in
    let b = free2 left1 a.0 left2 k.n1 k.x1 a.3 k.first_gives in
    let c = two_cut third fourth free3 free4 left2 b.0 rest k.n2 k.x2 b.3 (left3, k.second_gives) in (
      c.0,
      max a.1 (max b.1 c.1),
      (
        a.0,
        b.0,
        c.2.0,
        record {
          n1 = a.1;
          x1 = j.x1;
          first_gives = a.2;
          n2 = max b.1 c.1;
          x2 = j.x2;
          second_gives = record {
            n1 = b.1;
            x1 = k.x1;
            first_gives = b.2;
            n2 = c.1;
            x2 = k.x2;
            second_gives = c.2.1;
            delay = refl;
            result = k.result;
          };
          delay = refl;
          result = j.result;
        },
      ),
      c.3,
    )
