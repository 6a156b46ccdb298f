-- The collector of the body of a request: what its head said, what is collected of it, and the
-- results that it may still give.
use Rattle.std.specs.Prelude.{◌≡◌, ℕ, Bool, false, List, []}
use Rattle.std.specs.Prelude.{Option, None, Some, Result, Ok, Err, ⊤, refl}
use Rattle.http_header.specs.FieldValue.{FieldValue}
use Rattle.http_header.specs.HeaderMap.{Entries, get}
use Rattle.web_request.specs.declared.source.Mark.{Mark}
use Rattle.web_request.specs.Reading.{Content, Reading}
use Rattle.web_request.specs.Feed.{Feed}
use Rattle.web_body.specs.declared.payload.Payload.{Payload}
use Rattle.web_body.specs.declared.collecting.Unread.TheVariants.{TooLong, Failed}
use Rattle.web_body.specs.declared.head_tests.Declared.{Declared}
use Rattle.web_body.specs.declared.message_body.PayloadError.{PayloadError}
use Rattle.web_body.specs.declared.message_body.PayloadError.TheVariants.{Overflow, Io}
use Rattle.web_body.specs.Payload.{payload_feed}
use Rattle.web_body.specs.PollSteps.{GivesSome}
use Rattle.web_body.specs.HeadTests.{content_encoding, content_length}
use Rattle.web_body.specs.HeadTests.{declared_of, head_refusal, is_coded_of}
use Rattle.web_body.specs.Collector.{Read, read_of, reading_of, some_answer}
use Rattle.web_body.specs.Collector.{Allows, MeansReading, NeedsNoMemory}

pub record MessageBody (S : Type 0) : Type 0 where
  pub payload : Payload S
  -- the bytes that came, and none once it is finished with a body
  pub held : List ℕ
  pub limit : ℕ
  -- what the head said of the length, and of a coding
  pub declared : Declared
  pub is_coded : Bool
  pub is_finished : Bool

-- the limit where no other is chosen, in bytes
abbrev pub default_limit : ℕ
default_limit = 262144

-- a collector that was not polled yet
abbrev pub unpolled : {S : Type 0} → Payload S → ℕ → Declared → Bool → MessageBody S
unpolled payload limit declared is_coded = record {
  payload = payload;
  held = [];
  limit = limit;
  declared = declared;
  is_coded = is_coded;
  is_finished = false;
}

-- the collector of a payload that came with these headers
abbrev pub new_message_body : {S : Type 0}
    → Payload S → ℕ → Entries FieldValue → MessageBody S
new_message_body payload limit headers =
    unpolled payload limit (declared_of (get headers content_length))
    (is_coded_of (get headers content_encoding))

abbrev pub payload_answer : Read → Result (List ℕ) PayloadError
payload_answer (Ok b) = Ok b
payload_answer (Err (TooLong size)) = Err Overflow
payload_answer (Err Failed) = Err Io

abbrev pub answer_of : Content → Result (List ℕ) PayloadError
answer_of content = payload_answer (read_of content)

abbrev pub body_refusal : {S : Type 0} → MessageBody S → Option PayloadError
body_refusal b = head_refusal b.declared b.is_coded b.limit

abbrev pub body_reading : {S : Type 0} → (S → Feed) → MessageBody S → Option Reading
body_reading feed b = reading_of b.limit (payload_feed feed b.payload).marks b.held

-- a refusal comes at the first poll; where there is none, what the reading allows
abbrev pub AllowsBody : Option PayloadError → Option Reading
    → ℕ → Result (List ℕ) PayloadError → Type 0
AllowsBody None r n x = Allows answer_of r n x
AllowsBody (Some e) r n x = (n ≡ 0) × (x ≡ Err e)

abbrev pub body_gives : {S : Type 0} → (S → Feed)
    → MessageBody S → ℕ → Result (List ℕ) PayloadError → Type 0
body_gives feed b n x = AllowsBody (body_refusal b) (body_reading feed b) n x

some_body_answer : (e : Option PayloadError) (r : Option Reading)
    → (n : ℕ) × (x : Result (List ℕ) PayloadError) × AllowsBody e r n x
some_body_answer None r = some_answer answer_of r
some_body_answer (Some e) r = (0, Err e, (refl, refl))

pub body_some : {S : Type 0} (feed : S → Feed) (b : MessageBody S) → GivesSome (body_gives feed b)
body_some feed b none =
    let h = some_body_answer (body_refusal b) (body_reading feed b) in none h.0 h.1 h.2

-- Where there is a refusal, it alone is allowed, and at once. Where there is none and the marks are
-- stated, only the result of reading them under the limit is allowed.
abbrev pub MeansBody : Option PayloadError → ℕ → Option (List Mark)
    → (ℕ → Result (List ℕ) PayloadError → Type 0) → Type 0
MeansBody None limit marks gives = MeansReading answer_of limit marks gives
MeansBody (Some e) limit marks gives =
    (n : ℕ) (x : Result (List ℕ) PayloadError) → gives n x → (n ≡ 0) × (x ≡ Err e)

-- what makes a poll allocate nothing: a refusal, or what is held and left to read
abbrev pub BodyNeedsNoMemory : Option PayloadError → Option (List Mark) → List ℕ → Type 0
BodyNeedsNoMemory None marks held = NeedsNoMemory marks held
BodyNeedsNoMemory (Some e) marks held = ⊤
