-- The state of a payload as contracts see it, and what it gave between two states.
use Rattle.std.specs.Prelude.{◌≡◌, ℕ, ◌+◌, ◌-◌, ◌≤◌, List, [], Some, length, ⊤, false}
use Rattle.web_request.specs.Body.{whole}
use Rattle.web_request.specs.Feed.{Feed}
use Rattle.web_body.specs.declared.payload.Payload.{Payload}
use Rattle.web_body.specs.declared.payload.Payload.TheVariants as payload

-- Bytes in memory, or none. All counts are 0.
abbrev pub plain_feed : List ℕ → Feed
plain_feed b = record {
  marks = Some (whole b);
  faults = 0;
  stalls = 0;
  given = 0;
  answers = length b;
  lacked = false;
}

abbrev pub payload_feed : {S : Type 0} → (S → Feed) → Payload S → Feed
payload_feed feed payload.None = plain_feed []
payload_feed feed (payload.Whole b) = plain_feed b
payload_feed feed (payload.Stream s) = feed s

-- the bytes of a payload that is no stream
abbrev pub in_memory : {S : Type 0} → Payload S → ℕ
in_memory payload.None = 0
in_memory (payload.Whole b) = length b
in_memory (payload.Stream s) = 0

-- the bytes that a source gave, by its own count
abbrev pub stream_bytes_between : {S : Type 0} → (S → Feed) → S → Payload S → ℕ
stream_bytes_between feed s payload.None = 0
stream_bytes_between feed s (payload.Whole b) = 0
stream_bytes_between feed s (payload.Stream t) = (feed t).given - (feed s).given

-- how many bytes a payload gave from old to new
abbrev pub bytes_between : {S : Type 0} → (S → Feed) → Payload S → Payload S → ℕ
bytes_between feed payload.None new = 0
bytes_between feed (payload.Whole b) new = length b - in_memory new
bytes_between feed (payload.Stream s) new = stream_bytes_between feed s new

abbrev pub StreamGives : {S : Type 0} → (S → Feed) → S → ℕ → Payload S → Type 0
StreamGives feed s n payload.None = ⊥
StreamGives feed s n (payload.Whole b) = ⊥
StreamGives feed s n (payload.Stream t) = (feed t).given ≡ (feed s).given + n

abbrev pub PlainGives : {S : Type 0} → ℕ → ℕ → Payload S → Type 0
PlainGives size n payload.None = size ≡ n
PlainGives size n (payload.Whole b) = size ≡ n + length b
PlainGives size n (payload.Stream t) = ⊥

-- the payload gave n bytes from old to new, and a stream stayed a stream
abbrev pub GivesBytes : {S : Type 0} → (S → Feed) → Payload S → ℕ → Payload S → Type 0
GivesBytes feed payload.None n new = PlainGives 0 n new
GivesBytes feed (payload.Whole b) n new = PlainGives (length b) n new
GivesBytes feed (payload.Stream s) n new = StreamGives feed s n new

-- no count fell
pub record NoneFell (old new : Feed) : Type 0 where
  pub faults : old.faults ≤ new.faults
  pub stalls : old.stalls ≤ new.stalls
  pub given : old.given ≤ new.given

abbrev pub KeepsStream : {S : Type 0} → (S → Feed) → S → Payload S → Type 0
KeepsStream feed s payload.None = ⊥
KeepsStream feed s (payload.Whole b) = ⊥
KeepsStream feed s (payload.Stream t) = NoneFell (feed s) (feed t)

abbrev pub IsPlain : {S : Type 0} → Payload S → Type 0
IsPlain payload.None = ⊤
IsPlain (payload.Whole b) = ⊤
IsPlain (payload.Stream t) = ⊥

-- a stream is kept, and its counts do not fall; what is no stream becomes none
abbrev pub KeepsPayload : {S : Type 0} → (S → Feed) → Payload S → Payload S → Type 0
KeepsPayload feed payload.None new = IsPlain new
KeepsPayload feed (payload.Whole b) new = IsPlain new
KeepsPayload feed (payload.Stream s) new = KeepsStream feed s new
