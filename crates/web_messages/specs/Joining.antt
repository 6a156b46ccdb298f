-- Chunks that were read, written anew as one: the bytes read the same, but for how many they are.
use Rattle.std.specs.Prelude.{◌≡◌, ℕ, ◌+◌, ◌-◌, ◌/◌, ◌<◌, ◌≤◌, List, ◌++◌, length, drop, Option}
use Rattle.std.specs.Prelude.{None, Some, Vec, false, ⊤}
use Rattle.std.specs.Fmt.{digits}
use Rattle.std.specs.declared.alloc.Global.{Global}
use Rattle.httparse.specs.Ascii.{crlf_bytes}
use Rattle.web_messages.specs.NextMessage.{IsNext}
use Rattle.web_messages.specs.Progress.{IsProgress, IsShort}
use Rattle.web_messages.specs.declared.limits.Limits.{Limits}
use Rattle.web_messages.specs.declared.message.Message.{Message}
use Rattle.web_messages.specs.declared.message.Next.{Next}
use Rattle.web_messages.specs.declared.message.Next.TheVariants as next
use Rattle.web_messages.specs.declared.progress.Progress.{Progress}
use Rattle.web_messages.specs.declared.progress.Progress.TheVariants as progress

-- a chunk of these bytes: their number in hexadecimal digits, as few as it has
abbrev pub one_chunk : List ℕ → List ℕ
one_chunk bytes = digits 16 false (length bytes) ++ (crlf_bytes ++ (bytes ++ crlf_bytes))

-- the message, which uses so many bytes
abbrev pub with_used : Message → ℕ → Message
with_used m n = record {
  method = m.method;
  uri = m.uri;
  version = m.version;
  headers = m.headers;
  body = m.body;
  used = n;
}

-- what is next, where `new` bytes stand for `old` ones and as many are left after a message
abbrev pub resized : ℕ → ℕ → Next → Next
resized old new (next.Message m) = next.Message (with_used m (m.used + new - old))
resized old new (next.Refused w) = next.Refused w
resized old new next.Closed = next.Closed

-- bytes that read the same, but for how many they are: the same bytes are after a message
pub record ReadsAlike (limits : Limits) (bytes other : List ℕ) : Type 0 where
  pub there : (x : Next) → IsNext limits bytes x
      → IsNext limits other (resized (length bytes) (length other) x)
  pub back : (x : Next) → IsNext limits other x
      → IsNext limits bytes (resized (length other) (length bytes) x)
  pub behind : (m : Message) → IsNext limits bytes (next.Message m)
      → drop m.used bytes ≡ drop (m.used + length other - length bytes) other

-- the chunks that were read have few bytes besides their content: a sixteenth of it, and 4,096
abbrev pub HasFewLines : Progress → Type 0
HasFewLines (progress.Head s) = ⊤
HasFewLines (progress.Sized head n) = ⊤
HasFewLines (progress.Chunked head place body) =
    length body.items < 4294967296
    → place.at ≤ length body.items + (length body.items / 16 + 4096)

-- these bytes stand for the others, whatever follows, with this progress
pub record JoinsTo (limits : Limits) (bytes other : List ℕ) (p : Progress) : Type 0 where
  pub is_progress : IsProgress limits other p
  pub alike : (more : List ℕ) → ReadsAlike limits (bytes ++ more) (other ++ more)
  pub fewer : length other ≤ length bytes
  pub short : IsShort limits other p
  pub few : HasFewLines p

-- the bytes stay, or others stand for them
abbrev pub Joins : Limits → List ℕ → Progress → Progress → Option (Vec ℕ Global) → Type 0
Joins limits bytes old new None = (new ≡ old) × HasFewLines new
Joins limits bytes old new (Some joined) = JoinsTo limits bytes joined.items new
