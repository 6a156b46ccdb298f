-- What the command reads and writes, status by status.
use Rattle.std.specs.Prelude.{◌≡◌, ◌<◌, ◌≤◌, ◌+◌, ◌⊎◌, ◌++◌, ℕ, List, [], length, codes, Some, true}
use Rattle.web_texts.specs.Counts.{Rose}
use Rattle.cli_io.specs.IoState.{InputState, OutputState}
use Rattle.cli_io.specs.WholeReading.{limit, IsAll, IsTooLong, IsFault}
use Rattle.cli_io.specs.WholeWriting.{IsWritten, IsCutOff}
use Rattle.web_request_log.specs.HeaderDescriptions.{newline}
use Rattle.web_cli.specs.CommandWords.{usage}
use Rattle.web_cli.specs.ScriptAnswers.{is_valid_script, IsFaultText}
use Rattle.web_cli.specs.declared.status.Status.{Status}
use Rattle.web_cli.specs.declared.status.Status.TheVariants as status

-- i and j: the input before and after; o and p: the output before and after

-- the text where more bytes than the limit came
abbrev pub too_long_text : List ℕ
too_long_text = codes "line 0: too long" ++ newline

-- More bytes than the limit came; or all was read, and a line is faulty. This text says which.
abbrev pub IsRefused : List ℕ → List ℕ → InputState → InputState → Type 0
IsRefused text came i j =
    (IsTooLong came i j × (text ≡ too_long_text))
    ⊎ (IsAll came i j × IsFaultText came text)

-- allocation failed; no read had failed, and nothing was written
pub record AllocationFails (i j : InputState) (o p : OutputState) : Type 0 where
  pub faults : j.faults ≡ i.faults
  pub nothing : p ≡ o

-- `replies` relates a script and the text of its replies; `called` is what serving it does to the
-- handler
module _ (replies : List ℕ → List ℕ → Type 0) (called : List ℕ → Type 0) where
  -- all was read, it is a valid script, and its replies were written
  pub record ServesScript (came : List ℕ) (i j : InputState) (o p : OutputState) : Type 0 where
    pub read : IsAll came i j
    pub valid : is_valid_script came ≡ true
    pub text : List ℕ
    pub replies_are : replies came text
    pub written : IsWritten text o p
    pub calls : called came

  -- all was read, it is a valid script, and a write failed after a prefix of its replies
  pub record CutsReplies (came : List ℕ) (i j : InputState) (o p : OutputState) : Type 0 where
    pub read : IsAll came i j
    pub valid : is_valid_script came ≡ true
    pub text : List ℕ
    pub replies_are : replies came text
    pub cut : (sent : ℕ) × IsCutOff sent text o p

  -- nothing is left of the input, and the replies to the script were written
  pub record WritesReplies (result : Status) (script : List ℕ) (j : InputState)
      (o p : OutputState) : Type 0 where
    pub result_is : result ≡ status.Done
    pub nothing_left : j.left ≡ Some []
    pub text : List ℕ
    pub replies_are : replies script text
    pub written : IsWritten text o p
    pub calls : called script

-- `untouched`: the handler is unchanged
module _ (untouched : Type 0) where
  -- the script is refused, and the text that says why was written
  pub record RefusesScript (came : List ℕ) (i j : InputState) (o p : OutputState) : Type 0 where
    pub text : List ℕ
    pub refused : IsRefused text came i j
    pub written : IsWritten text o p
    pub handler : untouched

  -- the script is refused, and a write failed after a prefix of the text that says why
  pub record CutsRefusal (came : List ℕ) (i j : InputState) (o p : OutputState) : Type 0 where
    pub text : List ℕ
    pub refused : IsRefused text came i j
    pub cut : (sent : ℕ) × IsCutOff sent text o p
    pub handler : untouched

  -- a read failed, and nothing was written
  pub record FailsToRead (came : List ℕ) (i j : InputState) (o p : OutputState) : Type 0 where
    pub read : IsFault came i j
    pub nothing : p ≡ o
    pub handler : untouched

-- what `serve` read and wrote, where these bytes came
abbrev pub ServeResult : (List ℕ → List ℕ → Type 0) → (List ℕ → Type 0) → Type 0
    → Status → List ℕ → InputState → InputState → OutputState → OutputState → Type 0
ServeResult replies called untouched status.Done came i j o p =
    ServesScript replies called came i j o p
ServeResult replies called untouched status.Script came i j o p =
    RefusesScript untouched came i j o p
ServeResult replies called untouched status.ReadFault came i j o p =
    FailsToRead untouched came i j o p
ServeResult replies called untouched status.WriteFault came i j o p =
    CutsReplies replies called came i j o p ⊎ CutsRefusal untouched came i j o p
ServeResult replies called untouched status.NoMemory came i j o p = AllocationFails i j o p
ServeResult replies called untouched status.Usage came i j o p = ⊥

-- the usage was written, or a write failed after a prefix of it
abbrev pub WritesUsage : Status → OutputState → OutputState → Type 0
WritesUsage status.Usage o p = IsWritten usage o p
WritesUsage status.WriteFault o p = (sent : ℕ) × IsCutOff sent usage o p
WritesUsage _ o p = ⊥

-- nothing was read, and the usage was written
pub record RefusesWords (result : Status) (i j : InputState) (o p : OutputState) : Type 0 where
  pub input : j ≡ i
  pub usage_written : WritesUsage result o p

-- What a command that reads nothing wrote: a text with P, or a prefix of one where a write failed,
-- or nothing where an allocation failed. Where all was written, `called` says what was done to the
-- handler.
abbrev pub WritesText :
    (List ℕ → Type 0) → Type 0 → Status → OutputState → OutputState → Type 0
WritesText P called status.Done o p = ((text : List ℕ) × P text × IsWritten text o p) × called
WritesText P called status.WriteFault o p =
    (text : List ℕ) × P text × ((sent : ℕ) × IsCutOff sent text o p)
WritesText P called status.NoMemory o p = p ≡ o
WritesText P called _ o p = ⊥

-- the input is as it was, and this is what was written
pub record WritesAlone (P : List ℕ → Type 0) (called : Type 0) (result : Status)
    (i j : InputState) (o p : OutputState) : Type 0 where
  pub input : j ≡ i
  pub text_written : WritesText P called result o p

-- where a read failed, that is the status, or allocation failed
abbrev pub ReadFaultIsReported : Status → InputState → InputState → Type 0
ReadFaultIsReported result i j =
    i.faults < j.faults → (result ≡ status.ReadFault) ⊎ (result ≡ status.NoMemory)

-- where a write failed, that is the status
abbrev pub WriteFaultIsReported : Status → OutputState → OutputState → Type 0
WriteFaultIsReported result o p = o.faults < p.faults → result ≡ status.WriteFault

-- where more bytes than the limit came, the script is refused, or a write or an allocation failed
abbrev pub TooLongIsReported : Status → InputState → InputState → Type 0
TooLongIsReported result i j =
    i.given + limit < j.given
    → (result ≡ status.Script) ⊎ ((result ≡ status.WriteFault) ⊎ (result ≡ status.NoMemory))

-- allocation failed, and nothing was written
pub record HasNoMemory (result : Status) (o p : OutputState) : Type 0 where
  pub result_is : result ≡ status.NoMemory
  pub nothing : p ≡ o

-- Every valid script within the limit, where no read and no write fails, is served, or allocation
-- failed.
abbrev pub Headline : (List ℕ → List ℕ → Type 0) → (List ℕ → Type 0)
    → Status → InputState → InputState → OutputState → OutputState → Type 0
Headline replies called result i j o p =
    (script : List ℕ) → i.left ≡ Some script → length script ≤ limit
    → is_valid_script script ≡ true
    → ¬ (Rose i.faults j.faults) → ¬ (Rose o.faults p.faults)
    → HasNoMemory result o p ⊎ WritesReplies replies called result script j o p
