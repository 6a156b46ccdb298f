-- Arguments that a reader makes of pairs, where a configured handler may answer its refusals.
use Rattle.std.specs.Prelude.{◌≡◌, ℕ, List, [], Result, Ok, Err, refl}
use Rattle.web_request.specs.declared.source.Mark.{Mark}
use Rattle.web_codec.specs.declared.faults.ReadFault.{ReadFault}
use Rattle.web_codec.specs.Answers.{OrAll}
use Rattle.web_codec.specs.Answers.{or_all_some}
use Rattle.web_reply.specs.Replies.{Fault}
use Rattle.web_extract.specs.Extracts.{AllowsOnly, AllowsSome, Possible}
use Rattle.web_extract.specs.HeadArguments.{AllowsNow, immediate}
use Rattle.web_extract.specs.ListResults.{Exactly}

-- T and X: what is read, and the argument; refused: the errors that a refusal may have
module _ {T X : Type 0} (value : T → X) (refused : ReadFault → Fault → Type 0) where
  -- the value that was read, or an error of its refusal
  abbrev pub IsReadAs : Result T ReadFault → Result X Fault → Type 0
  IsReadAs (Ok v) x = x ≡ Ok (value v)
  IsReadAs (Err e) x = (error : Fault) × refused e error × (x ≡ Err error)

  -- Of what the reader allows, one thing. A reader that allows nothing counts as allowing all.
  abbrev pub ReadsAs : (Result T ReadFault → Type 0) → Result X Fault → Type 0
  ReadsAs reads x = (y : Result T ReadFault) × OrAll reads y × IsReadAs y x

  -- the marks are left, and it comes at the first poll
  abbrev pub MeansRead : (Result T ReadFault → Type 0)
      → List Mark → List Mark → ℕ → Result X Fault → Type 0
  MeansRead reads m rest n x = AllowsNow (ReadsAs reads) m rest n x

module _ {T X : Type 0} (value : T → X) (refused : ReadFault → Fault → Type 0)
    (some : (e : ReadFault) → Possible (refused e)) where
  is_read_possible : (y : Result T ReadFault) → Possible (IsReadAs value refused y)
  is_read_possible (Ok v) none = none (Ok (value v)) refl
  is_read_possible (Err e) none = some e (λ error h. none (Err error) (error, h, refl))

  pub read_some : (reads : Result T ReadFault → Type 0) (m : List Mark)
      → AllowsSome (MeansRead value refused reads m)
  read_some reads m none =
      or_all_some reads (Err record { text = [] }) (λ y h. is_read_possible y (λ x k.
      none m 0 x (refl, refl, (y, h, k))))

-- what was read, or the error of its refusal
abbrev pub read_as :
    {T X : Type 0} → (T → X) → (ReadFault → Fault) → Result T ReadFault → Result X Fault
read_as value error (Ok v) = Ok (value v)
read_as value error (Err e) = Err (error e)

-- Where the reader allows one thing, and each refusal has one error, exactly this is allowed.
abbrev pub MeansOnlyRead : {T X : Type 0}
    → (T → X) → (ReadFault → Fault → Type 0) → (Result T ReadFault → Type 0)
    → (List Mark → List Mark → ℕ → Result X Fault → Type 0) → Type 0
MeansOnlyRead {T} value refused reads means =
    (y : Result T ReadFault) (error : ReadFault → Fault) (m : List Mark)
    → AllowsOnly reads y → ((e : ReadFault) → AllowsOnly (refused e) (error e))
    → Exactly means m m (immediate (read_as value error y))
