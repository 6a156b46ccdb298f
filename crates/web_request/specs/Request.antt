-- A request, its parts and its record as contracts see them.
use Rattle.std.specs.Prelude.{ℕ, List, Option, None}
use Rattle.web_texts.specs.Pairs.{Pair}
use Rattle.web_request.specs.declared.config.AppConfig.{AppConfig}
use Rattle.web_request.specs.Connections.{Connection}
use Rattle.web_request.specs.Head.{Head}

-- L, D and C: a layer, the data of a request and that of a connection
pub record Request (L D C : Type 0) : Type 0 where
  pub head : Head
  pub params : List Pair
  -- the root layer first
  pub layers : List L
  pub conn : Option C
  pub local : Option D
  pub config : AppConfig

-- a request without the root layer and the configuration
pub record Parts (L D C : Type 0) : Type 0 where
  pub head : Head
  pub params : List Pair
  pub layers : List L
  pub conn : Option C
  pub local : Option D

-- What was computed of a request and is kept, whatever its head is now.
pub record Kept : Type 0 where
  pub connection : Option Connection
  -- the cookies of the header Cookie, percent-decoded
  pub decoded : Option (List Pair)
  -- those cookies as they are
  pub raw : Option (List Pair)

abbrev pub nothing_kept : Kept
nothing_kept = record { connection = None; decoded = None; raw = None }

-- a request in the record with this number
pub record Record (L D C : Type 0) : Type 0 where
  pub request : Request L D C
  pub serial : ℕ
  pub kept : Kept

-- a record of this request
abbrev pub record_of : {L D C : Type 0} → Request L D C → Record L D C
record_of q = record { request = q; serial = 0; kept = nothing_kept }
