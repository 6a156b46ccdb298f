-- A pool of records as contracts see it, and its state after each call.
use Rattle.std.specs.Prelude.{ℕ, ◌≡◌, ◌+◌, ◌-◌, List, [], ◌∷◌, ◌++◌, None, Bool, true, false}
use Rattle.std.specs.Prelude.{◌&&◌, if◌then◌else◌, length, nat_lt, slice_index_or, take, codes}
use Rattle.http.specs.declared.version.TheConstants.Version.{HTTP_11}
use Rattle.web_request.specs.declared.config.AppConfig.{AppConfig}
use Rattle.web_request.specs.Head.{Head}
use Rattle.web_request.specs.Request.{Parts, Record, nothing_kept}

pub record Pool (L : Type 0) : Type 0 where
  -- the numbers of the records that are kept, the oldest first
  pub serials : List ℕ
  -- how many records were made
  pub made : ℕ
  pub capacity : ℕ
  pub enabled : Bool
  pub root : L
  pub config : AppConfig

-- a pool that has made no record yet
abbrev pub new_pool : {L : Type 0} → L → AppConfig → ℕ → Pool L
new_pool root config capacity = record {
  serials = [];
  made = 0;
  capacity = capacity;
  enabled = true;
  root = root;
  config = config;
}

abbrev pub last_or : ℕ → List ℕ → ℕ
last_or n xs = slice_index_or xs (length xs - 1) n

abbrev pub but_last : List ℕ → List ℕ
but_last xs = take (length xs - 1) xs

abbrev pub made_after : ℕ → List ℕ → ℕ
made_after n [] = n + 1
made_after n (x ∷ xs) = n

-- the number of the record of the next request: the one kept last, or a new one
abbrev pub next_serial : {L : Type 0} → Pool L → ℕ
next_serial p = last_or p.made p.serials

-- the pool after a request was started
abbrev pub after_start : {L : Type 0} → Pool L → Pool L
after_start p = record p {
  serials = but_last p.serials;
  made = made_after p.made p.serials;
}

-- whether a record that is given back is kept
abbrev pub available : {L : Type 0} → Pool L → Bool
available p = p.enabled && nat_lt (length p.serials) p.capacity

-- the pool after the record with this number was given back
abbrev pub after_give_back : {L : Type 0} → ℕ → Pool L → Pool L
after_give_back n p = record p {
  serials = if available p then p.serials ++ n ∷ [] else p.serials;
}

-- the pool that keeps none from now on
abbrev pub after_disable : {L : Type 0} → Pool L → Pool L
after_disable p = record p { serials = []; enabled = false }

-- the record with this number of a request of these parts, under a root layer and a configuration
abbrev pub new_record : {L D C : Type 0}
    → L → AppConfig → ℕ → Parts L D C → Record L D C
new_record root config serial p = record {
  request = record {
    head = p.head;
    params = p.params;
    layers = root ∷ p.layers;
    conn = p.conn;
    local = p.local;
    config = config;
  };
  serial = serial;
  kept = nothing_kept;
}

-- the head of a record that holds no request
abbrev pub empty_head : Head
empty_head = record {
  scheme = None;
  authority = None;
  target = codes "/";
  method = codes "GET";
  version = HTTP_11;
  headers = [];
  peer = None;
}

-- Nothing of an earlier request is left but the configuration, which the next request replaces.
pub record Clean {L D C : Type 0} (r : Record L D C) : Type 0 where
  pub head : r.request.head ≡ empty_head
  pub params : r.request.params ≡ []
  pub layers : r.request.layers ≡ []
  pub conn : r.request.conn ≡ None
  pub local : r.request.local ≡ None
  pub kept : r.kept ≡ nothing_kept
