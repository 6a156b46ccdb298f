-- Where a request came from, by its header fields.
use Rattle.std.specs.Prelude.{ℕ, Bool, List, Option, codes, unwrap_or, if◌then◌else◌}
use Rattle.std.specs.Option.{option_map, option_or}
use Rattle.http_header.specs.FieldValue.{FieldValue}
use Rattle.http_header.specs.HeaderMap.{Entries, get_all}
use Rattle.web_forwarded.specs.Addresses.{bare_address}
use Rattle.web_forwarded.specs.ForwardedPairs.{forwarded}
use Rattle.web_texts.specs.HeaderTexts.{first_text}
use Rattle.web_forwarded.specs.FirstItems.{first_item}

-- the value of the first pair of this name in Forwarded
abbrev pub forwarded_value : Entries FieldValue → List ℕ → Option (List ℕ)
forwarded_value fields name = forwarded name (get_all fields (codes "forwarded"))

abbrev pub default_scheme : Bool → List ℕ
default_scheme secure = if secure then codes "https" else codes "http"

-- The first of these: what Forwarded says, X-Forwarded-Proto, the scheme of the target, and the one
-- that the worker serves.
abbrev pub scheme_by : Option (List ℕ) → Entries FieldValue → Option (List ℕ) → Bool → List ℕ
scheme_by said fields scheme secure =
    let sent = option_or said (first_item fields (codes "x-forwarded-proto")) in
    unwrap_or (option_or sent scheme) (default_scheme secure)

-- so, by `proto` of Forwarded
abbrev pub scheme_of : Entries FieldValue → Option (List ℕ) → Bool → List ℕ
scheme_of fields = scheme_by (forwarded_value fields (codes "proto")) fields

-- The first of these: what Forwarded says, X-Forwarded-Host, Host, the authority of the target, and
-- the host that the worker serves.
abbrev pub host_by : Option (List ℕ) → Entries FieldValue → Option (List ℕ) → List ℕ → List ℕ
host_by said fields authority host =
    let sent = option_or said (first_item fields (codes "x-forwarded-host")) in
    unwrap_or (option_or sent (option_or (first_text fields (codes "host")) authority)) host

-- so, by `host` of Forwarded
abbrev pub host_of : Entries FieldValue → Option (List ℕ) → List ℕ → List ℕ
host_of fields = host_by (forwarded_value fields (codes "host")) fields

-- The first of these: what Forwarded says, without its port, and X-Forwarded-For.
abbrev pub client_by : Option (List ℕ) → Entries FieldValue → Option (List ℕ)
client_by said fields =
    option_or (option_map bare_address said) (first_item fields (codes "x-forwarded-for"))

-- so, by `for` of Forwarded
abbrev pub client_of : Entries FieldValue → Option (List ℕ)
client_of fields = client_by (forwarded_value fields (codes "for")) fields
