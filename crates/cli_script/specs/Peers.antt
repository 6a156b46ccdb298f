-- The address that a `peer` line says.
use Rattle.std.specs.Prelude.{ℕ, ◌==◌, ◌&&◌, List, [], ◌∷◌, length, map, Option, None, Some}
use Rattle.std.specs.Prelude.{is_some, unwrap_or, if◌then◌else◌}
use Rattle.std.specs.List.{list_all, slice_split}
use Rattle.std.specs.Option.{option_and_then, option_map}
use Rattle.web_request.specs.declared.peers.address.IpAddr.TheVariants.{V4}
use Rattle.web_request.specs.declared.peers.address.SocketAddr.{SocketAddr}
use Rattle.web_texts.specs.Bytes.{is_dot}
use Rattle.web_texts.specs.Cut.{split_once}
use Rattle.web_texts.specs.Digits.{digits_up_to}

-- a number of at most 255, in digits
abbrev pub octet_of : List ℕ → Option ℕ
octet_of text = digits_up_to 255 text

-- four such numbers
abbrev pub octets_of : List (List ℕ) → Option (List ℕ)
octets_of parts =
    if length parts == 4 && list_all (λ part. is_some (octet_of part)) parts
    then Some (map (λ part. unwrap_or (octet_of part) 0) parts)
    else None

abbrev pub address_of : List ℕ → Option ℕ → Option SocketAddr
address_of octets port =
    option_map (λ number. record { ip = V4 octets; port = number }) port

-- the four numbers of an address of IPv4 and that of a port
abbrev pub node_of : List ℕ × List ℕ → Option SocketAddr
node_of halves =
    option_and_then (λ octets. address_of octets (digits_up_to 65535 halves.1))
    (octets_of (slice_split is_dot halves.0))

-- Four numbers of at most 255 with dots between, a colon, and a port of at most 65,535.
abbrev pub peer_of : List ℕ → Option SocketAddr
peer_of text = option_and_then node_of (split_once 58 text)

abbrev pub no_address : SocketAddr
no_address = record { ip = V4 (0 ∷ 0 ∷ 0 ∷ 0 ∷ []); port = 0 }

-- what the argument of a `peer` line says, where it is an address
abbrev pub line_peer : List ℕ → SocketAddr
line_peer text = unwrap_or (peer_of text) no_address
