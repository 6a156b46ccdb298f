-- The texts of addresses (RFC 5952).
use Rattle.std.specs.Prelude.{ℕ, ◌++◌, List, codes, decimal}
use Rattle.std.specs.Net.Text.{ipv4_text, ipv6_text}
use Rattle.web_request.specs.declared.peers.address.IpAddr.{IpAddr}
use Rattle.web_request.specs.declared.peers.address.IpAddr.TheVariants.{V4, V6}
use Rattle.web_request.specs.declared.peers.address.SocketAddr.{SocketAddr}

abbrev pub ip_text : IpAddr → List ℕ
ip_text (V4 bytes) = ipv4_text bytes
ip_text (V6 groups) = ipv6_text groups

-- an address of IPv6 stands in brackets
abbrev pub host_text : IpAddr → List ℕ
host_text (V4 bytes) = ip_text (V4 bytes)
host_text (V6 groups) = codes "[" ++ ip_text (V6 groups) ++ codes "]"

abbrev pub socket_text : SocketAddr → List ℕ
socket_text address = host_text address.ip ++ codes ":" ++ decimal address.port
