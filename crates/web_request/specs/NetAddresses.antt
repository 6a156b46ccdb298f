-- The addresses of std as those of a request.
use Rattle.std.specs.Net.Addr.{ipv4_octets, ipv6_segments}
use Rattle.std.specs.Net.Socket.{socket_ip, socket_port}
use Rattle.std.specs.declared.net.ip_addr.IpAddr.{IpAddr as NetIpAddr}
use Rattle.std.specs.declared.net.ip_addr.IpAddr.TheVariants as net
use Rattle.std.specs.declared.net.socket_addr.SocketAddr.{SocketAddr as NetSocketAddr}
use Rattle.web_request.specs.declared.peers.address.IpAddr.{IpAddr}
use Rattle.web_request.specs.declared.peers.address.IpAddr.TheVariants.{V4, V6}
use Rattle.web_request.specs.declared.peers.address.SocketAddr.{SocketAddr}

abbrev pub ip_of : NetIpAddr → IpAddr
ip_of (net.V4 ip) = V4 (ipv4_octets ip)
ip_of (net.V6 ip) = V6 (ipv6_segments ip)

-- the address and the port, without the flow information and the scope of IPv6
abbrev pub socket_of : NetSocketAddr → SocketAddr
socket_of address = record { ip = ip_of (socket_ip address); port = socket_port address }
