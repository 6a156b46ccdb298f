-- The address that a request came from, as an argument.
use Rattle.std.specs.Prelude.{◌≡◌, Option, None, Some, Result, Ok, Err, refl}
use Rattle.web_request.specs.declared.peers.address.SocketAddr.{SocketAddr}
use Rattle.web_request.specs.declared.peers.peer.MissingPeerAddr.{MissingPeerAddr}
use Rattle.web_request.specs.declared.peers.peer.PeerAddr.{PeerAddr}
use Rattle.web_reply.specs.declared.errors.cause.Cause.TheVariants.{MissingPeer}
use Rattle.web_reply.specs.Replies.{Fault, fault_of}

-- the address that is known, or that it is missing
abbrev pub peer_or_missing : Option SocketAddr → Result PeerAddr MissingPeerAddr
peer_or_missing None = Err record {}
peer_or_missing (Some address) = Ok record { 0 = address }

pub missing_peer_converted : (e : MissingPeerAddr) → (f : Fault) × (f ≡ fault_of MissingPeer)
missing_peer_converted e = (fault_of MissingPeer, refl)
