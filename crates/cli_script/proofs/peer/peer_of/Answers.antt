use Rattle.std.proofs.Common.{sym}
use Rattle.cli_script.proofs.PeerLemmas.{peer_is}
use Rattle.cli_script.proofs.peer.peer_of.Goals as goal

pub returns : goal.returns
returns c =
    sym (peer_is c.args.text.now c.in_ok-address.address.now c.in_ok-address.port.now c.in_ok-octets.octets c.in_ok-port.port c.in_ok-address.ensures (sym c.in_ok-octets.ensures)
    (sym c.in_ok-port.ensures.value))
