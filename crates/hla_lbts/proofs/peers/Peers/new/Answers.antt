-- Nothing is known of any peer.
use Rattle.hla_lbts.proofs.PeerLemmas.{peers_of-silent}
use Rattle.hla_lbts.proofs.peers.Peers.new.Goals as goal

pub returns : goal.returns
returns c = peers_of-silent 17
