-- The least that is kept is that of the rows.
use Rattle.std.proofs.Common.{◌≡◌, ℕ, ◌≤◌, length, get_or, ap, ◌∙◌, arith}
use Rattle.std.proofs.lemmas.List.{get_or_past}
use Rattle.hla_base.specs.Tables.{forever, least}
use Rattle.hla_lbts.specs.declared.row.PeerRow.{PeerRow}
use Rattle.hla_lbts.specs.Peers.{silent_peer, peers_of}
use Rattle.hla_lbts.proofs.RowLemmas.{least_upto}
use Rattle.hla_lbts.proofs.peers.Peers.bound.Goals as goal

pub returns-clause-joined : goal.returns-clause-joined
returns-clause-joined c =
    λ n free.
    let at_rows : (g : ℕ) → n ≤ g → (get_or c.self.inside.rows g silent_peer).bound ≡ forever = λ g past. ap (λ rows. (get_or rows g silent_peer).bound) c.self.view_is ∙ free g past in
    least_upto c.self.inside.rows c.self.inside.least c.self.inside.holders n c.self.invariant.least_is at_rows ∙ ap (λ rows. least n (peers_of rows).bound) c.self.view_is

pub returns-clause-rows : goal.returns-clause-rows
returns-clause-rows c =
    let free : (g : ℕ) → 17 ≤ g → (get_or c.self.inside.rows g silent_peer).bound ≡ forever = λ g past. let beyond : length c.self.inside.rows ≤ g = omega (arith, c.self.invariant.size) in ap (λ (r : PeerRow). r.bound) (get_or_past c.self.inside.rows g silent_peer beyond) in
    least_upto c.self.inside.rows c.self.inside.least c.self.inside.holders 17 c.self.invariant.least_is free ∙ ap (λ rows. least 17 (peers_of rows).bound) c.self.view_is
