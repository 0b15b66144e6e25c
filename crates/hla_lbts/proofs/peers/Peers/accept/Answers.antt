-- The epoch stays, and the bound is raised where the epoch is the one that is known.
use Rattle.std.proofs.Common.{◌≡◌, ap, ◌∙◌}
use Rattle.hla_base.specs.Tables.{upd}
use Rattle.hla_lbts.specs.Peers.{peers_of, null_bound}
use Rattle.hla_lbts.proofs.PeerLemmas.{tables, upd-same, raised_bound, ignored_bound}
use Rattle.hla_lbts.proofs.peers.Peers.accept.Goals as goal
use Rattle.hla_lbts.proofs.peers.Peers.accept.Goals.{then-epoch-row, else-epoch-row}

bound_of : (c : goal.After-put) → c.if-epoch-row.bound ≡ null_bound c.row-row.result.epoch c.row-row.result.bound c.args.epoch c.args.value
bound_of c =
    elim c.if-epoch-row.branch [
      | then-epoch-row w ↦ w.bound-is ∙ w.max-bound.ensures ∙ raised_bound c.row-row.result.epoch c.row-row.result.bound c.args.epoch c.args.value w.if-epoch-row.true
      | else-epoch-row w ↦ w.bound-is ∙ ignored_bound c.row-row.result.epoch c.row-row.result.bound c.args.epoch c.args.value w.if-epoch-row.false
    ]

pub returns : goal.returns
returns c =
    let t = peers_of c.args.self.now in
    let old = c.row-row.ensures in
    c.put.ensures
    ∙ ap (λ b. tables (upd t.bound c.args.peer b) (upd t.known_epoch c.args.peer c.row-row.result.epoch)) (bound_of c)
    ∙ ap (λ r. tables (upd t.bound c.args.peer (null_bound r.epoch r.bound c.args.epoch c.args.value)) (upd t.known_epoch c.args.peer r.epoch)) old
    ∙ ap (tables (upd t.bound c.args.peer (null_bound (t.known_epoch c.args.peer) (t.bound c.args.peer) c.args.epoch c.args.value))) (upd-same t.known_epoch c.args.peer)
