-- A row is put into the table, and the least and how many have it follow.
use Rattle.std.proofs.Common.{length-set, ap, ◌∙◌, arith}
use Rattle.hla_base.specs.Tables.{upd}
use Rattle.hla_lbts.specs.Peers.{peers_of}
use Rattle.hla_lbts.proofs.RowLemmas.{set_below}
use Rattle.hla_lbts.proofs.PeerLemmas.{tables, peers_of-set}
use Rattle.hla_lbts.proofs.peers.Peers.put.Goals as goal

pub invariant_of-self : goal.invariant_of-self
invariant_of-self c = record {
  size = omega (arith, c.self.invariant.size, length-set c.self.inside.rows c.args.peer c.args.row);
  least_is = set_below c.self.inside.rows c.self.inside.least c.self.inside.holders c.args.peer c.args.row c.self.invariant.least_is (omega arith) c.if-row-self.true;
}

pub returns-then-row-self : goal.returns-then-row-self
returns-then-row-self c = peers_of-set c.self.inside.rows c.args.peer c.args.row (omega arith) ∙ ap (λ rows. tables (upd (peers_of rows).bound c.args.peer c.args.row.bound) (upd (peers_of rows).known_epoch c.args.peer c.args.row.epoch)) c.self.view_is

pub returns-then-self-eq0 : goal.returns-then-self-eq0
returns-then-self-eq0 c = peers_of-set c.self.inside.rows c.args.peer c.args.row (omega arith) ∙ ap (λ rows. tables (upd (peers_of rows).bound c.args.peer c.args.row.bound) (upd (peers_of rows).known_epoch c.args.peer c.args.row.epoch)) c.self.view_is

pub returns-else-self-eq0 : goal.returns-else-self-eq0
returns-else-self-eq0 c = peers_of-set c.self.inside.rows c.args.peer c.args.row (omega arith) ∙ ap (λ rows. tables (upd (peers_of rows).bound c.args.peer c.args.row.bound) (upd (peers_of rows).known_epoch c.args.peer c.args.row.epoch)) c.self.view_is
