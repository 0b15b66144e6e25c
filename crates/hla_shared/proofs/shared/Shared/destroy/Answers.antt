use Rattle.std.proofs.Common.{arith}
use Rattle.hla_history.specs.Hosting.{hosts_of}
use Rattle.hla_shared.proofs.Executions.Creations.{kept_destroy}
use Rattle.hla_shared.proofs.shared.Shared.destroy.Goals as goal

pub invariant_of-self-2 : goal.invariant_of-self-2
invariant_of-self-2 g c = (
  kept_destroy c.self.inside.history.items c.push_reserved.new.self.items
      (hosts_of c.self.inside.counts.creates c.self.inside.counts.present c.self.inside.executions.items)
      (hosts_of c.destroy_among.new.counts.creates c.destroy_among.new.counts.present c.destroy_among.new.executions.items)
      c.self.inside.book.total c.add.new.self.total c.args.actor c.args.name c.in_ok-record.record
      c.self.invariant.0 c.in_ok-record.ensures.record c.in_ok-record.ensures.ends c.in_ok-record.ensures.hosts c.push_reserved.ensures.items c.add.ensures.total,
  omega (arith, c.push_reserved.ensures.len, c.len.ensures, c.if-len-self.false, c.self.invariant.1),
  omega (arith, c.push_reserved.ensures.capacity, c.self.invariant.2),
)
