use Rattle.std.proofs.Common.{None, ◌∙◌, ap, arith}
use Rattle.hla_machine.specs.declared.service.Service.TheVariants as service
use Rattle.hla_machine.specs.declared.step.Step.TheVariants.{Call}
use Rattle.hla_history.specs.Hosting.{HeldValue, hosts_of, table_of}
use Rattle.hla_history.specs.Tags.{tags_among, tags_held, tags_after}
use Rattle.hla_shared.proofs.Executions.Places.{tags_recorded}
use Rattle.hla_shared.proofs.Records.Kept.{kept_step}
use Rattle.hla_shared.proofs.shared.Shared.resign.Goals as goal

pub invariant_of-self-2 : goal.invariant_of-self-2
invariant_of-self-2 g c = (
  kept_step c.self.inside.history.items c.push_reserved.new.self.items
      (hosts_of c.self.inside.counts.creates c.self.inside.counts.present c.self.inside.executions.items) (table_of c.resign_among.new.executions.items)
      c.self.inside.book.total c.add.new.self.total c.args.actor c.args.execution (Call c.args.federate (service.Resign c.args.action)) c.in_ok-record.record
      c.self.invariant.0 c.in_ok-record.ensures.record c.in_ok-record.ensures.ends c.in_ok-record.ensures.hosts c.push_reserved.ensures.items c.add.ensures.total,
  omega (arith, c.push_reserved.ensures.len, c.len.ensures, c.if-len-self.false, c.self.invariant.1),
  omega (arith, c.push_reserved.ensures.capacity, c.self.invariant.2),
)

pub returns-clause-tags : goal.returns-clause-tags
returns-clause-tags g c =
    tags_recorded (tags_among c.self.inside.executions.items) (tags_among c.resign_among.new.executions.items) c.in_ok-record.record c.in_ok-record.stepped.own _ _ _ _ _
    c.in_ok-record.ensures.tags c.in_ok-record.ensures.record c.in_ok-record.ensures.own
    ∙ ap (λ (v : HeldValue). tags_after (tags_held v) c.in_ok-record.stepped.own None) c.self.view_is
