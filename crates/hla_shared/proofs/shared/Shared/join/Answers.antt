use Rattle.std.proofs.Common.{Some, ◌∙◌, ap, arith}
use Rattle.hla_machine.specs.declared.step.Step.TheVariants.{Join}
use Rattle.hla_history.specs.Hosting.{HeldValue, hosts_of, table_of}
use Rattle.hla_shared.proofs.Steps.FormLaws.{ends_in_form}
use Rattle.hla_history.specs.Tags.{tags_among, tags_held, tags_after}
use Rattle.hla_shared.proofs.Executions.Places.{tags_recorded}
use Rattle.hla_shared.proofs.Records.Kept.{kept_step}
use Rattle.hla_shared.proofs.shared.Shared.join.Goals as goal

pub invariant_of-self : goal.invariant_of-self
invariant_of-self g c = (
  kept_step c.self.inside.history.items c.push_reserved.new.self.items
      (hosts_of c.self.inside.counts.creates c.self.inside.counts.present c.self.inside.executions.items) (table_of c.join_among.new.executions.items)
      c.self.inside.book.total c.add.new.self.total c.args.actor c.args.execution (Join c.args.name) c.in-Ok.joined.0
      c.self.invariant.0 c.in-Ok.ensures.record c.in-Ok.ensures.ends c.in-Ok.ensures.hosts c.push_reserved.ensures.items c.add.ensures.total,
  omega (arith, c.push_reserved.ensures.len, c.len.ensures, c.if-len-self.false, c.self.invariant.1),
  omega (arith, c.push_reserved.ensures.capacity, c.self.invariant.2),
)

pub returns-in-Ok-clause-form : goal.returns-in-Ok-clause-form
returns-in-Ok-clause-form g c =
    ends_in_form (table_of c.self.inside.executions.items c.args.execution) (Join c.args.name) c.in-Ok.joined.0.outcome c.in-Ok.joined.1.answer c.in-Ok.joined.0.choice c.in-Ok.ensures.ends c.in-Ok.ensures.answer

pub returns-in-Ok-clause-tags : goal.returns-in-Ok-clause-tags
returns-in-Ok-clause-tags g c =
    tags_recorded (tags_among c.self.inside.executions.items) (tags_among c.join_among.new.executions.items) c.in-Ok.joined.0 c.in-Ok.joined.1.own _ _ _ _ _
    c.in-Ok.ensures.tags c.in-Ok.ensures.record c.in-Ok.ensures.own
    ∙ ap (λ (v : HeldValue). tags_after (tags_held v) c.in-Ok.joined.1.own (Some (g.B.FederateAmbassador.tag c.args.inner))) c.self.view_is
