use Rattle.std.proofs.Common.{arith, refl}
use Rattle.hla_machine.specs.declared.step.Record.{Record}
use Rattle.hla_history.specs.Hosting.{hosts_of, table_of}
use Rattle.hla_history.specs.Writing.{step_record, chosen_in}
use Rattle.hla_shared.proofs.Steps.FormLaws.{ends_in_form}
use Rattle.hla_shared.proofs.Records.Kept.{kept_step}
use Rattle.hla_shared.proofs.shared.Shared.step_into.Goals as goal

pub invariant_of-self-2 : goal.invariant_of-self-2
invariant_of-self-2 g c =
    let made : Record = step_record c.args.actor c.args.execution.now c.args.step c.in_ok-answer.answer (chosen_in (table_of c.self.inside.executions.items c.args.execution.now) c.args.step) in (
      kept_step c.self.inside.history.items c.step_among_into.new.history.items
          (hosts_of c.self.inside.counts.creates c.self.inside.counts.present c.self.inside.executions.items) (table_of c.step_among_into.new.executions.items)
          c.self.inside.book.total c.add.new.self.total c.args.actor c.args.execution.now c.args.step made
          c.self.invariant.0 refl c.in_ok-answer.ensures.ends c.in_ok-answer.ensures.hosts c.in_ok-answer.ensures.written c.add.ensures.total,
      omega (arith, c.in_ok-answer.ensures.len, c.len.ensures, c.if-len-self.false, c.self.invariant.1),
      omega (arith, c.step_among_into.ensures.capacity, c.self.invariant.2),
    )

pub returns-clause-form : goal.returns-clause-form
returns-clause-form g c =
    ends_in_form (table_of c.self.inside.executions.items c.args.execution.now) c.args.step c.in_ok-answer.answer c.in_ok-answer.answer _ c.in_ok-answer.ensures.ends refl
