use Rattle.std.proofs.Common.{◌++◌, ◌∷◌, [], ◌∙◌, ap}
use Rattle.hla_machine.specs.declared.step.Record.{Record}
use Rattle.hla_shared.proofs.Steps.Foreseen.{foreseen_named}
use Rattle.hla_shared.proofs.writing.write_foreseen.Goals as goal

pub returns-in-Ok-foresee-clause-written : goal.returns-in-Ok-foresee-clause-written
returns-in-Ok-foresee-clause-written g c =
    c.push_reserved.ensures.items
    ∙ ap (λ (r : Record). c.args.history.now.items ++ r ∷ [])
    (foreseen_named (g.F.Execution.value c.args.federation.now) c.args.actor c.in-Ok.execution c.args.name.now c.args.step c.in-Ok-foresee.field-0.outcome c.in-Ok-foresee.field-0.choice
    c.in-Ok.ensures.ok c.in-Ok-foresee.ensures.outcome c.in-Ok-foresee.ensures.choice)
