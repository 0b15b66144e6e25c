use Rattle.std.proofs.Common.{sym, ap, ◌∙◌}
use Rattle.hla_machine.specs.declared.step.Step.{Step}
use Rattle.hla_components.specs.Next.{next}
use Rattle.hla_federation.specs.Steps.State.{state_of}
use Rattle.hla_federation.proofs.Steps.Choosing.{no_join_choice, no_carry_choice, no_announce_choice}
use Rattle.hla_federation.proofs.parts.Parts.choice.Goals as goal

pub returns-in-Join-clause-ok : goal.returns-in-Join-clause-ok
returns-in-Join-clause-ok c = sym (ap (λ (x : Step). (next (state_of c.args.self.now) x).choice) c.in-Join.is ∙ no_join_choice (state_of c.args.self.now) c.in-Join.name)

pub returns-in-Carry-clause-ok : goal.returns-in-Carry-clause-ok
returns-in-Carry-clause-ok c = sym (ap (λ (x : Step). (next (state_of c.args.self.now) x).choice) c.in-Carry.is ∙ no_carry_choice (state_of c.args.self.now) c.in-Carry.from c.in-Carry.to)

pub returns-in-Announce-clause-ok : goal.returns-in-Announce-clause-ok
returns-in-Announce-clause-ok c = sym (ap (λ (x : Step). (next (state_of c.args.self.now) x).choice) c.in-Announce.is ∙ no_announce_choice (state_of c.args.self.now) c.in-Announce.federate)
