use Rattle.std.proofs.Common.{ℕ, List, sym, ap, ◌∙◌}
use Rattle.hla_machine.specs.declared.step.Step.{Step}
use Rattle.hla_machine.specs.declared.step.Step.TheVariants as step
use Rattle.hla_machine.specs.Refusals.{refusal}
use Rattle.hla_components.specs.Next.{components_seen}
use Rattle.hla_federation.specs.Steps.State.{state_of}
use Rattle.hla_federation.proofs.parts.Parts.step_fault.Goals as goal

pub returns-in-Join : goal.returns-in-Join
returns-in-Join c =
    let s = components_seen (state_of c.args.self.now) in
    c.join_fault.ensures ∙ ap (λ (name : List ℕ). refusal s (step.Join name)) c.as_slice.ensures ∙ ap (λ (x : Step). refusal s x) (sym c.in-Join.is)
