use Rattle.std.proofs.Common.{◌≡◌, ◌≤◌, length, take, vec_len, vec_capacity}
use Rattle.hla_federation.specs.Steps.Soundness.{AreSteps}
use Rattle.hla_federation.specs.Steps.State.{state_of}
use Rattle.hla_federation.proofs.federation.Federation.run.Given as goal

-- the steps so far, and room for the answers of the others
abbrev pub invariant-loop-step : goal.invariant-loop-step
invariant-loop-step l = record {
  steps : AreSteps (state_of l.initial.self) (take l.step-index l.steps) l.answers.items (state_of l.self);
  room : length l.steps ≤ vec_capacity l.answers;
  count : vec_len l.answers ≡ l.step-index;
}
