use Rattle.std.proofs.Common.{◌≡◌, take}
use Rattle.hla_machine.specs.Directory.{values_of_order}
use Rattle.hla_federation.specs.Steps.State.{state_of}
use Rattle.hla_federation.proofs.parts.Parts.picked_of_order.Given as goal

-- those of the order among the values so far
abbrev pub invariant-loop-value : goal.invariant-loop-value
invariant-loop-value l = l.part ≡ values_of_order (state_of l.self).directory l.object l.order (take l.value-index l.values)
