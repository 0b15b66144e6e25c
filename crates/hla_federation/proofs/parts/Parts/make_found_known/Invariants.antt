use Rattle.std.proofs.Common.{◌≡◌, ℕ, List, Some, is_some}
use Rattle.hla_machine.specs.Directory.{discovery_of, with_subscribed}
use Rattle.hla_machine.specs.Registered.{registry_of}
use Rattle.hla_federation.specs.Steps.State.{state_of}
use Rattle.hla_federation.proofs.Steps.FoundObjects.{known_below}
use Rattle.hla_federation.proofs.parts.Parts.make_found_known.Given as goal

-- nothing but who knows what has changed, and of the objects so far it is right
abbrev pub invariant-loop-object : goal.invariant-loop-object
invariant-loop-object l = record {
  same : l.self ≡ record l.initial.self { objects = l.self.objects };
  known : (a : List ℕ) → registry_of l.self.objects ≡ record (registry_of l.initial.self.objects) {
    known = known_below (λ h. is_some (discovery_of (with_subscribed (state_of l.initial.self).directory l.federate l.class (Some a)) l.federate h)) (registry_of l.initial.self.objects).known l.federate l.object;
  };
}
