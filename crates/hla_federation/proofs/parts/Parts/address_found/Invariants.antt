use Rattle.std.proofs.Common.{◌≡◌, ℕ, List, Some, [], ◌++◌, map, eqb}
use Rattle.std.specs.List.{filter_map}
use Rattle.hla_base.specs.Tables.{numbers_below, when}
use Rattle.hla_null_message.specs.declared.message.Message.TheVariants as message
use Rattle.hla_machine.specs.Directory.{discovery_of, with_subscribed}
use Rattle.hla_machine.specs.Registered.{registry_of}
use Rattle.hla_execution.specs.MemberValue.{item}
use Rattle.hla_federation.specs.Steps.State.{state_of}
use Rattle.hla_federation.proofs.parts.Parts.address_found.Given as goal

-- the discoveries of the objects so far are there
abbrev pub invariant-loop-object : goal.invariant-loop-object
invariant-loop-object l = (a : List ℕ) (g : ℕ) → item [] l.outbox g ≡ item [] l.initial.outbox g
    ++ map message.Discovery (filter_map (λ h. when (eqb ((registry_of l.self.objects).object h).owner g) (discovery_of (with_subscribed (state_of l.self).directory l.federate l.class (Some a)) l.federate h)) (numbers_below l.object))
