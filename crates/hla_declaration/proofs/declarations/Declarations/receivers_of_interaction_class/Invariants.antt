use Rattle.std.proofs.Common.{◌≡◌}
use Rattle.hla_declaration.specs.Declarations.{declarations_of}
use Rattle.hla_declaration.specs.Receivers.{interaction_class_served, receivers_of}
use Rattle.hla_declaration.proofs.declarations.Declarations.receivers_of_interaction_class.Given as goal

-- the receivers among the federates so far
abbrev pub invariant-loop-place : goal.invariant-loop-place
invariant-loop-place l = l.receivers ≡ receivers_of (λ g. interaction_class_served l.catalogue (declarations_of l.self).subscribed_interaction g l.class) l.place l.sender
