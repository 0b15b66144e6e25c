use Rattle.std.proofs.Common.{◌≡◌, ℕ, ◌≤◌, take}
use Rattle.std.specs.List.{list_any}
use Rattle.hla_base.specs.Limits.{max_joins}
use Rattle.hla_declaration.specs.Subscribers.{has_federate, is_in_set_of}
use Rattle.hla_declaration.proofs.subscribers.SubscriberSets.subscribers_among.Given as goal

-- in the set is who subscribes any of the classes so far
abbrev pub invariant-loop-class : goal.invariant-loop-class
invariant-loop-class l =
    (f : ℕ) → f ≤ max_joins → has_federate l.subscribers f ≡ list_any (is_in_set_of l.self f) (take l.class-index l.classes)
