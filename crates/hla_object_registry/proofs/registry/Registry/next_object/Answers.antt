use Rattle.std.proofs.Common.{length, ap, sym, subst, ◌∙◌, ◌+◌}
use Rattle.hla_machine.specs.Registered.{registry_of}
use Rattle.hla_object_registry.specs.Entries.{AreOwned}
use Rattle.hla_object_registry.proofs.EntryLemmas.{length-registered}
use Rattle.hla_object_registry.proofs.registry.Registry.next_object.Goals as goal

pub returns-clause-next : goal.returns-clause-next
returns-clause-next c = ap (λ n. n + 1) (c.len.ensures.len ∙ sym (length-registered c.self.inside.entries.entries) ∙ ap length c.self.view_is)

pub returns-clause-owned : goal.returns-clause-owned
returns-clause-owned c = subst (λ rs. AreOwned (registry_of rs)) c.self.view_is c.self.invariant.owned
