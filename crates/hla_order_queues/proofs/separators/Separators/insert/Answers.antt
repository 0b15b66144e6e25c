-- The place is new, and so is the separator.
use Rattle.std.proofs.Common.{ap, sym, ◌∙◌}
use Rattle.std.specs.BTreeMap.{insert_entry}
use Rattle.hla_order_queues.specs.Kept.{key_cmp}
use Rattle.hla_order_queues.proofs.UnderSeparators.PlacesLemmas.{IsHeldWith, held_with}
use Rattle.hla_order_queues.proofs.separators.Separators.insert.Goals as goal
use Rattle.hla_order_queues.proofs.separators.Separators.insert.Goals.{After-insert_reserved}

inserted : (c : After-insert_reserved) → IsHeldWith c.insert_reserved.new.self c.insert.new.self.entries (insert_entry key_cmp c.args.self.now c.args.separator c.args.block)
inserted c =
    held_with c.self.inside.blocks c.reserve.new.self c.insert_reserved.new.self c.args.separator c.insert_reserved.result c.vacant_key-place.result c.args.block c.self.inside.places.entries c.insert.new.self.entries c.args.self.now c.self.invariant c.self.view_is (ap (λ s. s.slots) c.reserve.ensures.rest_kept) c.insert_reserved.ensures.was_vacant c.insert_reserved.ensures.updates (c.insert_reserved.ensures.key ∙ sym c.vacant_key-place.ensures.value) c.requires c.in-Ok-insert.ensures.entries

pub invariant_of-self-2 : goal.invariant_of-self-2
invariant_of-self-2 c = (inserted c).held

pub returns-clause-put : goal.returns-clause-put
returns-clause-put c = (inserted c).view
