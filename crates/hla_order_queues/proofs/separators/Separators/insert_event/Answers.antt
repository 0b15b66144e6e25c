-- The event goes into the block at the place of the separator.
use Rattle.std.proofs.Common.{◌≡◌, Some, None, ◌∙◌}
use Rattle.hla_order_queues.specs.Kept.{block_at}
use Rattle.hla_order_queues.proofs.UnderSeparators.PlacesLemmas.{there_is, none_there, now_is}
use Rattle.hla_order_queues.proofs.separators.Separators.insert_event.Goals as goal

pub returns-in_default-clause-put : goal.returns-in_default-clause-put
returns-in_default-clause-put c = rw (← none_there c.self.inside.blocks c.args.separator c.self.invariant c.self.view_is c.in_default.ensures.value) tt

pub returns-in_default-get_mut-clause-put : goal.returns-in_default-get_mut-clause-put
returns-in_default-get_mut-clause-put c =
    let none : None ≡ block_at c.args.separator c.args.self.now = c.in_default-get_mut.ensures.value ∙ there_is c.args.separator c.in-Some.place.now c.self.invariant c.self.view_is c.in-Some.ensures.value in
    rw (← none) tt

pub insert-requires : goal.insert-requires
insert-requires c =
    let there : Some c.in-Some-get_mut.block.now ≡ block_at c.args.separator c.args.self.now = c.in-Some-get_mut.ensures.value ∙ there_is c.args.separator c.in-Some.place.now c.self.invariant c.self.view_is c.in-Some.ensures.value in
    rw (← there) at c.requires

pub returns-clause-put : goal.returns-clause-put
returns-clause-put c =
    let there : Some c.in-Some-get_mut.block.now ≡ block_at c.args.separator c.args.self.now = c.in-Some-get_mut.ensures.value ∙ there_is c.args.separator c.in-Some.place.now c.self.invariant c.self.view_is c.in-Some.ensures.value in
    rw (← there) (record {
      block = c.insert.new.self;
      now = now_is c.args.separator c.in-Some.place.now c.insert.new.self c.self.invariant c.self.view_is c.in-Some.ensures.value;
      ok = c.insert.ensures.ok;
      refused = c.insert.ensures.unchanged;
    })
