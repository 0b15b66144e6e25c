-- The message is taken out at its place.
use Rattle.std.proofs.Common.{List, None, ap, ◌∙◌}
use Rattle.hla_base.specs.Tables.{upd2}
use Rattle.hla_bags.specs.declared.bag.Waiting.{Waiting}
use Rattle.hla_bags.specs.Bags.{waiting_at}
use Rattle.hla_bags.proofs.Bags.Places.{removed_there, found_none, unwritten}
use Rattle.hla_bags.proofs.bag.Bag.remove_from_many.Goals as goal

pub returns-clause-table : goal.returns-clause-table
returns-clause-table c =
    let ws = c.self.inside.waiting in
    let g = c.args.event.sender in
    let m = c.args.event.serial in
    let now = removed_there ws g m c.in-Some.place c.self.invariant.apart c.in-Some.ensures c.settle.new.self (c.settle.ensures ∙ c.remove-2.ensures) in
    now.table ∙ ap (λ (vs : List Waiting). upd2 (waiting_at vs) g m None) c.self.view_is

pub returns-in_default-clause-table : goal.returns-in_default-clause-table
returns-in_default-clause-table c =
    let ws = c.self.inside.waiting in
    let g = c.args.event.sender in
    let m = c.args.event.serial in
    unwritten (waiting_at ws) g m (found_none ws g m c.in_default.ensures) ∙ ap (λ (vs : List Waiting). upd2 (waiting_at vs) g m None) c.self.view_is
