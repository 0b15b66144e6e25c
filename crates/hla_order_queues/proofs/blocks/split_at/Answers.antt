-- An empty block comes behind the one that is split, and then the greater half is in its place.
use Rattle.std.proofs.Common.{◌≡◌, ap, subst, sym, ◌∙◌}
use Rattle.std.specs.BTreeMap.{insert_entry}
use Rattle.hla_order_queues.specs.Kept.{key_cmp, events_of, without_block, AreBelowBlocks, AreBlocks}
use Rattle.hla_order_queues.proofs.UnderSeparators.SplitLemmas.{IsMiddle, IsSplit, middle_known, new_middle, still_many, closed, split_done}
use Rattle.hla_order_queues.proofs.blocks.split_at.Goals as goal
use Rattle.hla_order_queues.proofs.blocks.split_at.Goals.{In-Some, After-replace, After-remove}

middle : (c : In-Some) → IsMiddle c.args.separator c.in-Some.middle c.args.separators.now c.requires.at
middle c = middle_known c.args.separator c.in-Some.middle c.args.separators.now c.requires.at c.requires.blocks c.requires.unique c.requires.many c.in-Some.ensures

pub insert-requires : goal.insert-requires
insert-requires c = new_middle c.args.separator c.in-Some.middle c.args.separators.now c.requires.at (middle (goal.at.insert-requires c).In-Some)

pub halve-requires : goal.halve-requires
halve-requires c =
    still_many c.args.separator c.in-Some.middle c.args.separators.now c.insert.new.self c.requires.at (middle (goal.at.halve-requires c).In-Some) (c.if-not-insert.ensures.put ∙ ap (insert_entry key_cmp c.args.separators.now c.in-Some.middle) c.new.ensures) c.requires.many

split : (c : After-replace) → IsMiddle c.args.separator c.in-Some.middle c.args.separators.now c.requires.at → IsSplit c.args.separators.now c.replace.new.self
split c m =
    split_done c.args.separator c.in-Some.middle c.args.separators.now c.insert.new.self c.halve.new.self c.replace.new.self c.in-Some-halve.greater c.requires.at m c.requires.blocks (c.if-not-insert.ensures.put ∙ ap (insert_entry key_cmp c.args.separators.now c.in-Some.middle) c.new.ensures) c.in-Some-halve.ensures c.replace.ensures

pub returns-in-Some-halve-clause-same : goal.returns-in-Some-halve-clause-same
returns-in-Some-halve-clause-same c = let at = goal.at.returns-in-Some-halve-clause-same c in (split at.After-replace (middle at.In-Some)).same

pub returns-in-Some-halve-clause-blocks : goal.returns-in-Some-halve-clause-blocks
returns-in-Some-halve-clause-blocks c = let at = goal.at.returns-in-Some-halve-clause-blocks c in (split at.After-replace (middle at.In-Some)).blocks

pub returns-in-Some-halve-clause-below : goal.returns-in-Some-halve-clause-below
returns-in-Some-halve-clause-below c = let at = goal.at.returns-in-Some-halve-clause-below c in (split at.After-replace (middle at.In-Some)).below

left : (c : After-remove) → IsMiddle c.args.separator c.in-Some.middle c.args.separators.now c.requires.at → c.remove.new.self ≡ c.args.separators.now
left c m =
    closed c.args.separator c.in-Some.middle c.args.separators.now c.insert.new.self c.remove.new.self c.requires.at m (c.if-not-insert.ensures.put ∙ ap (insert_entry key_cmp c.args.separators.now c.in-Some.middle) c.new.ensures) (c.remove.ensures.rest ∙ ap (without_block c.in-Some.middle) c.in-None.ensures)

pub returns-in-None-clause-same : goal.returns-in-None-clause-same
returns-in-None-clause-same c = let at = goal.at.returns-in-None-clause-same c in ap events_of (left at.After-remove (middle at.In-Some))

pub returns-in-None-clause-blocks : goal.returns-in-None-clause-blocks
returns-in-None-clause-blocks c = let at = goal.at.returns-in-None-clause-blocks c in subst AreBlocks (sym (left at.After-remove (middle at.In-Some))) c.requires.blocks

pub returns-in-None-clause-below : goal.returns-in-None-clause-below
returns-in-None-clause-below c = let at = goal.at.returns-in-None-clause-below c in λ xs q. subst (AreBelowBlocks xs) (sym (left at.After-remove (middle at.In-Some))) q
