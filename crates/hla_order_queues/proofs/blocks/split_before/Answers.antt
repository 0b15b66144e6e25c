-- An empty block comes before the others, and then the greater half is in its place.
use Rattle.std.proofs.Common.{◌≡◌, ◌++◌, ap, subst, sym, ◌∙◌}
use Rattle.std.specs.BTreeMap.{insert_entry}
use Rattle.hla_order_queues.specs.Kept.{key_cmp, events_of, AreBelowBlocks, AreBlocks}
use Rattle.hla_order_queues.proofs.UnderSeparators.SplitLemmas.{IsBetween, between_known, new_first, closed_first, IsFrontSplit, front_done}
use Rattle.hla_order_queues.proofs.blocks.split_before.Goals as goal
use Rattle.hla_order_queues.proofs.blocks.split_before.Goals.{In-Some, After-replace, After-remove}

between : (c : In-Some) → IsBetween c.in-Some.middle c.args.first.now c.args.separators.now
between c = between_known c.in-Some.middle c.args.first.now c.args.separators.now c.requires.ordered c.requires.unique c.requires.below c.in-Some.ensures

pub insert-requires : goal.insert-requires
insert-requires c = new_first c.in-Some.middle c.args.first.now c.args.separators.now (between (goal.at.insert-requires c).In-Some)

split : (c : After-replace) → IsBetween c.in-Some.middle c.args.first.now c.args.separators.now → IsFrontSplit c.args.first.now c.split.new.self c.args.separators.now c.replace.new.self
split c m =
    front_done c.in-Some.middle c.args.first.now c.split.new.self c.in-Ok.greater c.args.separators.now c.insert.new.self c.replace.new.self m c.requires.blocks c.requires.below c.requires.ordered (c.if-not-insert.ensures.put ∙ ap (insert_entry key_cmp c.args.separators.now c.in-Some.middle) c.new.ensures) c.in-Ok.ensures.ok c.in-Ok.ensures.middle c.replace.ensures

pub returns-in-Ok-clause-same : goal.returns-in-Ok-clause-same
returns-in-Ok-clause-same c = let at = goal.at.returns-in-Ok-clause-same c in (split at.After-replace (between at.In-Some)).same

pub returns-in-Ok-clause-blocks : goal.returns-in-Ok-clause-blocks
returns-in-Ok-clause-blocks c = let at = goal.at.returns-in-Ok-clause-blocks c in (split at.After-replace (between at.In-Some)).blocks

pub returns-in-Ok-clause-below : goal.returns-in-Ok-clause-below
returns-in-Ok-clause-below c = let at = goal.at.returns-in-Ok-clause-below c in (split at.After-replace (between at.In-Some)).below

left : (c : After-remove) → IsBetween c.in-Some.middle c.args.first.now c.args.separators.now → c.remove.new.self ≡ c.args.separators.now
left c m =
    closed_first c.in-Some.middle c.args.separators.now c.insert.new.self c.remove.new.self c.args.first.now m (c.if-not-insert.ensures.put ∙ ap (insert_entry key_cmp c.args.separators.now c.in-Some.middle) c.new.ensures) c.remove.ensures.rest

pub returns-in-Err-clause-same : goal.returns-in-Err-clause-same
returns-in-Err-clause-same c =
    let at = goal.at.returns-in-Err-clause-same c in
    ap (λ zs. zs ++ events_of c.remove.new.self) c.in-Err.ensures.err ∙ ap (λ es. c.args.first.now ++ events_of es) (left at.After-remove (between at.In-Some))

pub returns-in-Err-clause-blocks : goal.returns-in-Err-clause-blocks
returns-in-Err-clause-blocks c = let at = goal.at.returns-in-Err-clause-blocks c in subst AreBlocks (sym (left at.After-remove (between at.In-Some))) c.requires.blocks

pub returns-in-Err-clause-below : goal.returns-in-Err-clause-below
returns-in-Err-clause-below c =
    let at = goal.at.returns-in-Err-clause-below c in
    subst (AreBelowBlocks c.split.new.self) (sym (left at.After-remove (between at.In-Some))) (subst (λ xs. AreBelowBlocks xs c.args.separators.now) (sym c.in-Err.ensures.err) c.requires.below)
