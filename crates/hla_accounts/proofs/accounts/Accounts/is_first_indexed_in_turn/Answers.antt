-- The keys before that of the event are all passed over.
use Rattle.std.proofs.Common.{◌∙◌, sym, take, rules, tests}
use Rattle.std.specs.Map.Iter.{deref}
use Rattle.std.proofs.lemmas.Iterator.Consumers.{YieldsList-from_rest}
use Rattle.std.proofs.lemmas.Iterator.Search.{all_from_yields_List}
use Rattle.hla_accounts.specs.Ticks.{is_behind}
use Rattle.hla_accounts.proofs.Tests.Queries.{is_passed_over, keys_in_turn}
use Rattle.hla_bags.proofs.Indexes.Indexing.{apart_take, head_of, none_indexed}
use Rattle.hla_accounts.proofs.accounts.Accounts.is_first_indexed_in_turn.Goals as goal

pub returns-in-Some : goal.returns-in-Some
returns-in-Some c ws kept =
    let x = c.args.indexing.now in
    let e = c.args.event in
    let counted = all_from_yields_List (is_passed_over c.args.self.now e.sender) _ _ c.all.result c.all.ensures.ran (YieldsList-from_rest {shows = deref} _ c.ordered_before.ensures.keys) (λ x b q k. search (rules, tests)) in
    counted ∙ sym (keys_in_turn c.args.self.now e.sender e.serial c.args.stamp c.in-Some.index (take x.count ws) (head_of ws x c.in-Some.index kept c.in-Some.is) (apart_take ws x.count kept.apart))

pub returns-in-None : goal.returns-in-None
returns-in-None c ws kept = none_indexed (is_behind c.args.self.now c.args.event.sender c.args.event.serial c.args.stamp) ws c.args.indexing.now kept c.in-None.is
