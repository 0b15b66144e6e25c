-- What the index has below the time is among the events, and so is what the tail has there.
use Rattle.std.proofs.Common.{◌∙◌, ap, sym, drop}
use Rattle.std.specs.List.{list_all}
use Rattle.hla_accounts.specs.declared.account.Account.{Account}
use Rattle.hla_accounts.specs.Ticks.{is_among_if_below}
use Rattle.hla_bags.proofs.Indexes.Indexing.{rest_decides, head_decides}
use Rattle.hla_accounts.proofs.Tests.Stamps.{none_among_below}
use Rattle.hla_accounts.proofs.accounts.Accounts.are_all_among.Goals as goal

pub returns-then-has_no_ordered_below : goal.returns-then-has_no_ordered_below
returns-then-has_no_ordered_below c =
    let ws = c.in-Some.account.now.bag in
    let x = c.indexing-indexing.result.now in
    let rest = c.if-has_no_ordered_below.true ∙ sym (none_among_below c.args.self.now c.args.time c.args.events.now (drop x.count ws) (c.has_no_ordered_below.ensures (drop x.count ws) c.indexing-indexing.ensures.tail c.if-has_no_ordered_below.true)) in
    rest_decides (is_among_if_below c.args.self.now c.args.time c.args.events.now) ws x.count c.are_indexed_among.result c.has_no_ordered_below.result (c.are_indexed_among.ensures ws c.indexing-indexing.ensures) c.if-are_indexed_among.true rest
    ∙ ap (λ (a : Account). list_all (is_among_if_below c.args.self.now c.args.time c.args.events.now) a.bag) (sym c.in-Some.ensures)

pub returns-else-has_no_ordered_below : goal.returns-else-has_no_ordered_below
returns-else-has_no_ordered_below c =
    let ws = c.in-Some.account.now.bag in
    let x = c.indexing-indexing.result.now in
    let rest = c.are_listed_among.ensures ∙ ap (list_all (is_among_if_below c.args.self.now c.args.time c.args.events.now)) (c.tail-tail.ensures ∙ ap (drop x.count) c.as_slice.ensures.all) in
    rest_decides (is_among_if_below c.args.self.now c.args.time c.args.events.now) ws x.count c.are_indexed_among.result c.are_listed_among.result (c.are_indexed_among.ensures ws c.indexing-indexing.ensures) c.if-are_indexed_among.true rest
    ∙ ap (λ (a : Account). list_all (is_among_if_below c.args.self.now c.args.time c.args.events.now) a.bag) (sym c.in-Some.ensures)

pub returns-else-are_indexed_among : goal.returns-else-are_indexed_among
returns-else-are_indexed_among c =
    let ws = c.in-Some.account.now.bag in
    let x = c.indexing-indexing.result.now in
    head_decides (is_among_if_below c.args.self.now c.args.time c.args.events.now) ws x.count c.are_indexed_among.result (c.are_indexed_among.ensures ws c.indexing-indexing.ensures) c.if-are_indexed_among.false
    ∙ ap (λ (a : Account). list_all (is_among_if_below c.args.self.now c.args.time c.args.events.now) a.bag) (sym c.in-Some.ensures)
