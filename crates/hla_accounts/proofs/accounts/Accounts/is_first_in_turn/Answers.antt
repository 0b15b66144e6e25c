-- What the index has is behind the event, and so is the tail.
use Rattle.std.proofs.Common.{◌∙◌, ap, sym, drop}
use Rattle.std.specs.List.{list_all}
use Rattle.hla_accounts.specs.declared.account.Account.{Account}
use Rattle.hla_accounts.specs.Ticks.{is_behind}
use Rattle.hla_bags.proofs.Indexes.Indexing.{rest_decides, head_decides}
use Rattle.hla_accounts.proofs.accounts.Accounts.is_first_in_turn.Goals as goal

pub returns-then-is_first_indexed_in_turn : goal.returns-then-is_first_indexed_in_turn
returns-then-is_first_indexed_in_turn c =
    let ws = c.in-Some.account.now.bag in
    let x = c.indexing-indexing.result.now in
    let test = is_behind c.args.self.now c.args.event.sender c.args.event.serial c.args.stamp in
    let rest = c.are_behind.ensures ∙ ap (list_all test) (c.tail-tail.ensures ∙ ap (drop x.count) c.as_slice.ensures.all) in
    rest_decides test ws x.count c.is_first_indexed_in_turn.result c.are_behind.result (c.is_first_indexed_in_turn.ensures ws c.indexing-indexing.ensures) c.if-is_first_indexed_in_turn.true rest ∙ ap (λ (a : Account). list_all test a.bag) (sym c.in-Some.ensures)

pub returns-else-is_first_indexed_in_turn : goal.returns-else-is_first_indexed_in_turn
returns-else-is_first_indexed_in_turn c =
    let ws = c.in-Some.account.now.bag in
    let x = c.indexing-indexing.result.now in
    let test = is_behind c.args.self.now c.args.event.sender c.args.event.serial c.args.stamp in
    head_decides test ws x.count c.is_first_indexed_in_turn.result (c.is_first_indexed_in_turn.ensures ws c.indexing-indexing.ensures) c.if-is_first_indexed_in_turn.false ∙ ap (λ (a : Account). list_all test a.bag) (sym c.in-Some.ensures)
