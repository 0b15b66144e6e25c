-- What the index has is no earlier message, nor is the tail.
use Rattle.std.proofs.Common.{◌∙◌, ap, sym, drop}
use Rattle.std.specs.List.{list_all}
use Rattle.hla_accounts.specs.declared.account.Account.{Account}
use Rattle.hla_accounts.specs.Ticks.{is_not_earlier}
use Rattle.hla_bags.proofs.Indexes.Indexing.{rest_decides, head_decides}
use Rattle.hla_accounts.proofs.accounts.Accounts.is_first_ro.Goals as goal

pub returns-then-is_first_indexed_ro : goal.returns-then-is_first_indexed_ro
returns-then-is_first_indexed_ro c =
    let ws = c.in-Some.account.now.bag in
    let x = c.indexing-indexing.result.now in
    let rest = c.are_not_earlier.ensures ∙ ap (list_all (is_not_earlier c.args.event.sender c.args.event.serial)) (c.tail-tail.ensures ∙ ap (drop x.count) c.as_slice.ensures.all) in
    rest_decides (is_not_earlier c.args.event.sender c.args.event.serial) ws x.count c.is_first_indexed_ro.result c.are_not_earlier.result (c.is_first_indexed_ro.ensures ws c.indexing-indexing.ensures) c.if-is_first_indexed_ro.true rest
    ∙ ap (λ (a : Account). list_all (is_not_earlier c.args.event.sender c.args.event.serial) a.bag) (sym c.in-Some.ensures)

pub returns-else-is_first_indexed_ro : goal.returns-else-is_first_indexed_ro
returns-else-is_first_indexed_ro c =
    let ws = c.in-Some.account.now.bag in
    let x = c.indexing-indexing.result.now in
    head_decides (is_not_earlier c.args.event.sender c.args.event.serial) ws x.count c.is_first_indexed_ro.result (c.is_first_indexed_ro.ensures ws c.indexing-indexing.ensures) c.if-is_first_indexed_ro.false
    ∙ ap (λ (a : Account). list_all (is_not_earlier c.args.event.sender c.args.event.serial) a.bag) (sym c.in-Some.ensures)
