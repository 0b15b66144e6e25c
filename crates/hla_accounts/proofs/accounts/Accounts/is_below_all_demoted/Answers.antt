-- What the index has is not below the time, nor is the tail.
use Rattle.std.proofs.Common.{◌∙◌, ap, sym, drop}
use Rattle.std.specs.List.{list_all}
use Rattle.hla_accounts.specs.declared.account.Account.{Account}
use Rattle.hla_accounts.specs.Calls.{is_at_most_demoted}
use Rattle.hla_bags.proofs.Indexes.Indexing.{rest_decides, head_decides}
use Rattle.hla_accounts.proofs.Tests.Stamps.{none_demoted_below}
use Rattle.hla_accounts.proofs.accounts.Accounts.is_below_all_demoted.Goals as goal

pub returns-then-has_no_demoted_below : goal.returns-then-has_no_demoted_below
returns-then-has_no_demoted_below c =
    let ws = c.in-Some.account.now.bag in
    let x = c.indexing-indexing.result.now in
    let rest = c.if-has_no_demoted_below.true ∙ sym (none_demoted_below c.args.self.now c.args.time (drop x.count ws) (c.has_no_demoted_below.ensures (drop x.count ws) c.indexing-indexing.ensures.tail c.if-has_no_demoted_below.true)) in
    rest_decides (is_at_most_demoted c.args.self.now c.args.time) ws x.count c.is_below_indexed_demoted.result c.has_no_demoted_below.result (c.is_below_indexed_demoted.ensures ws c.indexing-indexing.ensures) c.if-is_below_indexed_demoted.true rest
    ∙ ap (λ (a : Account). list_all (is_at_most_demoted c.args.self.now c.args.time) a.bag) (sym c.in-Some.ensures)

pub returns-else-has_no_demoted_below : goal.returns-else-has_no_demoted_below
returns-else-has_no_demoted_below c =
    let ws = c.in-Some.account.now.bag in
    let x = c.indexing-indexing.result.now in
    let rest = c.is_below_listed_demoted.ensures ∙ ap (list_all (is_at_most_demoted c.args.self.now c.args.time)) (c.tail-tail.ensures ∙ ap (drop x.count) c.as_slice.ensures.all) in
    rest_decides (is_at_most_demoted c.args.self.now c.args.time) ws x.count c.is_below_indexed_demoted.result c.is_below_listed_demoted.result (c.is_below_indexed_demoted.ensures ws c.indexing-indexing.ensures) c.if-is_below_indexed_demoted.true rest
    ∙ ap (λ (a : Account). list_all (is_at_most_demoted c.args.self.now c.args.time) a.bag) (sym c.in-Some.ensures)

pub returns-else-is_below_indexed_demoted : goal.returns-else-is_below_indexed_demoted
returns-else-is_below_indexed_demoted c =
    let ws = c.in-Some.account.now.bag in
    let x = c.indexing-indexing.result.now in
    head_decides (is_at_most_demoted c.args.self.now c.args.time) ws x.count c.is_below_indexed_demoted.result (c.is_below_indexed_demoted.ensures ws c.indexing-indexing.ensures) c.if-is_below_indexed_demoted.false
    ∙ ap (λ (a : Account). list_all (is_at_most_demoted c.args.self.now c.args.time) a.bag) (sym c.in-Some.ensures)
