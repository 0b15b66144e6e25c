-- The keys below the time are all retracted.
use Rattle.std.proofs.Common.{◌∙◌, sym, take, rules, tests}
use Rattle.std.specs.Map.Iter.{deref}
use Rattle.std.proofs.lemmas.Iterator.Consumers.{YieldsList-from_rest}
use Rattle.std.proofs.lemmas.Iterator.Search.{all_from_yields_List}
use Rattle.hla_accounts.specs.Calls.{is_at_most_demoted}
use Rattle.hla_accounts.proofs.Tests.Queries.{is_key_retracted, demoted_keys}
use Rattle.hla_bags.proofs.Indexes.Indexing.{apart_take, head_of, none_indexed}
use Rattle.hla_accounts.proofs.accounts.Accounts.is_below_indexed_demoted.Goals as goal

pub returns-in-Some : goal.returns-in-Some
returns-in-Some c ws kept =
    let x = c.args.indexing.now in
    let counted = all_from_yields_List (is_key_retracted c.args.self.now) _ _ c.all.result c.all.ensures.ran (YieldsList-from_rest {shows = deref} _ c.demoted_below.ensures.keys) (λ x b q k. search (rules, tests)) in
    counted ∙ sym (demoted_keys c.args.self.now c.args.time c.in-Some.index (take x.count ws) (head_of ws x c.in-Some.index kept c.in-Some.is) (apart_take ws x.count kept.apart))

pub returns-in-None : goal.returns-in-None
returns-in-None c ws kept = none_indexed (is_at_most_demoted c.args.self.now c.args.time) ws c.args.indexing.now kept c.in-None.is
