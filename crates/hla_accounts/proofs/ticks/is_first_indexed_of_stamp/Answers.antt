-- There is no key with this stamp and sender before that of the event.
use Rattle.std.proofs.Common.{◌∙◌, ap, sym, take, false}
use Rattle.std.specs.List.{list_all}
use Rattle.hla_accounts.specs.Ticks.{is_not_earlier_of_stamp}
use Rattle.hla_accounts.proofs.Tests.Queries.{stamped_keys, none_taken}
use Rattle.hla_bags.proofs.Indexes.Indexing.{apart_take, head_of, none_indexed}
use Rattle.hla_accounts.proofs.ticks.is_first_indexed_of_stamp.Goals as goal

pub returns-in-Some : goal.returns-in-Some
returns-in-Some c ws kept =
    let x = c.args.indexing.now in
    none_taken c.stamped_before.result c.next.new.self c.next.result c.is_none.result c.next.ensures.steps c.is_none.ensures
    ∙ ap (list_all (λ _. false)) c.stamped_before.ensures.keys
    ∙ sym (stamped_keys c.args.event.sender c.args.event.serial c.args.stamp c.in-Some.index (take x.count ws) (head_of ws x c.in-Some.index kept c.in-Some.is) (apart_take ws x.count kept.apart))

pub returns-in-None : goal.returns-in-None
returns-in-None c ws kept = none_indexed (is_not_earlier_of_stamp c.args.event.sender c.args.event.serial c.args.stamp) ws c.args.indexing.now kept c.in-None.is
