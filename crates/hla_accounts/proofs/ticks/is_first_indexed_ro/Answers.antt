-- There is no key before that of the event.
use Rattle.std.proofs.Common.{◌∙◌, ap, sym, take, false}
use Rattle.std.specs.List.{list_all}
use Rattle.hla_accounts.specs.Ticks.{is_not_earlier}
use Rattle.hla_accounts.proofs.Tests.Queries.{received_keys, none_taken}
use Rattle.hla_bags.proofs.Indexes.Indexing.{apart_take, head_of, none_indexed}
use Rattle.hla_accounts.proofs.ticks.is_first_indexed_ro.Goals as goal

pub returns-in-Some : goal.returns-in-Some
returns-in-Some c ws kept =
    let x = c.args.indexing.now in
    none_taken c.received_before.result c.next.new.self c.next.result c.is_none.result c.next.ensures.steps c.is_none.ensures
    ∙ ap (list_all (λ _. false)) c.received_before.ensures.keys
    ∙ sym (received_keys c.args.event.sender c.args.event.serial c.in-Some.index (take x.count ws) (head_of ws x c.in-Some.index kept c.in-Some.is) (apart_take ws x.count kept.apart))

pub returns-in-None : goal.returns-in-None
returns-in-None c ws kept = none_indexed (is_not_earlier c.args.event.sender c.args.event.serial) ws c.args.indexing.now kept c.in-None.is
