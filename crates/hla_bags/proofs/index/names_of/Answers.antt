-- One name after another comes in.
use Rattle.std.proofs.Common.{◌+◌, get_or, take}
use Rattle.std.proofs.lemmas.List.{take_more}
use Rattle.hla_base.specs.declared.number.EventHandle.{EventHandle}
use Rattle.hla_bags.proofs.Indexes.Upkeep.{no_names, names_added}
use Rattle.hla_bags.proofs.index.names_of.Goals as goal

pub loop-event-init : goal.loop-event-init
loop-event-init c = no_names c.new-names.result c.new-names.ensures.empty

pub loop-event-preserved : goal.loop-event-preserved
loop-event-preserved c =
    let events = c.args.events.now in
    let i = c.loop-event.event-index in
    let none : EventHandle = record { sender = 0; serial = 0 } in
    let now = c.in-Ok.ensures in
    names_added c.loop-event.names c.insert.new.self (take i events) (take (i + 1) events) (get_or events i none) c.of.result c.loop-event.invariant c.of.ensures now.updates (take_more events i none c.loop-event-test.true)
