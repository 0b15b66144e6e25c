use Rattle.std.proofs.Common.{List, None, sym, ◌∙◌, ap}
use Rattle.std.specs.List.{position}
use Rattle.std.specs.Str.{bytes_eq}
use Rattle.hla_machine.specs.declared.service.Service.TheVariants as service
use Rattle.hla_machine.specs.declared.step.Record.{Record}
use Rattle.hla_machine.specs.declared.step.Step.TheVariants.{Call}
use Rattle.hla_history.specs.Hosting.{HostedValue, host_of, table_of}
use Rattle.hla_history.specs.Tags.{tags_among}
use Rattle.hla_shared.proofs.Executions.Places.{no_place, found_there, table_with, tags_step, tags_unresigned, tag_there, record_foreseen, ends_foreseen, ends_nowhere, hosts_there, hosts_nowhere, heard_there}
use Rattle.hla_shared.proofs.joining.resign_among.Goals as goal

pub resign-requires : goal.resign-requires
resign-requires g c =
    c.requires c.args.execution (host_of c.index_mut.result.now)
    (found_there c.args.executions.now.items c.args.execution c.in-Some.place c.index_mut.result.now
    (ap (λ (hs : List HostedValue). position (λ (h : HostedValue). bytes_eq c.args.execution h.name) hs) (sym c.as_slice.ensures.value) ∙ sym c.place_of.ensures ∙ c.in-Some.is) c.index_mut.ensures.value).0

pub returns-in_ok-record-in-None-clause-ends : goal.returns-in_ok-record-in-None-clause-ends
returns-in_ok-record-in-None-clause-ends g c =
    ends_nowhere (table_of c.args.executions.now.items c.args.execution) (Call c.args.federate (service.Resign c.args.action)) _ _
    (no_place c.args.executions.now.items c.args.execution (ap (λ (hs : List HostedValue). position (λ (h : HostedValue). bytes_eq c.args.execution h.name) hs) (sym c.as_slice.ensures.value) ∙ sym c.place_of.ensures ∙ c.in-None.is))
    (ap (λ (r : Record). r.outcome) c.in_ok-record-in-None.ensures.record) (ap (λ (r : Record). r.choice) c.in_ok-record-in-None.ensures.record)

pub returns-in_ok-record-in-None-clause-hosts : goal.returns-in_ok-record-in-None-clause-hosts
returns-in_ok-record-in-None-clause-hosts g c =
    hosts_nowhere (table_of c.args.executions.now.items) c.args.execution (Call c.args.federate (service.Resign c.args.action)) _
    (no_place c.args.executions.now.items c.args.execution (ap (λ (hs : List HostedValue). position (λ (h : HostedValue). bytes_eq c.args.execution h.name) hs) (sym c.as_slice.ensures.value) ∙ sym c.place_of.ensures ∙ c.in-None.is))

pub returns-in_ok-done-in-Some-clause-record : goal.returns-in_ok-done-in-Some-clause-record
returns-in_ok-done-in-Some-clause-record g c =
    let there = found_there c.args.executions.now.items c.args.execution c.in-Some.place c.index_mut.result.now
    (ap (λ (hs : List HostedValue). position (λ (h : HostedValue). bytes_eq c.args.execution h.name) hs) (sym c.as_slice.ensures.value) ∙ sym c.place_of.ensures ∙ c.in-Some.is) c.index_mut.ensures.value in
    record_foreseen _ _ _ _ _ _ _ c.in_ok-done-in-Some.ensures.record there.1

pub returns-in_ok-done-in-Some-clause-ends : goal.returns-in_ok-done-in-Some-clause-ends
returns-in_ok-done-in-Some-clause-ends g c =
    let there = found_there c.args.executions.now.items c.args.execution c.in-Some.place c.index_mut.result.now
    (ap (λ (hs : List HostedValue). position (λ (h : HostedValue). bytes_eq c.args.execution h.name) hs) (sym c.as_slice.ensures.value) ∙ sym c.place_of.ensures ∙ c.in-Some.is) c.index_mut.ensures.value in
    ends_foreseen _ (host_of c.index_mut.result.now) (Call c.args.federate (service.Resign c.args.action)) _ _ there.0
    (ap (λ (r : Record). r.outcome) c.in_ok-done-in-Some.ensures.record) (ap (λ (r : Record). r.choice) c.in_ok-done-in-Some.ensures.record)

pub returns-in_ok-done-in-Some-clause-heard : goal.returns-in_ok-done-in-Some-clause-heard
returns-in_ok-done-in-Some-clause-heard g c =
    let there = found_there c.args.executions.now.items c.args.execution c.in-Some.place c.index_mut.result.now
    (ap (λ (hs : List HostedValue). position (λ (h : HostedValue). bytes_eq c.args.execution h.name) hs) (sym c.as_slice.ensures.value) ∙ sym c.place_of.ensures ∙ c.in-Some.is) c.index_mut.ensures.value in
    heard_there _ (host_of c.index_mut.result.now) c.args.federate g.B.FederateAmbassador.heard c.in_ok-done-in-Some.done.2 there.0 c.in_ok-done-in-Some.ensures.heard

pub returns-in_ok-done-in-Some-clause-hosts : goal.returns-in_ok-done-in-Some-clause-hosts
returns-in_ok-done-in-Some-clause-hosts g c =
    let at = ap (λ (hs : List HostedValue). position (λ (h : HostedValue). bytes_eq c.args.execution h.name) hs) (sym c.as_slice.ensures.value) ∙ sym c.place_of.ensures ∙ c.in-Some.is in
    let there = found_there c.args.executions.now.items c.args.execution c.in-Some.place c.index_mut.result.now at c.index_mut.ensures.value in
    hosts_there (table_of c.args.executions.now.items) _ c.args.execution (host_of c.index_mut.result.now) (host_of c.resign.new.self) (Call c.args.federate (service.Resign c.args.action)) _
    (table_with c.args.executions.now.items c.args.execution c.in-Some.place c.index_mut.result.now at c.index_mut.ensures.value c.resign.new.self (c.resign.ensures.name ∙ there.1))
    there.0 c.in_ok-done-in-Some.ensures.host

pub returns-in_ok-record-in-None-clause-tags : goal.returns-in_ok-record-in-None-clause-tags
returns-in_ok-record-in-None-clause-tags g c =
    tags_unresigned (tags_among c.args.executions.now.items) c.args.execution c.args.federate c.args.action _ _ _ (ap (λ (r : Record). r.outcome) c.in_ok-record-in-None.ensures.record)

pub returns-in_ok-done-in-Some-clause-tag : goal.returns-in_ok-done-in-Some-clause-tag
returns-in_ok-done-in-Some-clause-tag g c =
    let at = ap (λ (hs : List HostedValue). position (λ (h : HostedValue). bytes_eq c.args.execution h.name) hs) (sym c.as_slice.ensures.value) ∙ sym c.place_of.ensures ∙ c.in-Some.is in
    tag_there c.args.executions.now.items c.args.execution c.in-Some.place c.index_mut.result.now at c.index_mut.ensures.value
    c.args.federate g.B.FederateAmbassador.tag c.in_ok-done-in-Some.done.2 c.in_ok-done-in-Some.ensures.tag

pub returns-in_ok-done-in-Some-clause-tags : goal.returns-in_ok-done-in-Some-clause-tags
returns-in_ok-done-in-Some-clause-tags g c =
    let at = ap (λ (hs : List HostedValue). position (λ (h : HostedValue). bytes_eq c.args.execution h.name) hs) (sym c.as_slice.ensures.value) ∙ sym c.place_of.ensures ∙ c.in-Some.is in
    let there = found_there c.args.executions.now.items c.args.execution c.in-Some.place c.index_mut.result.now at c.index_mut.ensures.value in
    tags_step c.args.executions.now.items c.args.execution c.in-Some.place c.index_mut.result.now at c.index_mut.ensures.value c.resign.new.self (Call c.args.federate (service.Resign c.args.action)) _
    None (c.resign.ensures.name ∙ there.1) c.in_ok-done-in-Some.ensures.tags
