use Rattle.std.proofs.Common.{List, Some, sym, ◌∙◌, ap}
use Rattle.std.specs.List.{position}
use Rattle.std.specs.Str.{bytes_eq}
use Rattle.hla_machine.specs.declared.step.Record.{Record}
use Rattle.hla_machine.specs.declared.step.Step.TheVariants.{Join}
use Rattle.hla_history.specs.Hosting.{HostedValue, host_of, table_of}
use Rattle.hla_history.specs.Tags.{tags_among}
use Rattle.hla_shared.proofs.Executions.Places.{no_place, found_there, table_with, tags_step, tags_unjoined, record_foreseen, ends_foreseen, ends_nowhere, hosts_there, hosts_nowhere}
use Rattle.hla_shared.proofs.joining.join_among.Goals as goal

pub returns-in-Ok-clause-ends : goal.returns-in-Ok-clause-ends
returns-in-Ok-clause-ends g c =
    ends_nowhere (table_of c.args.executions.now.items c.args.execution) (Join c.args.name) _ _
    (no_place c.args.executions.now.items c.args.execution (ap (λ (hs : List HostedValue). position (λ (h : HostedValue). bytes_eq c.args.execution h.name) hs) (sym c.as_slice.ensures.value) ∙ sym c.place_of.ensures ∙ c.in-None.is))
    (ap (λ (r : Record). r.outcome) c.in-Ok.ensures.record) (ap (λ (r : Record). r.choice) c.in-Ok.ensures.record)

pub returns-in-Ok-clause-hosts : goal.returns-in-Ok-clause-hosts
returns-in-Ok-clause-hosts g c =
    hosts_nowhere (table_of c.args.executions.now.items) c.args.execution (Join c.args.name) _
    (no_place c.args.executions.now.items c.args.execution (ap (λ (hs : List HostedValue). position (λ (h : HostedValue). bytes_eq c.args.execution h.name) hs) (sym c.as_slice.ensures.value) ∙ sym c.place_of.ensures ∙ c.in-None.is))

pub returns-in-Ok-join-clause-record : goal.returns-in-Ok-join-clause-record
returns-in-Ok-join-clause-record g c =
    let there = found_there c.args.executions.now.items c.args.execution c.in-Some.place c.index_mut.result.now
    (ap (λ (hs : List HostedValue). position (λ (h : HostedValue). bytes_eq c.args.execution h.name) hs) (sym c.as_slice.ensures.value) ∙ sym c.place_of.ensures ∙ c.in-Some.is) c.index_mut.ensures.value in
    record_foreseen _ _ _ _ _ _ _ c.in-Ok-join.ensures.record there.1

pub returns-in-Ok-join-clause-ends : goal.returns-in-Ok-join-clause-ends
returns-in-Ok-join-clause-ends g c =
    let there = found_there c.args.executions.now.items c.args.execution c.in-Some.place c.index_mut.result.now
    (ap (λ (hs : List HostedValue). position (λ (h : HostedValue). bytes_eq c.args.execution h.name) hs) (sym c.as_slice.ensures.value) ∙ sym c.place_of.ensures ∙ c.in-Some.is) c.index_mut.ensures.value in
    ends_foreseen _ (host_of c.index_mut.result.now) (Join c.args.name) _ _ there.0 (ap (λ (r : Record). r.outcome) c.in-Ok-join.ensures.record) (ap (λ (r : Record). r.choice) c.in-Ok-join.ensures.record)

pub returns-in-Ok-join-clause-hosts : goal.returns-in-Ok-join-clause-hosts
returns-in-Ok-join-clause-hosts g c =
    let at = ap (λ (hs : List HostedValue). position (λ (h : HostedValue). bytes_eq c.args.execution h.name) hs) (sym c.as_slice.ensures.value) ∙ sym c.place_of.ensures ∙ c.in-Some.is in
    let there = found_there c.args.executions.now.items c.args.execution c.in-Some.place c.index_mut.result.now at c.index_mut.ensures.value in
    hosts_there (table_of c.args.executions.now.items) _ c.args.execution (host_of c.index_mut.result.now) (host_of c.join.new.self) (Join c.args.name) _
    (table_with c.args.executions.now.items c.args.execution c.in-Some.place c.index_mut.result.now at c.index_mut.ensures.value c.join.new.self (c.join.ensures.name ∙ there.1))
    there.0 c.in-Ok-join.ensures.host

pub returns-in-Ok-clause-tags : goal.returns-in-Ok-clause-tags
returns-in-Ok-clause-tags g c =
    tags_unjoined (tags_among c.args.executions.now.items) c.args.execution c.args.name _ _ _ (ap (λ (r : Record). r.outcome) c.in-Ok.ensures.record)

pub returns-in-Ok-join-clause-tags : goal.returns-in-Ok-join-clause-tags
returns-in-Ok-join-clause-tags g c =
    let at = ap (λ (hs : List HostedValue). position (λ (h : HostedValue). bytes_eq c.args.execution h.name) hs) (sym c.as_slice.ensures.value) ∙ sym c.place_of.ensures ∙ c.in-Some.is in
    let there = found_there c.args.executions.now.items c.args.execution c.in-Some.place c.index_mut.result.now at c.index_mut.ensures.value in
    tags_step c.args.executions.now.items c.args.execution c.in-Some.place c.index_mut.result.now at c.index_mut.ensures.value c.join.new.self (Join c.args.name) _
    (Some (g.B.FederateAmbassador.tag c.args.inner)) (c.join.ensures.name ∙ there.1) c.in-Ok-join.ensures.tags
