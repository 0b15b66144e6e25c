use Rattle.std.proofs.Common.{List, sym, ◌∙◌, ap, ◌≡◌, Option, None}
use Rattle.std.specs.List.{position}
use Rattle.std.specs.Str.{bytes_eq}
use Rattle.hla_history.specs.Hosts.{Host}
use Rattle.hla_history.specs.Hosting.{HostedValue, host_of, table_of}
use Rattle.hla_history.specs.Writing.{chosen_in}
use Rattle.hla_shared.proofs.Executions.Places.{no_place, found_there, table_with, tags_stay, ends_there, ends_nowhere, hosts_there, hosts_nowhere}
use Rattle.hla_shared.proofs.Records.Written.{where_ok, written_nowhere, written_there}
use Rattle.hla_shared.proofs.among.step_among_into.Goals as goal

pub step_into-requires-clause-ambassadors : goal.step_into-requires-clause-ambassadors
step_into-requires-clause-ambassadors g c =
    c.requires.ambassadors c.args.execution.now (host_of c.index_mut.result.now)
    (found_there c.args.executions.now.items c.args.execution.now c.in-Some.place c.index_mut.result.now
    (ap (λ (hs : List HostedValue). position (λ (h : HostedValue). bytes_eq c.args.execution.now h.name) hs) (sym c.as_slice.ensures.value) ∙ sym c.place_of.ensures ∙ c.in-Some.is) c.index_mut.ensures.value).0

pub returns-in-None-clause-written : goal.returns-in-None-clause-written
returns-in-None-clause-written g c =
    let none : table_of c.args.executions.now.items c.args.execution.now ≡ None =
    no_place c.args.executions.now.items c.args.execution.now (ap (λ (hs : List HostedValue). position (λ (h : HostedValue). bytes_eq c.args.execution.now h.name) hs) (sym c.as_slice.ensures.value) ∙ sym c.place_of.ensures ∙ c.in-None.is) in
    where_ok c.refuse_into.result (λ out is. is ∙ written_nowhere _ _ _ _ out _ none) c.refuse_into.ensures.written

pub returns-in-None-clause-copied : goal.returns-in-None-clause-copied
returns-in-None-clause-copied g c =
    let none : table_of c.args.executions.now.items c.args.execution.now ≡ None =
    no_place c.args.executions.now.items c.args.execution.now (ap (λ (hs : List HostedValue). position (λ (h : HostedValue). bytes_eq c.args.execution.now h.name) hs) (sym c.as_slice.ensures.value) ∙ sym c.place_of.ensures ∙ c.in-None.is) in
    where_ok c.refuse_into.result (λ out is. is ∙ written_nowhere _ _ _ _ out _ none) c.refuse_into.ensures.copied

pub returns-in-None-clause-ends : goal.returns-in-None-clause-ends
returns-in-None-clause-ends g c =
    let none : table_of c.args.executions.now.items c.args.execution.now ≡ None =
    no_place c.args.executions.now.items c.args.execution.now (ap (λ (hs : List HostedValue). position (λ (h : HostedValue). bytes_eq c.args.execution.now h.name) hs) (sym c.as_slice.ensures.value) ∙ sym c.place_of.ensures ∙ c.in-None.is) in
    where_ok c.refuse_into.result (λ out is. ends_nowhere _ c.args.step out _ none is (ap (λ (o : Option Host). chosen_in o c.args.step) none)) c.refuse_into.ensures.refused

pub returns-in-None-clause-hosts : goal.returns-in-None-clause-hosts
returns-in-None-clause-hosts g c =
    let none : table_of c.args.executions.now.items c.args.execution.now ≡ None =
    no_place c.args.executions.now.items c.args.execution.now (ap (λ (hs : List HostedValue). position (λ (h : HostedValue). bytes_eq c.args.execution.now h.name) hs) (sym c.as_slice.ensures.value) ∙ sym c.place_of.ensures ∙ c.in-None.is) in
    where_ok c.refuse_into.result (λ out is. hosts_nowhere (table_of c.args.executions.now.items) c.args.execution.now c.args.step out none) c.refuse_into.ensures.refused

pub returns-in-Some-clause-written : goal.returns-in-Some-clause-written
returns-in-Some-clause-written g c =
    let there = found_there c.args.executions.now.items c.args.execution.now c.in-Some.place c.index_mut.result.now
    (ap (λ (hs : List HostedValue). position (λ (h : HostedValue). bytes_eq c.args.execution.now h.name) hs) (sym c.as_slice.ensures.value) ∙ sym c.place_of.ensures ∙ c.in-Some.is) c.index_mut.ensures.value in
    where_ok c.step_into.result (λ out is. is ∙ written_there _ _ _ _ _ out _ (host_of c.index_mut.result.now) there.0 there.1) c.step_into.ensures.written

pub returns-in-Some-clause-copied : goal.returns-in-Some-clause-copied
returns-in-Some-clause-copied g c =
    let there = found_there c.args.executions.now.items c.args.execution.now c.in-Some.place c.index_mut.result.now
    (ap (λ (hs : List HostedValue). position (λ (h : HostedValue). bytes_eq c.args.execution.now h.name) hs) (sym c.as_slice.ensures.value) ∙ sym c.place_of.ensures ∙ c.in-Some.is) c.index_mut.ensures.value in
    where_ok c.step_into.result (λ out is. is ∙ written_there _ _ _ _ _ out _ (host_of c.index_mut.result.now) there.0 there.1) c.step_into.ensures.copied

pub returns-in-Some-clause-ends : goal.returns-in-Some-clause-ends
returns-in-Some-clause-ends g c =
    let there = found_there c.args.executions.now.items c.args.execution.now c.in-Some.place c.index_mut.result.now
    (ap (λ (hs : List HostedValue). position (λ (h : HostedValue). bytes_eq c.args.execution.now h.name) hs) (sym c.as_slice.ensures.value) ∙ sym c.place_of.ensures ∙ c.in-Some.is) c.index_mut.ensures.value in
    where_ok c.step_into.result (λ out is. ends_there _ _ c.args.step out _ there.0 is (ap (λ (o : Option Host). chosen_in o c.args.step) there.0)) c.step_into.ensures.given

pub returns-in-Some-clause-hosts : goal.returns-in-Some-clause-hosts
returns-in-Some-clause-hosts g c =
    let at = ap (λ (hs : List HostedValue). position (λ (h : HostedValue). bytes_eq c.args.execution.now h.name) hs) (sym c.as_slice.ensures.value) ∙ sym c.place_of.ensures ∙ c.in-Some.is in
    let there = found_there c.args.executions.now.items c.args.execution.now c.in-Some.place c.index_mut.result.now at c.index_mut.ensures.value in
    where_ok c.step_into.result (λ out is. hosts_there (table_of c.args.executions.now.items) _ c.args.execution.now (host_of c.index_mut.result.now) (host_of c.step_into.new.self) c.args.step out
    (table_with c.args.executions.now.items c.args.execution.now c.in-Some.place c.index_mut.result.now at c.index_mut.ensures.value c.step_into.new.self (c.step_into.ensures.name ∙ there.1))
    there.0 is) c.step_into.ensures.host

pub returns-in-Some-clause-tags : goal.returns-in-Some-clause-tags
returns-in-Some-clause-tags g c =
    let at = ap (λ (hs : List HostedValue). position (λ (h : HostedValue). bytes_eq c.args.execution.now h.name) hs) (sym c.as_slice.ensures.value) ∙ sym c.place_of.ensures ∙ c.in-Some.is in
    let there = found_there c.args.executions.now.items c.args.execution.now c.in-Some.place c.index_mut.result.now at c.index_mut.ensures.value in
    tags_stay c.args.executions.now.items c.args.execution.now c.in-Some.place c.index_mut.result.now at c.index_mut.ensures.value c.step_into.new.self
    (c.step_into.ensures.name ∙ there.1) c.step_into.ensures.tags
