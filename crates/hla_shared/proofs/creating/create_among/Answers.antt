use Rattle.std.proofs.Common.{List, refl, sym, ◌∙◌, ap}
use Rattle.std.specs.List.{position}
use Rattle.std.specs.Str.{bytes_eq}
use Rattle.hla_machine.specs.declared.step.Record.{Record}
use Rattle.hla_history.specs.Hosting.{HostedValue, hosts_of, table_of}
use Rattle.hla_shared.proofs.Executions.Creations.{creation_is, creation_absent, created_recorded, created_tags, ends_refused, ends_done}
use Rattle.hla_shared.proofs.Executions.Places.{place_there}
use Rattle.hla_shared.proofs.creating.create_among.Goals as goal

pub returns-in_ok-refused-in-Some-clause-ends : goal.returns-in_ok-refused-in-Some-clause-ends
returns-in_ok-refused-in-Some-clause-ends g c =
    let found = c.is_some-is_there.ensures ∙ place_there c.args.executions.now.items c.args.name c.place_of.result
    (ap (λ (hs : List HostedValue). position (λ (h : HostedValue). bytes_eq c.args.name h.name) hs) (sym c.as_slice.ensures.value) ∙ sym c.place_of.ensures) in
    ends_refused _ c.in-Some.fault _
    (creation_is (hosts_of c.args.counts.now.creates c.args.counts.now.present c.args.executions.now.items) c.args.name c.args.catalogue c.is_some-is_there.result c.is_some.result found c.is_some.ensures
    ∙ sym c.creation_refusal.ensures ∙ c.in-Some.is)
    (ap (λ (r : Record). r.outcome) c.in_ok-refused-in-Some.ensures.record)

pub returns-in_ok-made-in-None-clause-ends : goal.returns-in_ok-made-in-None-clause-ends
returns-in_ok-made-in-None-clause-ends g c =
    let found = c.is_some-is_there.ensures ∙ place_there c.args.executions.now.items c.args.name c.place_of.result
    (ap (λ (hs : List HostedValue). position (λ (h : HostedValue). bytes_eq c.args.name h.name) hs) (sym c.as_slice.ensures.value) ∙ sym c.place_of.ensures) in
    ends_done _ _
    (creation_is (hosts_of c.args.counts.now.creates c.args.counts.now.present c.args.executions.now.items) c.args.name c.args.catalogue c.is_some-is_there.result c.is_some.result found c.is_some.ensures
    ∙ sym c.creation_refusal.ensures ∙ c.in-None.is)
    (ap (λ (r : Record). r.outcome) c.in_ok-made-in-None.ensures.record)

pub returns-in_ok-made-in-None-clause-hosts : goal.returns-in_ok-made-in-None-clause-hosts
returns-in_ok-made-in-None-clause-hosts g c =
    let found = c.is_some-is_there.ensures ∙ place_there c.args.executions.now.items c.args.name c.place_of.result
    (ap (λ (hs : List HostedValue). position (λ (h : HostedValue). bytes_eq c.args.name h.name) hs) (sym c.as_slice.ensures.value) ∙ sym c.place_of.ensures) in
    let added = c.in_ok-made-in-None.ensures.added in
    created_recorded c.args.counts.now.creates c.args.counts.now.present _ _ c.args.executions.now.items _ added.0 c.args.name c.args.catalogue _
    added.1 added.2 added.3
    (creation_absent (table_of c.args.executions.now.items c.args.name) _ _ _ (sym c.creation_refusal.ensures ∙ c.in-None.is) found)
    refl refl
    (ap (λ (r : Record). r.outcome) c.in_ok-made-in-None.ensures.record)

pub returns-in_ok-made-in-None-clause-tags : goal.returns-in_ok-made-in-None-clause-tags
returns-in_ok-made-in-None-clause-tags g c =
    let added = c.in_ok-made-in-None.ensures.added in
    created_tags c.args.executions.now.items _ added.0 added.1 added.4
