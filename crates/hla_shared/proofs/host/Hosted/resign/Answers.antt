use Rattle.std.proofs.Common.{refl, ◌∙◌, ap, None}
use Rattle.hla_machine.specs.declared.service.Service.TheVariants as service
use Rattle.hla_machine.specs.declared.step.Outcome.{Outcome}
use Rattle.hla_machine.specs.declared.step.Record.{Record}
use Rattle.hla_machine.specs.declared.step.Step.TheVariants.{Call}
use Rattle.hla_history.specs.Hosts.{host_after}
use Rattle.hla_history.specs.Hosting.{HostedValue, components_hosted, heard_of, tags_of, host_of}
use Rattle.hla_history.specs.Tags.{tag_table, tag_table_after}
use Rattle.hla_shared.proofs.Heard.Hosting.{ambassadors_ready}
use Rattle.hla_shared.proofs.Heard.Seats.{ear_resigns, host_resigns, tags_resign, len_resigns}
use Rattle.hla_shared.proofs.host.Hosted.resign.Goals as goal

pub unseat-back-requires : goal.unseat-back-requires
unseat-back-requires g c =
    ear_resigns (components_hosted (g.F.Execution.value c.self.inside.federation)) (components_hosted (g.F.Execution.value c.take_step.new.federation)) c.args.federate c.args.action c.in_ok-record.stepped.answer
    (c.in_ok-record.ensures.answer ∙ ap (λ (r : Record). r.outcome) c.in_ok-record.ensures.record) c.in_ok-record.ensures.state
    c.self.inside.ears.items (ambassadors_ready _ _ c.self.inside.ears.items c.self.view_is c.requires refl)

pub invariant_of-self-2 : goal.invariant_of-self-2
invariant_of-self-2 g c =
    len_resigns (components_hosted (g.F.Execution.value c.self.inside.federation)) (components_hosted (g.F.Execution.value c.take_step.new.federation)) c.args.federate c.args.action c.in_ok-record.stepped.answer
    (c.in_ok-record.ensures.answer ∙ ap (λ (r : Record). r.outcome) c.in_ok-record.ensures.record) c.in_ok-record.ensures.state
    _ _ c.self.invariant c.unseat-back.ensures.len

pub returns-clause-host : goal.returns-clause-host
returns-clause-host g c =
    host_resigns (components_hosted (g.F.Execution.value c.self.inside.federation)) (components_hosted (g.F.Execution.value c.take_step.new.federation)) c.args.federate c.args.action c.in_ok-record.stepped.answer
    (c.in_ok-record.ensures.answer ∙ ap (λ (r : Record). r.outcome) c.in_ok-record.ensures.record) c.in_ok-record.ensures.state
    (heard_of c.self.inside.ears.items) (heard_of c.unseat-back.new.ears.items) (ambassadors_ready _ _ c.self.inside.ears.items c.self.view_is c.requires refl) c.unseat-back.ensures.heard
    ∙ ap (λ (o : Outcome). host_after (host_of (record { name = c.self.inside.name; federation = g.F.Execution.value c.self.inside.federation; heard = heard_of c.self.inside.ears.items; tags = tags_of c.self.inside.ears.items })) (Call c.args.federate (service.Resign c.args.action)) o) c.in_ok-record.ensures.answer
    ∙ ap (λ (h : HostedValue). host_after (host_of h) (Call c.args.federate (service.Resign c.args.action)) c.in_ok-record.record.outcome) c.self.view_is

pub returns-clause-tags : goal.returns-clause-tags
returns-clause-tags g c =
    tags_resign (components_hosted (g.F.Execution.value c.self.inside.federation)) (components_hosted (g.F.Execution.value c.take_step.new.federation)) c.args.federate c.args.action c.in_ok-record.stepped.answer
    (c.in_ok-record.ensures.answer ∙ ap (λ (r : Record). r.outcome) c.in_ok-record.ensures.record) c.in_ok-record.ensures.state
    c.self.inside.ears.items (tags_of c.unseat-back.new.ears.items) (ambassadors_ready _ _ c.self.inside.ears.items c.self.view_is c.requires refl) c.unseat-back.ensures.tags
    ∙ ap (λ (o : Outcome). tag_table_after (tag_table (tags_of c.self.inside.ears.items)) (Call c.args.federate (service.Resign c.args.action)) o None) c.in_ok-record.ensures.answer
    ∙ ap (λ (h : HostedValue). tag_table_after (tag_table h.tags) (Call c.args.federate (service.Resign c.args.action)) c.in_ok-record.record.outcome None) c.self.view_is
