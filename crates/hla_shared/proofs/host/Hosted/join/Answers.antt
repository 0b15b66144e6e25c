use Rattle.std.proofs.Common.{ℕ, List, Option, ◌++◌, ◌∷◌, [], Some, ◌∙◌, ap, cond, length, arith, ◌≡◌}
use Rattle.hla_callbacks.specs.declared.callback.Callback.{Callback}
use Rattle.hla_machine.specs.declared.step.Outcome.{Outcome}
use Rattle.hla_machine.specs.declared.step.Record.{Record}
use Rattle.hla_history.specs.Creating.{is_accepted}
use Rattle.hla_history.specs.Hosts.{host_after}
use Rattle.hla_history.specs.Hosting.{HostedValue, components_hosted, heard_of, tags_of, host_of}
use Rattle.hla_history.specs.Tags.{tag_table, tag_table_after}
use Rattle.hla_machine.specs.declared.step.Step.TheVariants.{Join}
use Rattle.hla_shared.proofs.Heard.Seats.{host_joins, tags_join, len_joins, heard_length, tags_length}
use Rattle.hla_shared.proofs.host.Hosted.join.Goals as goal

pub invariant_of-self-in-Ok-take_step : goal.invariant_of-self-in-Ok-take_step
invariant_of-self-in-Ok-take_step g c =
    len_joins (components_hosted (g.F.Execution.value c.self.inside.federation)) (components_hosted (g.F.Execution.value c.take_step.new.federation)) c.args.name c.in-Ok-take_step.made.1.answer
    (c.in-Ok-take_step.ensures.answer ∙ ap (λ (r : Record). r.outcome) c.in-Ok-take_step.ensures.record) c.in-Ok-take_step.ensures.state
    _ _ (c.reserve.ensures.len ∙ c.self.invariant) c.seat-back.ensures.len

pub returns-in-Ok-take_step-clause-host : goal.returns-in-Ok-take_step-clause-host
returns-in-Ok-take_step-clause-host g c =
    let answered = c.in-Ok-take_step.ensures.answer ∙ ap (λ (r : Record). r.outcome) c.in-Ok-take_step.ensures.record in
    let heard = c.seat-back.ensures.heard
    ∙ ap (λ (ks : List Callback). cond (is_accepted c.in-Ok-take_step.made.1.answer) (heard_of c.reserve.new.self.items ++ Some ks ∷ []) (heard_of c.reserve.new.self.items)) c.requires
    ∙ ap (λ (hs : List (Option (List Callback))). cond (is_accepted c.in-Ok-take_step.made.1.answer) (hs ++ Some [] ∷ []) hs) (ap heard_of c.reserve.ensures.items) in
    let within : length c.self.inside.ears.items ≡ (components_hosted (g.F.Execution.value c.self.inside.federation)).directory.next_federate = omega (arith, c.self.inside.ears.ok.0, c.self.invariant) in
    host_joins (components_hosted (g.F.Execution.value c.self.inside.federation)) (components_hosted (g.F.Execution.value c.take_step.new.federation)) c.args.name c.in-Ok-take_step.made.1.answer answered c.in-Ok-take_step.ensures.state
    (heard_of c.self.inside.ears.items) (heard_of c.seat-back.new.ears.items) (heard_length c.self.inside.ears.items _ within) heard
    ∙ ap (λ (o : Outcome). host_after (host_of (record { name = c.self.inside.name; federation = g.F.Execution.value c.self.inside.federation; heard = heard_of c.self.inside.ears.items; tags = tags_of c.self.inside.ears.items })) (Join c.args.name) o) c.in-Ok-take_step.ensures.answer
    ∙ ap (λ (h : HostedValue). host_after (host_of h) (Join c.args.name) c.in-Ok-take_step.made.0.outcome) c.self.view_is

pub returns-in-Ok-take_step-clause-tags : goal.returns-in-Ok-take_step-clause-tags
returns-in-Ok-take_step-clause-tags g c =
    let tag : ℕ = g.B.FederateAmbassador.tag c.args.inner in
    let answered = c.in-Ok-take_step.ensures.answer ∙ ap (λ (r : Record). r.outcome) c.in-Ok-take_step.ensures.record in
    let tags = c.seat-back.ensures.tags
    ∙ ap (λ (ts : List (Option ℕ)). cond (is_accepted c.in-Ok-take_step.made.1.answer) (ts ++ Some tag ∷ []) ts) (ap tags_of c.reserve.ensures.items) in
    let within : length c.self.inside.ears.items ≡ (components_hosted (g.F.Execution.value c.self.inside.federation)).directory.next_federate = omega (arith, c.self.inside.ears.ok.0, c.self.invariant) in
    tags_join (components_hosted (g.F.Execution.value c.self.inside.federation)) (components_hosted (g.F.Execution.value c.take_step.new.federation)) c.args.name c.in-Ok-take_step.made.1.answer answered c.in-Ok-take_step.ensures.state
    (tags_of c.self.inside.ears.items) (tags_of c.seat-back.new.ears.items) tag (tags_length c.self.inside.ears.items _ within) tags
    ∙ ap (λ (o : Outcome). tag_table_after (tag_table (tags_of c.self.inside.ears.items)) (Join c.args.name) o (Some tag)) c.in-Ok-take_step.ensures.answer
    ∙ ap (λ (h : HostedValue). tag_table_after (tag_table h.tags) (Join c.args.name) c.in-Ok-take_step.made.0.outcome (Some tag)) c.self.view_is
