use Rattle.std.proofs.Common.{◌≡◌, List, true, Option, None, Result, inr, sym, ap, subst, ◌∙◌}
use Rattle.hla_callbacks.specs.declared.callback.Callback.{Callback}
use Rattle.hla_machine.specs.declared.step.Step.TheVariants.{Tick}
use Rattle.hla_base.specs.declared.fault.Fault.{Fault}
use Rattle.hla_machine.specs.declared.step.Answer.TheVariants as answer
use Rattle.hla_declaration.specs.Declarations as declared
use Rattle.hla_machine.specs.Registered.{registry_of}
use Rattle.hla_lbts.specs.Peers.{peers_of}
use Rattle.hla_components.specs.Next.{Outcomes, next, components_seen}
use Rattle.hla_machine.specs.Refusals.{refusal}
use Rattle.hla_machine.specs.declared.step.Outcome.TheVariants as outcome
use Rattle.hla_synchronization.specs.OpenPoints.{points_of}
use Rattle.hla_federation.specs.FederationValue.{FederationValue}
use Rattle.hla_execution.specs.MemberValue.{MemberTables, members_of, MemberValue}
use Rattle.hla_federation.specs.Steps.Answering.{answered_as}
use Rattle.hla_federation.specs.Steps.State.{state_of, state_from, IsUnmet, EndsChosen}
use Rattle.hla_federation.specs.Steps.Synchronizing.{points_told}
use Rattle.hla_component_rules.specs.Picking.{picked_by, local_pick}
use Rattle.hla_federation.proofs.Steps.Notifying.{told_as}
use Rattle.hla_federation.proofs.Steps.Doing.{does_next}
use Rattle.hla_federation.specs.Steps.Memory.{takes_memory}
use Rattle.hla_federation.proofs.Steps.Declaring.{picked, pick_memory, unmet_picked}
use Rattle.hla_federation.proofs.Steps.Wholes.{whole_same}
use Rattle.hla_federation.proofs.Steps.Changing.{handed_on}
use Rattle.hla_federation.proofs.parts.Parts.tick.Goals as goal

pub returns-clause-whole : goal.returns-clause-whole
returns-clause-whole c =
    let whole = rw (← c.self.view_is) at c.requires.whole in
    let old = members_of c.self.inside.members.shown in
    let state = c.in_ok-callback.ensures.state in
    record {
      parts = whole_same _ _ old _ whole.parts (ap (λ (t : MemberTables). t.next_federate) state) (ap (λ (t : MemberTables). t.joined) state)
          (λ k g beyond. subst (λ (t : MemberTables). IsUnmet (peers_of (t.local k).peers) g) (sym state) (unmet_picked old c.args.federate k g (λ j. whole.parts.unmet j g beyond)));
      named = λ f y. whole.named f (ap (λ (t : MemberTables). t.joined f) (sym state) ∙ y);
    }

pub returns-clause-done : goal.returns-clause-done
returns-clause-done c =
    let whole = rw (← c.self.view_is) at c.requires.whole in
    let old = members_of c.self.inside.members.shown in
    let fault_is = rw (← c.self.view_is) at c.caller_fault.ensures in
    let l = old.local c.args.federate in
    let told = c.note_told.ensures ∙ ap (λ (k : Option Callback). points_told c.args.federate k (points_of c.self.inside.points)) c.in_ok-callback.ensures.callback
    ∙ told_as c.args.federate (picked_by l.row (local_pick l)) (points_of c.self.inside.points) in
    let does = does_next (state_from c.self.inside.catalogue (points_of c.self.inside.points) (declared.declarations_of c.self.inside.declarations) (registry_of c.self.inside.registry) old) (Tick c.args.federate) (sym fault_is ∙ c.in_default.is)
    ∙ picked c.self.inside.catalogue (points_of c.self.inside.points) (declared.declarations_of c.self.inside.declarations) (registry_of c.self.inside.registry) old c.args.federate whole.parts in
    subst (λ (v : FederationValue). ((next (state_of v) (Tick c.args.federate)).outcome ≡ outcome.Done (answer.Ticked c.in_ok-callback.callback)) × ((next (state_of v) (Tick c.args.federate)).state ≡ state_from c.self.inside.catalogue (points_of c.note_told.new.points) (declared.declarations_of c.self.inside.declarations) (registry_of c.self.inside.registry) (members_of c.pick_up.new.self.shown)))
    c.self.view_is (
      ap (λ (o : Outcomes). o.outcome) does ∙ ap (λ (k : Option Callback). outcome.Done (answer.Ticked k)) (sym c.in_ok-callback.ensures.callback),
      ap (λ (o : Outcomes). o.state) does ∙ (λ i. state_from c.self.inside.catalogue (sym told i) (declared.declarations_of c.self.inside.declarations) (registry_of c.self.inside.registry) (sym c.in_ok-callback.ensures.state i)),
    )

pub returns-in_err-callback-clause-done : goal.returns-in_err-callback-clause-done
returns-in_err-callback-clause-done c =
    let whole = rw (← c.self.view_is) at c.requires.whole in
    let none : refusal (components_seen (state_of c.args.self.now)) (Tick c.args.federate) ≡ None = sym c.caller_fault.ensures ∙ c.in_default.is in
    let takes = pick_memory c.self.inside.catalogue (points_of c.self.inside.points) (declared.declarations_of c.self.inside.declarations) (registry_of c.self.inside.registry) (members_of c.self.inside.members.shown) c.args.federate whole.parts c.in_err-callback.ensures.memory in
    handed_on c.in_err-callback.field-0.0 c.from_residual.result (λ (r : Result (Option Callback) Fault). EndsChosen c.args.self.now (Tick c.args.federate) (answered_as answer.Ticked r) (record { catalogue = c.self.inside.catalogue; points = c.self.inside.points; declarations = c.self.inside.declarations; objects = c.self.inside.registry; members = c.pick_up.new.self.shown; next_name = c.self.inside.next_name })) c.from_residual.ensures (
      inr (none, c.in_err-callback.ensures.err, subst (λ (v : FederationValue). takes_memory (state_of v) (Tick c.args.federate) ≡ true) c.self.view_is takes),
      ap (λ (ms : List MemberValue). record { catalogue = c.self.inside.catalogue; points = c.self.inside.points; declarations = c.self.inside.declarations; objects = c.self.inside.registry; members = ms; next_name = c.self.inside.next_name }) c.in_err-callback.ensures.unchanged ∙ c.self.view_is,
    )
