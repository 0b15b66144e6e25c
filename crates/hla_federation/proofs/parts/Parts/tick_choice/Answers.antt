use Rattle.std.proofs.Common.{◌≡◌, ◌<◌, ℕ, true, List, Result, OnErr, filter, sym, ap, subst, ◌∙◌, arith}
use Rattle.hla_base.specs.declared.number.EventHandle.{EventHandle}
use Rattle.hla_base.specs.declared.fault.Fault.{Fault}
use Rattle.hla_base.specs.declared.row.TimeRow.{TimeRow}
use Rattle.hla_base.specs.Tables.{forever}
use Rattle.hla_declaration.specs.Declarations as declared
use Rattle.hla_machine.specs.Registered.{registry_of}
use Rattle.hla_component_rules.specs.Queues.{handles_of}
use Rattle.hla_component_rules.specs.LocalValue.{LocalValue}
use Rattle.hla_component_rules.specs.declared.picked.NextPick.TheVariants as following
use Rattle.hla_component_rules.specs.Picking.{Pick, next_pick_by, local_pick, is_below}
use Rattle.hla_machine.specs.declared.step.Choice.{Choice}
use Rattle.hla_machine.specs.declared.step.Choice.TheVariants as choice
use Rattle.hla_machine.specs.declared.step.Step.TheVariants.{Tick}
use Rattle.hla_components.specs.Locals.{choice_given}
use Rattle.hla_components.specs.Next.{next}
use Rattle.hla_synchronization.specs.OpenPoints.{points_of}
use Rattle.hla_federation.specs.FederationValue.{FederationValue}
use Rattle.hla_execution.specs.MemberValue.{members_of}
use Rattle.hla_federation.specs.Steps.Memory.{choice_takes_memory, takes_memory}
use Rattle.hla_federation.specs.Steps.State.{state_of}
use Rattle.hla_federation.proofs.Steps.Changing.{handed_on, constrains, nothing_moves}
use Rattle.hla_federation.proofs.Steps.Declaring.{pick_memory, picked_choice}
use Rattle.hla_federation.proofs.parts.Parts.tick_choice.Goals as goal

pub returns-in_err-moved-in-Constraint-clause-memory : goal.returns-in_err-moved-in-Constraint-clause-memory
returns-in_err-moved-in-Constraint-clause-memory c =
    let whole = rw (← c.self.view_is) at c.requires.whole in
    let l = (members_of c.self.inside.members.shown).local c.args.federate in
    let enters = constrains (local_pick l) (ap (λ (x : LocalValue). next_pick_by (local_pick x)) (sym c.local-local.ensures) ∙ sym c.next_pick.ensures ∙ c.in-Constraint.is) in
    let takes = pick_memory c.self.inside.catalogue (points_of c.self.inside.points) (declared.declarations_of c.self.inside.declarations) (registry_of c.self.inside.registry) (members_of c.self.inside.members.shown) c.args.federate whole.parts enters in
    handed_on c.in_err-moved-in-Constraint.field-0.0 c.from_residual.result (λ (r : Result Choice Fault). OnErr r (takes_memory (state_of c.args.self.now) (Tick c.args.federate) ≡ true)) c.from_residual.ensures
    (subst (λ (v : FederationValue). takes_memory (state_of v) (Tick c.args.federate) ≡ true) c.self.view_is takes)

pub returns-in_err-moved-in-Constraint-clause-moved : goal.returns-in_err-moved-in-Constraint-clause-moved
returns-in_err-moved-in-Constraint-clause-moved c =
    let whole = rw (← c.self.view_is) at c.requires.whole in
    let joined = sym c.is_joined.ensures ∙ c.if-not-is_joined.false in
    let l = (members_of c.self.inside.members.shown).local c.args.federate in
    let enters = constrains (local_pick l) (ap (λ (x : LocalValue). next_pick_by (local_pick x)) (sym c.local-local.ensures) ∙ sym c.next_pick.ensures ∙ c.in-Constraint.is) in
    let chosen = picked_choice c.self.inside.catalogue (points_of c.self.inside.points) (declared.declarations_of c.self.inside.declarations) (registry_of c.self.inside.registry) (members_of c.self.inside.members.shown) c.args.federate whole.parts joined in
    handed_on c.in_err-moved-in-Constraint.field-0.0 c.from_residual.result (λ (r : Result Choice Fault). OnErr r (choice_takes_memory (next (state_of c.args.self.now) (Tick c.args.federate)).choice ≡ true)) c.from_residual.ensures
    (subst (λ (v : FederationValue). choice_takes_memory (next (state_of v) (Tick c.args.federate)).choice ≡ true) c.self.view_is (ap choice_takes_memory (chosen ∙ ap (λ (p : Pick). choice_given l p) enters)))

pub returns-in_ok-moved-in-Constraint-clause-ok : goal.returns-in_ok-moved-in-Constraint-clause-ok
returns-in_ok-moved-in-Constraint-clause-ok c =
    let whole = rw (← c.self.view_is) at c.requires.whole in
    let joined = sym c.is_joined.ensures ∙ c.if-not-is_joined.false in
    let l = (members_of c.self.inside.members.shown).local c.args.federate in
    let enters = constrains (local_pick l) (ap (λ (x : LocalValue). next_pick_by (local_pick x)) (sym c.local-local.ensures) ∙ sym c.next_pick.ensures ∙ c.in-Constraint.is) in
    let time : c.time.result ≡ l.row.time = c.time.ensures.value ∙ ap (λ (r : TimeRow). r.time) c.state.ensures ∙ ap (λ (x : LocalValue). x.row.time) c.local-local.ensures in
    let early : c.time.result < forever = omega (arith, c.time.ensures.bounded) in
    let moved = c.in_ok-moved-in-Constraint.ensures.below early ∙ ap (λ (x : LocalValue). handles_of (filter (is_below c.time.result) x.tso)) c.local-local.ensures ∙ ap (λ (t : ℕ). handles_of (filter (is_below t) l.tso)) time in
    let chosen = picked_choice c.self.inside.catalogue (points_of c.self.inside.points) (declared.declarations_of c.self.inside.declarations) (registry_of c.self.inside.registry) (members_of c.self.inside.members.shown) c.args.federate whole.parts joined in
    subst (λ (v : FederationValue). choice.Moved c.from_vec.result ≡ (next (state_of v) (Tick c.args.federate)).choice) c.self.view_is
    (ap (λ (hs : List EventHandle). choice.Moved hs) (c.from_vec.ensures ∙ moved) ∙ sym (chosen ∙ ap (λ (p : Pick). choice_given l p) enters))

pub returns-in_default : goal.returns-in_default
returns-in_default c =
    let whole = rw (← c.self.view_is) at c.requires.whole in
    let joined = sym c.is_joined.ensures ∙ c.if-not-is_joined.false in
    let l = (members_of c.self.inside.members.shown).local c.args.federate in
    let chosen = picked_choice c.self.inside.catalogue (points_of c.self.inside.points) (declared.declarations_of c.self.inside.declarations) (registry_of c.self.inside.registry) (members_of c.self.inside.members.shown) c.args.federate whole.parts joined in
    let other : next_pick_by (local_pick l) ≡ following.Constraint → ⊥ = λ enters. c.in_default.not-Constraint (c.next_pick.ensures ∙ ap (λ (x : LocalValue). next_pick_by (local_pick x)) c.local-local.ensures ∙ enters) in
    record {
      ok = subst (λ (v : FederationValue). choice.None ≡ (next (state_of v) (Tick c.args.federate)).choice) c.self.view_is (sym (chosen ∙ nothing_moves l (local_pick l) other));
      err = tt;
      memory = tt;
      moved = tt;
    }
