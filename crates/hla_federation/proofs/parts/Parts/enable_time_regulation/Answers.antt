use Rattle.std.proofs.Common.{◌≡◌, ◌≤◌, ◌<◌, ◌+◌, ℕ, None, refl, sym, ap, subst, ◌∙◌, arith}
use Rattle.std.proofs.lemmas.Bool.Decides.{nat_tests}
use Rattle.hla_base.specs.Limits.{max_time}
use Rattle.hla_base.specs.Tables.{greatest}
use Rattle.hla_base.proofs.Tables.{greatest_ge}
use Rattle.hla_lbts.specs.Peers.{peers_of}
use Rattle.hla_machine.specs.Refusals.{tests}
use Rattle.hla_machine.specs.declared.service.Service.TheVariants as service
use Rattle.hla_machine.specs.declared.step.Outcome.TheVariants as outcome
use Rattle.hla_machine.specs.declared.step.Step.TheVariants.{Call}
use Rattle.hla_components.specs.Component.{regulation_entry}
use Rattle.hla_components.specs.Next.{Outcomes, with_regulation_enabled}
use Rattle.hla_declaration.specs.Declarations as declared
use Rattle.hla_machine.specs.Registered.{registry_of}
use Rattle.hla_component_rules.specs.LocalValue.{LocalValue}
use Rattle.hla_machine.specs.Refusals.{refusal}
use Rattle.hla_machine.specs.declared.step.Answer.TheVariants as answer
use Rattle.hla_components.specs.Next.{next, components_seen}
use Rattle.hla_members.specs.declared.change.Change.TheVariants as change
use Rattle.hla_members.specs.Changes.{changed_local}
use Rattle.hla_synchronization.specs.OpenPoints.{points_of}
use Rattle.hla_federation.specs.FederationValue.{FederationValue}
use Rattle.hla_execution.specs.MemberValue.{MemberTables, members_of}
use Rattle.hla_members.specs.Members.{with_component, with_null_sent}
use Rattle.hla_federation.specs.Steps.State.{state_of, state_from, IsWhole}
use Rattle.hla_federation.proofs.Steps.Doing.{does_next}
use Rattle.hla_federation.proofs.parts.Parts.enable_time_regulation.Goals as goal
use Rattle.hla_members.specs.Changes.{AreLowered, entry_by}
use Rattle.hla_federation.specs.Steps.State.{IsUnmet}
use Rattle.hla_federation.proofs.Steps.Announcing.{entry_is, may_regulate, entered, enabled_state, lowered_unmet}
use Rattle.hla_federation.proofs.Steps.Resigning.{joined_below}
use Rattle.hla_federation.proofs.Steps.Sent.{none_applies}
use Rattle.hla_federation.proofs.Steps.Wholes.{whole_same, unmet_with}

pub change-requires-clause-may : goal.change-requires-clause-may
change-requires-clause-may c =
    let f = c.args.federate in
    let now = c.args.self.now in
    let s = state_of now in
    let step = Call f (service.EnableTimeRegulation c.args.time c.args.lookahead) in
    let none : refusal (components_seen s) step ≡ None = sym c.regulation_fault.ensures ∙ c.in_default.is in
    let test = (none_applies (tests (components_seen s) step) none).1.1.1.1.1.0 in
    let small : c.args.lookahead ≤ max_time = grind (arith, nat_tests, test) in
    let entry : regulation_entry s f (c.args.time + c.args.lookahead) ≡ c.entry-entry.result = sym (c.entry-entry.ensures ∙ ap (λ (v : FederationValue). greatest (members_of v.members).next_federate (c.args.time + c.args.lookahead) (entry_by (members_of v.members).local f)) c.self.view_is
    ∙ sym (entry_is s f (c.args.time + c.args.lookahead) (members_of now.members).local refl refl)) in
    let above = greatest_ge (members_of now.members).next_federate (c.args.time + c.args.lookahead) (entry_by (members_of now.members).local f) in
    let is = entry_is s f (c.args.time + c.args.lookahead) (members_of now.members).local refl refl in
    let local : (members_of c.self-2.inside.members.shown).local f ≡ (members_of now.members).local f = ap (λ (v : FederationValue). (members_of v.members).local f) c.self-2.view_is ∙ ap (λ (t : MemberTables). t.local f) c.in_ok-send_null.ensures.wires in
    rw local (may_regulate s f c.args.time c.args.lookahead c.entry-entry.result ((members_of now.members).local f) c.requires.sound.kept c.requires.joined refl refl small none entry (omega (arith, above, is, entry)))

pub returns-clause-whole : goal.returns-clause-whole
returns-clause-whole c =
    let f = c.args.federate in
    let now = c.args.self.now in
    let ch = change.RegulateFrom c.args.lookahead c.entry-entry.result in
    let back = c.self-2.view_is ∙ c.in_ok-send_null.ensures.same in
    let moved : members_of c.change.new.self.shown ≡ with_component (with_null_sent (members_of now.members) f (c.epoch-epoch.result + 1) c.entry-entry.result) f (changed_local ch ((members_of now.members).local f)) =
    c.change.ensures
    ∙ ap (λ (v : FederationValue). with_component (members_of v.members) f (changed_local ch ((members_of v.members).local f))) c.self-2.view_is
    ∙ ap (λ (t : MemberTables). with_component t f (changed_local ch (t.local f))) c.in_ok-send_null.ensures.wires in
    let whole = c.requires.sound.whole in
    let m = members_of now.members in
    let new = members_of c.lower.new.self.shown in
    let same = c.lower.ensures.same ∙ ap (λ (t : MemberTables). record t { local = new.local }) moved in
    let lowered = c.lower.ensures.lowered in
    let below = joined_below now.members f c.requires.joined in
    subst (λ (v : FederationValue). IsWhole (record v { members = c.lower.new.self.shown })) (sym back) (record {
      parts = whole_same _ _ m new whole.parts (ap (λ (t : MemberTables). t.next_federate) same) (ap (λ (t : MemberTables). t.joined) same)
          (λ j g beyond. lowered_unmet f (c.epoch-epoch.result + 1) c.entry-entry.result (members_of c.change.new.self.shown).joined (members_of c.change.new.self.shown).local new.local g lowered
          (λ e. let under : f < m.next_federate = grind (arith, nat_tests, below) in absurd (omega (arith, under, e, beyond)))
          (λ i. subst (λ (t : MemberTables). IsUnmet (peers_of (t.local i).peers) g) (sym moved) (unmet_with m.local f (changed_local ch (m.local f)) g (whole.parts.unmet f g beyond) (λ h. whole.parts.unmet h g beyond) i)) j);
      named = λ g y. whole.named g (ap (λ (t : MemberTables). t.joined g) (sym same) ∙ y);
    })

pub returns-clause-done : goal.returns-clause-done
returns-clause-done c =
    let step = Call c.args.federate (service.EnableTimeRegulation c.args.time c.args.lookahead) in
    let f = c.args.federate in
    let now = c.args.self.now in
    let ch = change.RegulateFrom c.args.lookahead c.entry-entry.result in
    let back = c.self-2.view_is ∙ c.in_ok-send_null.ensures.same in
    let moved : members_of c.change.new.self.shown ≡ with_component (with_null_sent (members_of now.members) f (c.epoch-epoch.result + 1) c.entry-entry.result) f (changed_local ch ((members_of now.members).local f)) =
    c.change.ensures
    ∙ ap (λ (v : FederationValue). with_component (members_of v.members) f (changed_local ch ((members_of v.members).local f))) c.self-2.view_is
    ∙ ap (λ (t : MemberTables). with_component t f (changed_local ch (t.local f))) c.in_ok-send_null.ensures.wires in
    let m = members_of now.members in
    let s = state_of now in
    let e = c.entry-entry.result in
    let new = members_of c.lower.new.self.shown in
    let epoch = c.epoch-epoch.ensures ∙ ap (λ (l : LocalValue). l.epoch) c.local.ensures ∙ ap (λ (v : FederationValue). ((members_of v.members).local f).epoch) c.self.view_is in
    let after : members_of c.change.new.self.shown ≡ entered now.catalogue (points_of now.points) (declared.declarations_of now.declarations) (registry_of now.objects) m f c.args.lookahead e = moved ∙ ap (λ (k : ℕ). with_component (with_null_sent m f (k + 1) e) f (changed_local ch (m.local f))) epoch in
    let lowered = subst (λ (t : MemberTables). AreLowered f (c.epoch-epoch.result + 1) e t.joined t.local new.local) after c.lower.ensures.lowered in
    let learned = subst (λ (k : ℕ). AreLowered f (k + 1) e m.joined (entered now.catalogue (points_of now.points) (declared.declarations_of now.declarations) (registry_of now.objects) m f c.args.lookahead e).local new.local) epoch lowered in
    let same = c.lower.ensures.same ∙ ap (λ (t : MemberTables). record t { local = new.local }) after in
    let none : refusal (components_seen s) step ≡ None = sym c.regulation_fault.ensures ∙ c.in_default.is in
    let entry : regulation_entry s f (c.args.time + c.args.lookahead) ≡ e = sym (c.entry-entry.ensures ∙ ap (λ (v : FederationValue). greatest (members_of v.members).next_federate (c.args.time + c.args.lookahead) (entry_by (members_of v.members).local f)) c.self.view_is
    ∙ sym (entry_is s f (c.args.time + c.args.lookahead) m.local refl refl)) in
    let state = ap (λ (x : ℕ). with_regulation_enabled s f c.args.lookahead x) entry
    ∙ enabled_state now.catalogue (points_of now.points) (declared.declarations_of now.declarations) (registry_of now.objects) m f c.args.lookahead e new.local learned
    ∙ ap (λ (t : MemberTables). state_from now.catalogue (points_of now.points) (declared.declarations_of now.declarations) (registry_of now.objects) t) (sym same) in
    let does = does_next s step none in
    subst (λ (v : FederationValue). ((next s step).outcome ≡ outcome.Done answer.Done) × ((next s step).state ≡ state_of (record v { members = c.lower.new.self.shown }))) (sym back)
    (ap (λ (o : Outcomes). o.outcome) does, ap (λ (o : Outcomes). o.state) does ∙ state)
