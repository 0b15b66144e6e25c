use Rattle.std.proofs.Common.{◌≡◌, ◌+◌, ◌≤◌, ℕ, sym, ap, ◌∙◌, arith}
use Rattle.hla_machine.specs.declared.step.Step.TheVariants.{Join}
use Rattle.hla_machine.specs.declared.step.Answer.TheVariants as answer
use Rattle.hla_declaration.specs.Declarations as declared
use Rattle.hla_declaration.specs.Declarations.{DeclarationsValue}
use Rattle.hla_machine.specs.Registered.{registry_of}
use Rattle.hla_execution.specs.MemberValue.{MemberValue, MemberTables, members_of}
use Rattle.hla_members.specs.Members.{with_member_admitted}
use Rattle.hla_components.specs.Next.{answer_outcome}
use Rattle.hla_synchronization.specs.OpenPoints.{points_of}
use Rattle.hla_federation.specs.Steps.State.{state_from}
use Rattle.hla_federation.proofs.Steps.Doing.{does_next}
use Rattle.hla_machine.specs.Directory.{default_name}
use Rattle.hla_components.specs.Components.{Components}
use Rattle.hla_federation.proofs.Steps.Declaring.{joined_state}
use Rattle.hla_members.proofs.MemberTables.{nobody_at}
use Rattle.hla_federation.proofs.Steps.Wholes.{whole_admitted, few_joined, nobody_yet}
use Rattle.hla_federation.proofs.parts.Parts.join.Goals as goal

pub admit-requires : goal.admit-requires
admit-requires c =
    let whole = rw (← c.self.view_is) at c.requires.whole in
    let fault_is = rw (← c.self.view_is) at c.join_fault.ensures in
    let few : (members_of c.self.inside.members.shown).next_federate ≤ 16 = few_joined _ _ _ (sym fault_is ∙ c.in_default.is) in
    omega (arith, few, whole.parts.federates)

pub admit-requires-2-clause-few : goal.admit-requires-2-clause-few
admit-requires-2-clause-few c =
    let fault_is = rw (← c.self.view_is) at c.join_fault.ensures in
    let few : (members_of c.self.inside.members.shown).next_federate ≤ 16 = few_joined _ _ _ (sym fault_is ∙ c.in_default.is) in
    rw c.in_ok-reserve_one.ensures.same few

pub returns-clause-whole : goal.returns-clause-whole
returns-clause-whole c =
    let whole = rw (← c.self.view_is) at c.requires.whole in
    let fault_is = rw (← c.self.view_is) at c.join_fault.ensures in
    let name : c.in_ok-member.member.shown.name ≡ c.args.name.now = ap (λ (m : MemberValue). m.name) c.in_ok-member.ensures.new in
    let members = rw (c.in_ok-reserve_one.ensures.same, name) at c.admit-2.ensures in
    let few = few_joined _ _ _ (sym fault_is ∙ c.in_default.is) in
    let peers = rw c.in_ok-reserve_one.ensures.same at c.in_ok-member.ensures.peers in
    record {
      parts = rw (c.in-Ok.ensures.ok, members) (whole_admitted _ _ _ c.args.name.now c.in_ok-member.member.shown.local whole.parts few
          (λ g beyond. rw peers (nobody_yet c.self.inside.members.shown g beyond)));
      named = λ f y. c.in_ok-next_name.ensures.ok ∙ ap default_name c.next_object.ensures.next;
    }

pub returns-clause-done : goal.returns-clause-done
returns-clause-done c =
    let sound = rw (← c.self.view_is) at c.requires in
    let fault_is = rw (← c.self.view_is) at c.join_fault.ensures in
    let name : c.in_ok-member.member.shown.name ≡ c.args.name.now = ap (λ (m : MemberValue). m.name) c.in_ok-member.ensures.new in
    let local = c.in_ok-member.member.shown.local in
    let peers = rw c.in_ok-reserve_one.ensures.same at c.in_ok-member.ensures.peers in
    let members = rw (c.in_ok-reserve_one.ensures.same, name) at c.admit-2.ensures in
    let old = members_of c.self.inside.members.shown in
    let after = with_member_admitted old c.args.name.now local in
    rw (← c.self.view_is) (does_next (state_from c.self.inside.catalogue (points_of c.self.inside.points) (declared.declarations_of c.self.inside.declarations) (registry_of c.self.inside.registry) (members_of c.self.inside.members.shown)) (Join c.args.name.now) (sym fault_is ∙ c.in_default.is)
    ∙ ap (λ (s : Components). answer_outcome (answer.Federate old.next_federate) s) (joined_state c.self.inside.catalogue (points_of c.self.inside.points) (declared.declarations_of c.self.inside.declarations) (registry_of c.self.inside.registry) (members_of c.self.inside.members.shown) c.args.name.now local sound.kept sound.whole.parts.unmet (nobody_at c.self.inside.members.shown) c.in_ok-member.ensures.local peers)
    ∙ ap (λ (n : ℕ). answer_outcome (answer.Federate n) (state_from c.self.inside.catalogue (points_of c.self.inside.points) (record (declared.declarations_of c.self.inside.declarations) { federates = (declared.declarations_of c.self.inside.declarations).federates + 1 }) (registry_of c.self.inside.registry) after)) (sym c.next_federate-federate.ensures.number)
    ∙ ap (λ (d : DeclarationsValue). answer_outcome (answer.Federate c.next_federate-federate.result) (state_from c.self.inside.catalogue (points_of c.self.inside.points) d (registry_of c.self.inside.registry) after)) (sym c.in-Ok.ensures.ok)
    ∙ ap (λ (t : MemberTables). answer_outcome (answer.Federate c.next_federate-federate.result) (state_from c.self.inside.catalogue (points_of c.self.inside.points) (declared.declarations_of c.admit.new.self) (registry_of c.self.inside.registry) t)) (sym members))
