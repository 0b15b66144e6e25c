use Rattle.hla_base.specs.Limits.{largest_number}
use Rattle.std.proofs.Common.{◌≡◌, ◌+◌, ◌≤◌, ◌++◌, None, List, [], ℕ, Bool, false, length, sym, ap, subst, ◌∙◌, arith}
use Rattle.hla_declaration.specs.Declarations as declared
use Rattle.hla_machine.specs.Registered.{registry_of, RegistryValue}
use Rattle.hla_machine.specs.declared.service.Service.TheVariants as service
use Rattle.hla_machine.specs.declared.step.Step.TheVariants.{Call}
use Rattle.hla_machine.specs.declared.step.Answer.TheVariants as answer
use Rattle.hla_machine.specs.Directory.{default_name, deletions_sent, objects_of}
use Rattle.hla_machine.specs.Refusals.{refusal}
use Rattle.hla_components.specs.Components.{Components}
use Rattle.hla_synchronization.specs.OpenPoints.{points_of}
use Rattle.hla_federation.specs.FederationValue.{FederationValue}
use Rattle.hla_base.specs.declared.notice.Notice.{Notice}
use Rattle.hla_base.specs.Tables.{upd}
use Rattle.hla_synchronization.specs.OpenPoints.{members_in}
use Rattle.hla_members.specs.declared.direction.Direction.TheVariants.{From}
use Rattle.hla_execution.specs.MemberValue.{item, MemberValue, MemberTables, members_of}
use Rattle.hla_members.specs.Members.{with_member_withdrawn, wires_posted_below}
use Rattle.hla_members.specs.Telling.{with_all_told}
use Rattle.hla_members.proofs.MemberTables.{past}
use Rattle.hla_federation.proofs.Steps.Notifying.{members_are, withdrawn_away, whole_told}
use Rattle.hla_components.specs.Next.{answer_outcome, components_seen, with_federate_gone, with_messages_sent}
use Rattle.hla_members.specs.Noting.{IsUnsentFrom}
use Rattle.hla_federation.specs.Steps.Sending.{messages_to, last_null_to}
use Rattle.hla_federation.specs.Steps.State.{state_of, state_from, directory_from}
use Rattle.hla_federation.proofs.Steps.Doing.{does_next}
use Rattle.hla_federation.proofs.Steps.Noting.{unsent_from}
use Rattle.hla_federation.proofs.Steps.Resigning.{resign_serials, resigned_state, resign_ways, joined_before, joined_below}
use Rattle.hla_federation.proofs.Steps.Wholes.{whole_withdrawn}
use Rattle.hla_federation.proofs.parts.Parts.resign.Goals as goal

pub returns-clause-whole : goal.returns-clause-whole
returns-clause-whole c =
    let whole = rw (← c.self.view_is) at c.requires.sound.whole in
    let old = members_of c.self.inside.members.shown in
    let new = c.resign.ensures ∙ ap (λ (t : MemberTables). with_member_withdrawn t c.args.federate) c.in_ok-send_and_tell_all.ensures.ok in
    let joined = ap (λ (t : MemberTables). t.joined) new in
    record {
      parts = rw c.withdraw.ensures (whole_withdrawn _ _ (with_all_told c.as_slice-2.result.now old) _ c.args.federate (whole_told _ _ old c.as_slice-2.result.now whole.parts) (ap (λ (t : MemberTables). t.next_federate) new) joined (ap (λ (t : MemberTables). t.local) new));
      named = λ g y. whole.named g (joined_before old.joined c.args.federate g (ap (λ (j : ℕ → Bool). j g) (sym joined) ∙ y)) ∙ ap (λ (r : RegistryValue). default_name r.next_object) (sym c.delete_owned_by.ensures);
    }

pub returns-clause-done : goal.returns-clause-done
returns-clause-done c =
    let f = c.args.federate in
    let none : refusal (components_seen (state_of c.args.self.now)) (Call f (service.Resign c.args.action)) ≡ None = sym c.resign_fault.ensures ∙ c.in_default.is in
    let old = members_of c.self.inside.members.shown in
    let hs = c.in_ok-objects.objects in
    let o = item [] c.in_ok-parting.field-0 in
    let is : (h : ℕ) → o h ≡ messages_to (directory_from c.self.inside.catalogue (points_of c.self.inside.points) (declared.declarations_of c.self.inside.declarations) (registry_of c.self.inside.registry) (members_of c.self.inside.members.shown)) f (old.serial f) (old.local f).row None (deletions_sent hs) h ++ last_null_to (state_from c.self.inside.catalogue (points_of c.self.inside.points) (declared.declarations_of c.self.inside.declarations) (registry_of c.self.inside.registry) (members_of c.self.inside.members.shown)) f h = subst (λ (v : FederationValue). (h : ℕ) → o h ≡ messages_to (state_of v).directory f (old.serial f) ((state_of v).row f) None (deletions_sent hs) h ++ last_null_to (state_of v) f h) (sym c.self.view_is)
    (rw (c.as_slice.ensures, c.next_serial-serial.ensures) at c.in_ok-parting.ensures.ok) in
    let sent = rw c.len-count.ensures at c.in_ok-send_and_tell_all.ensures.ok in
    let unsent = subst (λ (v : FederationValue). IsUnsentFrom ((members_of v.members).sent f) ((members_of v.members).serial f)) (sym c.self.view_is) (unsent_from c.args.self.now f c.requires.sound.kept) in
    let ps = points_of c.self.inside.points in
    let ms = members_in c.joined_but-others.result in
    let notices = c.as_slice-2.ensures.value ∙ c.in_ok-closings.ensures.ok in
    let after : List Notice → MemberTables = λ ns. with_member_withdrawn (record (with_all_told ns old) { serial = upd old.serial f (old.serial f + length hs); wire = wires_posted_below (From f) o old.next_federate old.wire }) f in
    let members = c.resign.ensures ∙ ap (λ (t : MemberTables). with_member_withdrawn t f) sent ∙ ap after notices in
    let away : (g : ℕ) → old.next_federate ≤ g → old.joined g ≡ false = λ g beyond. ap (λ (m : MemberValue). m.joined) (past c.self.inside.members.shown g beyond) in
    let whole = rw (← c.self.view_is) at c.requires.sound.whole in
    let listed = members_are c.self.inside.catalogue ps (declared.declarations_of c.self.inside.declarations) (registry_of c.self.inside.registry) (after []) c.joined_but-others.result whole.parts.few (withdrawn_away old.joined old.next_federate f away) c.joined_but-others.ensures in
    let new = state_from c.self.inside.catalogue (points_of c.close.new.self) (declared.declarations_of c.withdraw.new.self) (registry_of c.delete_owned_by.new.self) (members_of c.resign.new.self.shown) in
    let left : with_federate_gone (with_messages_sent (state_from c.self.inside.catalogue (points_of c.self.inside.points) (declared.declarations_of c.self.inside.declarations) (registry_of c.self.inside.registry) (members_of c.self.inside.members.shown)) f None (deletions_sent (objects_of (directory_from c.self.inside.catalogue (points_of c.self.inside.points) (declared.declarations_of c.self.inside.declarations) (registry_of c.self.inside.registry) (members_of c.self.inside.members.shown)) f))) f ≡ new
    = ap (λ (ks : List ℕ). with_federate_gone (with_messages_sent (state_from c.self.inside.catalogue (points_of c.self.inside.points) (declared.declarations_of c.self.inside.declarations) (registry_of c.self.inside.registry) (members_of c.self.inside.members.shown)) f None (deletions_sent ks)) f) (sym c.in_ok-objects.ensures.ok)
    ∙ resigned_state c.self.inside.catalogue (points_of c.self.inside.points) (declared.declarations_of c.self.inside.declarations) (registry_of c.self.inside.registry) (members_of c.self.inside.members.shown) f hs o is (joined_below c.self.inside.members.shown) unsent ms listed
    ∙ (λ i. state_from c.self.inside.catalogue (sym c.close.ensures i) (sym c.withdraw.ensures i) (sym c.delete_owned_by.ensures i) (sym members i)) in
    does_next (state_of c.args.self.now) (Call f (service.Resign c.args.action)) none
    ∙ ap (λ (s : Components). answer_outcome answer.Done s) (resign_ways (state_of c.args.self.now) f c.args.action none
    ∙ subst (λ (v : FederationValue). with_federate_gone (with_messages_sent (state_of v) f None (deletions_sent (objects_of (state_of v).directory f))) f ≡ new) c.self.view_is left)

pub parting-parting-requires-clause-serials : goal.parting-parting-requires-clause-serials
parting-parting-requires-clause-serials c =
    let f = c.args.federate in
    let none : refusal (components_seen (state_of c.args.self.now)) (Call f (service.Resign c.args.action)) ≡ None = sym c.resign_fault.ensures ∙ c.in_default.is in
    let small : (members_of c.self.inside.members.shown).serial f ≤ largest_number = rw (← c.next_serial-serial.ensures) (omega (arith, c.next_serial-serial.type_inv)) in
    let now = resign_serials (components_seen (state_of c.args.self.now)) f c.args.action (subst (λ (v : FederationValue). (members_of v.members).serial f ≤ largest_number) c.self.view_is small) none in
    let inside = subst (λ (v : FederationValue). (members_of v.members).serial f + length (objects_of (state_of v).directory f) ≤ largest_number) (sym c.self.view_is) now in
    rw (c.as_slice.ensures, c.next_serial-serial.ensures, c.in_ok-objects.ensures.ok) inside

pub send_and_tell_all-requires-clause-serials : goal.send_and_tell_all-requires-clause-serials
send_and_tell_all-requires-clause-serials c =
    let f = c.args.federate in
    let none : refusal (components_seen (state_of c.args.self.now)) (Call f (service.Resign c.args.action)) ≡ None = sym c.resign_fault.ensures ∙ c.in_default.is in
    let small : (members_of c.self.inside.members.shown).serial f ≤ largest_number = rw (← c.next_serial-serial.ensures) (omega (arith, c.next_serial-serial.type_inv)) in
    let now = resign_serials (components_seen (state_of c.args.self.now)) f c.args.action (subst (λ (v : FederationValue). (members_of v.members).serial f ≤ largest_number) c.self.view_is small) none in
    let inside = subst (λ (v : FederationValue). (members_of v.members).serial f + length (objects_of (state_of v).directory f) ≤ largest_number) (sym c.self.view_is) now in
    rw (c.len-count.ensures, c.in_ok-objects.ensures.ok) inside
