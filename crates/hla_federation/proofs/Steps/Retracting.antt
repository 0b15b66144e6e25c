-- Retractions, and the parts after one was sent
use Rattle.std.proofs.Common.{◌≡◌, ◌≤◌, ◌<◌, ◌+◌, ℕ, zero, suc, cond, eqb, ltb, not, ◌&&◌, Bool, true, false, None, List, [], ◌∷◌, ◌++◌, length, refl, sym, ap, subst, ◌∙◌, ⊎_elim, arith}
use Rattle.std.proofs.Math.Bool.{and-false}
use Rattle.std.proofs.lemmas.Bool.{cases_Bool, and_parts}
use Rattle.std.proofs.lemmas.Bool.Decides.{nat_tests}
use Rattle.std.proofs.Math.Path.{fun_ext}
use Rattle.hla_base.specs.Tables.{upd_row, is_other}
use Rattle.hla_declaration.specs.Declarations as declared
use Rattle.hla_base.specs.declared.number.EventHandle.{EventHandle}
use Rattle.hla_null_message.specs.declared.message.Message.{Message}
use Rattle.hla_null_message.specs.declared.message.Message.TheVariants as message
use Rattle.hla_null_message.specs.Wires.{put_all_behind}
use Rattle.hla_retraction.specs.SentEvents.{may_retract}
use Rattle.hla_machine.specs.Refusals.{refusal, tests}
use Rattle.hla_machine.specs.declared.service.Service.TheVariants as service
use Rattle.hla_machine.specs.declared.step.Step.TheVariants.{Call}
use Rattle.hla_components.specs.Components.{Components}
use Rattle.hla_components.specs.Next.{components_seen}
use Rattle.hla_members.specs.declared.direction.Direction.TheVariants.{From}
use Rattle.hla_federation.specs.FederationValue.{FederationValue}
use Rattle.hla_execution.specs.MemberValue.{MemberValue, MemberTables, members_of}
use Rattle.hla_members.specs.Members.{is_number, wires_posted_below, with_retraction_sent}
use Rattle.hla_members.specs.Noting.{with_retracted}
use Rattle.hla_federation.specs.Steps.Sending.{retraction_to}
use Rattle.hla_federation.specs.Steps.State.{AreWhole, IsWhole, state_of}
use Rattle.hla_federation.proofs.Steps.Addressing.{joined_within}
use Rattle.hla_federation.proofs.Steps.Resigning.{other_joined}
use Rattle.hla_federation.proofs.Steps.Sent.{none_applies}

cond-same : {X : Type 0} (b : Bool) (x : X) → cond b x x ≡ x
cond-same true x = refl
cond-same false x = refl

-- ---- what is addressed, federate by federate
module _ (v : FederationValue) (f k : ℕ) where
  pub retraction_first : (h : ℕ) → cond (ltb h 1) (retraction_to (state_of v) f k h) [] ≡ []
  retraction_first zero = let nobody : is_other (state_of v).directory.joined f 0 ≡ false = and-false (not (eqb f 0)) in rw nobody (cond-same (ltb 0 1) [])
  retraction_first (suc n) = let past : ltb (suc n) 1 ≡ false = grind (arith, nat_tests) in rw past refl

  pub retraction_last : (end h : ℕ) → length v.members + 1 ≤ end → cond (ltb h end) (retraction_to (state_of v) f k h) [] ≡ retraction_to (state_of v) f k h
  retraction_last end h all = ⊎_elim
      (λ (y : (members_of v.members).joined h ≡ true). let b = joined_within v.members h y in let below : h < end = omega (arith, b, all) in let now : ltb h end ≡ true = grind (arith, nat_tests) in rw now refl)
      (λ (n : (members_of v.members).joined h ≡ false). rw (n, and-false (not (eqb f h))) (cond-same (ltb h end) []))
      (cases_Bool ((members_of v.members).joined h))

-- ---- what is posted is what is sent
pub retraction_posted : (m : MemberTables) (f k : ℕ) (o : ℕ → List Message) → ((h : ℕ) → o h ≡ cond (is_other m.joined f h && (m.sent f k).receivers h) (message.Retraction k ∷ []) [])
    → ((h : ℕ) → m.joined h ≡ true → is_number m.next_federate h ≡ true) → wires_posted_below (From f) o m.next_federate m.wire ≡ (with_retraction_sent m f k).wire
unfolding upd_row
retraction_posted m f k o is numbers = fun_ext (λ g. fun_ext (λ h. at g h))
  where
    behind : (b : Bool) (ms : List Message) → put_all_behind (cond b (message.Retraction k ∷ []) []) ms ≡ cond b (ms ++ message.Retraction k ∷ []) ms
    behind true ms = refl
    behind false ms = refl

    at : (g h : ℕ) → wires_posted_below (From f) o m.next_federate m.wire g h ≡ (with_retraction_sent m f k).wire g h
    at g h = ⊎_elim
        (λ (y : eqb f g ≡ true). ⊎_elim
        (λ (z : is_other m.joined f h ≡ true).
        let number = numbers h (other_joined m.joined f h z) in
        let sends : o h ≡ cond ((m.sent f k).receivers h) (message.Retraction k ∷ []) [] = is h ∙ ap (λ (b : Bool). cond (b && (m.sent f k).receivers h) (message.Retraction k ∷ []) []) z in
        rw (y, z, number, sends) (behind ((m.sent f k).receivers h) (m.wire g h)))
        (λ (z : is_other m.joined f h ≡ false).
        let nothing : o h ≡ [] = is h ∙ ap (λ (b : Bool). cond (b && (m.sent f k).receivers h) (message.Retraction k ∷ []) []) z in
        ⊎_elim
        (λ (b : is_number m.next_federate h ≡ true). rw (y, z, b, nothing) refl)
        (λ (b : is_number m.next_federate h ≡ false). rw (y, z, b) refl)
        (cases_Bool (is_number m.next_federate h)))
        (cases_Bool (is_other m.joined f h)))
        (λ (n : eqb f g ≡ false). rw n refl)
        (cases_Bool (eqb f g))

-- ---- the parts behind a retraction
abbrev pub after_retraction : MemberTables → ℕ → ℕ → MemberTables
after_retraction m f k = record (with_retraction_sent m f k) { sent = with_retracted m.sent f k }

pub retracted_whole : (v : FederationValue) (f k : ℕ) (ms : List MemberValue) → IsWhole v → members_of ms ≡ after_retraction (members_of v.members) f k → IsWhole (record v { members = ms })
retracted_whole v f k ms whole is = record {
  parts = subst (λ (t : MemberTables). AreWhole v.catalogue (declared.declarations_of v.declarations) t) (sym is) (record {
    few = whole.parts.few;
    federates = whole.parts.federates;
    object_classes = whole.parts.object_classes;
    interaction_classes = whole.parts.interaction_classes;
    silent = whole.parts.silent;
    unmet = whole.parts.unmet;
  });
  named = λ g y. whole.named g (ap (λ (t : MemberTables). t.joined g) (sym is) ∙ y);
}

-- ---- what is not refused was sent by its sender, and may be retracted
pub retractable_unless_refused : (s : Components) (f : ℕ) (event : EventHandle) → refusal (components_seen s) (Call f (service.Retract event)) ≡ None → (s.sent f event.serial).retractable ≡ true
retractable_unless_refused s f event none =
    let test = (none_applies (tests (components_seen s) (Call f (service.Retract event))) none).1.0 in
    let accepted = and_parts (eqb event.sender f) (may_retract (s.row f) (s.sent f event.serial)) (turned _ test) in
    (and_parts _ _ (and_parts _ _ (and_parts _ _ accepted.1).0).0).1
  where
    turned : (b : Bool) → not b ≡ false → b ≡ true
    turned true is = refl
    turned false is = absurd (cc)
