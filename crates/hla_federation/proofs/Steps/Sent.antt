-- A federation's parts after messages were sent
use Rattle.std.proofs.Common.{◌≡◌, ℕ, ◌+◌, List, [], ◌∷◌, ◌++◌, length, cond, eqb, not, true, false, Bool, Option, None, Some, refl, sym, ap, subst, ◌∙◌, arith, ⊎_elim}
use Rattle.std.proofs.Math.Bool.{and-false}
use Rattle.std.proofs.lemmas.Bool.{cases_Bool}
use Rattle.std.proofs.lemmas.List.{append-nil, append_assoc}
use Rattle.std.proofs.Math.Path.{fun_ext}
use Rattle.hla_base.specs.declared.fault.Fault.{Fault}
use Rattle.hla_base.specs.declared.number.EventHandle.{EventHandle}
use Rattle.hla_base.specs.declared.row.TimeRow.{TimeRow}
use Rattle.hla_base.specs.Tables.{upd}
use Rattle.hla_declaration.specs.Declarations as declared
use Rattle.hla_machine.specs.Registered.{Registered, RegistryValue, registry_of}
use Rattle.hla_null_message.specs.declared.message.Message.{Message}
use Rattle.hla_machine.specs.declared.step.Answer.TheVariants as answer
use Rattle.hla_machine.specs.Directory.{Directory, Outgoing, default_name, without_object}
use Rattle.hla_machine.specs.Sends.{sent_handle}
use Rattle.hla_members.specs.declared.note.Note.{Note}
use Rattle.hla_members.specs.Noting.{with_noted, handle_noted}
use Rattle.hla_base.specs.RowRefusals.{Test, first_fault}
use Rattle.hla_members.specs.declared.direction.Direction.TheVariants.{From}
use Rattle.hla_components.specs.Components.{Components}
use Rattle.hla_synchronization.specs.OpenPoints.{points_of}
use Rattle.hla_federation.specs.FederationValue.{FederationValue}
use Rattle.hla_execution.specs.MemberValue.{item, MemberValue, MemberTables, members_of}
use Rattle.hla_null_message.proofs.Wires.{put_all-no_null}
use Rattle.hla_federation.proofs.Steps.NoNulls.{messages_no_null}
use Rattle.hla_members.specs.Putting.{wires_with}
use Rattle.hla_members.specs.Members.{wires_posted_below, is_number, AreQuiet}
use Rattle.hla_components.specs.Next.{answer_outcome, send_outcome, with_messages_sent, with_directory}
use Rattle.hla_federation.specs.Steps.Sending.{HasAdded, HasSent, heading_of, message_to, messages_to}
use Rattle.hla_federation.specs.Steps.State.{AreWhole, IsWhole, state_of, state_from}
use Rattle.hla_federation.proofs.Steps.Addressing.{joined_number}
use Rattle.hla_federation.proofs.Steps.SendingAll.{sent_wire, sent_events, sends_all}

-- ---- what is sent
pub one_said : (d : Directory) (f n m : ℕ) (r : TimeRow) (stamp : Option ℕ) (out : Outgoing) (h : ℕ) → n ≡ m → message_to d (heading_of f n r stamp out.order) out.body h ≡ messages_to d f m r stamp (out ∷ []) h
one_said d f n m r stamp out h same =
    ap (λ (k : ℕ). message_to d (heading_of f k r stamp out.order) out.body h) same
    ∙ sym (append-nil (message_to d (heading_of f m r stamp out.order) out.body h))

pub one_added : (d : Directory) (f n m : ℕ) (r : TimeRow) (stamp : Option ℕ) (out : Outgoing) (old new : List (List Message)) → AreQuiet old
    → HasAdded (message_to d (heading_of f n r stamp out.order) out.body) old new → n ≡ m → (h : ℕ) → item [] new h ≡ messages_to d f m r stamp (out ∷ []) h
one_added d f n m r stamp out old new quiet added same h =
    added h
    ∙ ap (λ (ms : List Message). ms ++ message_to d (heading_of f n r stamp out.order) out.body h) (quiet h)
    ∙ one_said d f n m r stamp out h same

messages_append : (d : Directory) (f n : ℕ) (r : TimeRow) (stamp : Option ℕ) (outs more : List Outgoing) (h : ℕ)
    → messages_to d f n r stamp (outs ++ more) h ≡ messages_to d f n r stamp outs h ++ messages_to d f (n + length outs) r stamp more h
messages_append d f n r stamp [] more h = let same : n + 0 ≡ n = omega arith in rw same refl
messages_append d f n r stamp (out ∷ outs) more h =
    let same : n + 1 + length outs ≡ n + length (out ∷ outs) = omega arith in
    let one = message_to d (heading_of f n r stamp out.order) out.body h in
    ap (λ (ms : List Message). one ++ ms) (messages_append d f (n + 1) r stamp outs more h ∙ ap (λ (k : ℕ). messages_to d f (n + 1) r stamp outs h ++ messages_to d f k r stamp more h) same)
    ∙ sym (append_assoc one (messages_to d f (n + 1) r stamp outs h) (messages_to d f (n + length (out ∷ outs)) r stamp more h))

pub two_said : (d : Directory) (f n m k : ℕ) (r : TimeRow) (stamp : Option ℕ) (outs more : List Outgoing) (h : ℕ) → n ≡ m → k ≡ n + length outs
    → messages_to d f n r stamp outs h ++ messages_to d f k r stamp more h ≡ messages_to d f m r stamp (outs ++ more) h
two_said d f n m k r stamp outs more h same next =
    ap (λ (j : ℕ). messages_to d f n r stamp outs h ++ messages_to d f j r stamp more h) next
    ∙ sym (messages_append d f n r stamp outs more h)
    ∙ ap (λ (j : ℕ). messages_to d f j r stamp (outs ++ more) h) same

-- who is not joined is sent nothing
nothing_to : (d : Directory) (f n : ℕ) (r : TimeRow) (stamp : Option ℕ) (outs : List Outgoing) (h : ℕ) → d.joined h ≡ false → messages_to d f n r stamp outs h ≡ []
nothing_to d f n r stamp [] h left = refl
nothing_to d f n r stamp (out ∷ outs) h left = rw (left, and-false (not (eqb f h))) (nothing_to d f (n + 1) r stamp outs h left)

-- ---- the wires after the messages were put on them
module _ (v : FederationValue) (f : ℕ) (stamp : Option ℕ) (outs : List Outgoing) (o : ℕ → List Message)
    (added : (h : ℕ) → o h ≡ messages_to (state_of v).directory f ((members_of v.members).serial f) ((state_of v).row f) stamp outs h) where
  wire_at : (g h : ℕ) → sent_wire (state_of v).directory f ((members_of v.members).serial f) ((state_of v).row f) stamp outs (members_of v.members).wire g h
      ≡ wires_posted_below (From f) o (members_of v.members).next_federate (members_of v.members).wire g h
  wire_at g h = ⊎_elim
      (λ (y : eqb f g ≡ true). ⊎_elim
      (λ (z : (members_of v.members).joined h ≡ true). let number = joined_number v.members h z in
      rw (y, number, added h) (sym (put_all-no_null (messages_to (state_of v).directory f ((members_of v.members).serial f) ((state_of v).row f) stamp outs h) ((members_of v.members).wire g h) (messages_no_null (state_of v).directory f ((members_of v.members).serial f) ((state_of v).row f) stamp outs h))))
      (λ (z : (members_of v.members).joined h ≡ false).
      let none = nothing_to (state_of v).directory f ((members_of v.members).serial f) ((state_of v).row f) stamp outs h z in
      let same = added h ∙ none in
      rw (y, none, same, append-nil ((members_of v.members).wire g h)) (sym (either (is_number (members_of v.members).next_federate h) ((members_of v.members).wire g h))))
      (cases_Bool ((members_of v.members).joined h)))
      (λ (no : eqb f g ≡ false). rw no refl)
      (cases_Bool (eqb f g))
    where
      either : (b : Bool) (ms : List Message) → cond b ms ms ≡ ms
      either true ms = refl
      either false ms = refl

  -- one receiver after another, they are what they are from an outbox
  pub wires_are : wires_with f o (members_of v.members).wire ≡ wires_posted_below (From f) o (members_of v.members).next_federate (members_of v.members).wire
  wires_are = fun_ext (λ g. fun_ext (λ h. ap (λ (ms : List Message). cond (eqb f g) ((members_of v.members).wire g h ++ ms) ((members_of v.members).wire g h)) (added h) ∙ wire_at g h))

-- ---- the state after the messages were put on their wires, counted and noted
module _ (v : FederationValue) (f n : ℕ) (stamp : Option ℕ) (outs : List Outgoing) (note : Option Note) (o : ℕ → List Message) (members : List MemberValue)
    (is : members_of members ≡ record (members_of v.members) { serial = upd (members_of v.members).serial f ((members_of v.members).serial f + n); wire = wires_posted_below (From f) o (members_of v.members).next_federate (members_of v.members).wire; sent = with_noted (members_of v.members).sent f note })
    (many : n ≡ length outs)
    (added : (h : ℕ) → o h ≡ messages_to (state_of v).directory f ((members_of v.members).serial f) ((state_of v).row f) stamp outs h)
    (noted : sent_events (state_of v).directory f ((members_of v.members).serial f) ((state_of v).row f) stamp outs (members_of v.members).sent ≡ with_noted (members_of v.members).sent f note) where
  pub sent_state : with_messages_sent (state_of v) f stamp outs ≡ state_of (record v { members = members })
  sent_state =
      let m = members_of v.members in
      let r = registry_of v.objects in
      let d = declared.declarations_of v.declarations in
      sends_all (state_of v) f stamp outs
      ∙ (λ i. state_from v.catalogue (points_of v.points) d r (record m {
        serial = upd m.serial f (m.serial f + sym many i);
        wire = fun_ext (λ g. fun_ext (λ h. wire_at v f stamp outs o added g h)) i;
        sent = noted i;
      }))
      ∙ ap (λ (t : MemberTables). state_from v.catalogue (points_of v.points) d r t) (sym is)

  pub sent_whole : IsWhole v → (objects : List Registered) → (registry_of objects).next_object ≡ (registry_of v.objects).next_object → IsWhole (record v { objects = objects; members = members })
  sent_whole whole objects same = record {
    parts = subst (λ (t : MemberTables). AreWhole v.catalogue (declared.declarations_of v.declarations) t) (sym is) (record {
      few = whole.parts.few;
      federates = whole.parts.federates;
      object_classes = whole.parts.object_classes;
      interaction_classes = whole.parts.interaction_classes;
      silent = whole.parts.silent;
      unmet = whole.parts.unmet;
    });
    named = subst (λ (t : MemberTables). (g : ℕ) → t.joined g ≡ true → v.next_name ≡ default_name (registry_of objects).next_object) (sym is)
        (λ g y. whole.named g y ∙ ap default_name (sym same));
  }

  -- with the handle of the one that may be retracted
  pub sends_done : sent_handle f ((state_of v).row f) stamp ((members_of v.members).serial f) outs ≡ handle_noted f note
      → send_outcome (state_of v) f stamp outs ≡ answer_outcome (answer.Sent (handle_noted f note)) (state_of (record v { members = members }))
  sends_done handle =
      ap (λ (x : Option EventHandle). answer_outcome (answer.Sent x) (with_messages_sent (state_of v) f stamp outs)) handle
      ∙ ap (λ (s : Components). answer_outcome (answer.Sent (handle_noted f note)) s) sent_state

  -- and an object does not exist any more
  pub deletes_state : (object : ℕ) (objects : List Registered)
      → registry_of objects ≡ record (registry_of v.objects) { object = upd (registry_of v.objects).object object (record ((registry_of v.objects).object object) { exists = false }) }
      → with_directory (with_messages_sent (state_of v) f stamp outs) (without_object (with_messages_sent (state_of v) f stamp outs).directory object) ≡ state_of (record v { objects = objects; members = members })
  deletes_state object objects gone =
      ap (λ (s : Components). with_directory s (without_object s.directory object)) sent_state
      ∙ ap (λ (r : RegistryValue). state_from v.catalogue (points_of v.points) (declared.declarations_of v.declarations) r (members_of members)) (sym gone)

-- ---- the members after messages were put on the wires one by one, and then counted and noted
pub counted_is : (v w : FederationValue) (f n : ℕ) (stamp : Option ℕ) (outs : List Outgoing) (note : Option Note) (o : ℕ → List Message) (members : List MemberValue)
    → HasSent f o v w → ((h : ℕ) → o h ≡ messages_to (state_of v).directory f ((members_of v.members).serial f) ((state_of v).row f) stamp outs h)
    → members_of members ≡ record (members_of w.members) { serial = upd (members_of w.members).serial f ((members_of w.members).serial f + n); sent = with_noted (members_of w.members).sent f note }
    → members_of members ≡ record (members_of v.members) { serial = upd (members_of v.members).serial f ((members_of v.members).serial f + n); wire = wires_posted_below (From f) o (members_of v.members).next_federate (members_of v.members).wire; sent = with_noted (members_of v.members).sent f note }
counted_is v w f n stamp outs note o members sent added is =
    is
    ∙ ap (λ (t : MemberTables). record t { serial = upd t.serial f (t.serial f + n); sent = with_noted t.sent f note }) sent.1
    ∙ ap (λ (x : ℕ → ℕ → List Message). record (members_of v.members) { serial = upd (members_of v.members).serial f ((members_of v.members).serial f + n); wire = x; sent = with_noted (members_of v.members).sent f note }) (wires_are v f stamp outs o added)

-- ---- where nothing is refused, no test applies
abbrev pub NoneApplies : List Test → Type 0
NoneApplies [] = Unit {0}
NoneApplies (t ∷ ts) = (t.applies ≡ false) × NoneApplies ts

cond_none : (b : Bool) (e : Fault) (o : Option Fault) → cond b (Some e) o ≡ None → (b ≡ false) × (o ≡ None)
cond_none true e o none = absurd (cc)
cond_none false e o none = (refl, none)

pub none_applies : (ts : List Test) → first_fault ts ≡ None → NoneApplies ts
none_applies [] none = tt
none_applies (t ∷ ts) none = let parts = cond_none t.applies t.fault (first_fault ts) none in (parts.0, none_applies ts parts.1)
