-- Federates are numbered from 1
use Rattle.std.proofs.Common.{◌≡◌, ◌≢◌, ℕ, ◌≤◌, ◌∙◌, ltb, ◌&&◌, [], ◌∷◌, true, false, refl, sym, subst, ⊎_elim, arith, List, Option, Some, None}
use Rattle.std.proofs.lemmas.Bool.{cases_eq, cond_both}
use Rattle.hla_base.specs.declared.fault.Fault.{Fault}
use Rattle.hla_base.specs.Rows.{is_regulator}
use Rattle.hla_base.specs.Tables.{upd}
use Rattle.hla_base.proofs.Tables.{upd_same, upd_other}
use Rattle.hla_machine.specs.declared.service.Service.{Service}
use Rattle.hla_machine.specs.declared.service.Service.TheVariants as service
use Rattle.hla_machine.specs.declared.service.ResignAction.TheVariants.{ReleaseAttributes, DeleteObjects, DeleteObjectsAndReleaseAttributes, NoAction}
use Rattle.hla_machine.specs.declared.step.Step.{Step}
use Rattle.hla_machine.specs.declared.step.Step.TheVariants.{Join, Call, Carry, Announce, Tick}
use Rattle.hla_machine.specs.Directory.{Directory, Outgoing, objects_of, update_sent, interaction_sent, deletion_sent, deletions_sent}
use Rattle.hla_machine.specs.declared.step.Answer.TheVariants as answer
use Rattle.hla_machine.specs.Refusals.{refusal}
use Rattle.hla_component_rules.specs.Picking.{Pick, PickControl}
use Rattle.hla_component_rules.specs.declared.control.Control.TheVariants.{ToDiscover, ToRetract, ToTell}
use Rattle.hla_null_message.specs.declared.message.Message.{Message}
use Rattle.hla_null_message.specs.declared.message.Message.TheVariants as message
use Rattle.hla_components.specs.Components.{Components, new_components}
use Rattle.hla_components.specs.Component.{promise}
use Rattle.hla_components.specs.Next.{Outcomes, answer_outcome, next, step_outcome, call_outcome, carry_outcome, pick_outcome, unless_refused, components_seen, with_messages_sent, with_message_sent, with_null_announced}
use Rattle.hla_components.specs.Headline.{IsLedTo, state_after}

pub record IsNumbered (d : Directory) : Type 0 where
  pub next : 1 ≤ d.next_federate
  pub nobody : d.joined 0 ≡ false

left_nobody : (d : Directory) (f : ℕ) → IsNumbered d → upd d.joined f false 0 ≡ false
left_nobody d f n = ⊎_elim (λ (e : f ≡ 0). rw (e, upd_same) refl) (λ (ne : f ≢ 0). upd_other d.joined f false 0 ne ∙ n.nobody) (cases_eq f 0)

numbered_sent : (s : Components) (f : ℕ) (stamp : Option ℕ) (outs : List Outgoing) → IsNumbered s.directory → IsNumbered (with_messages_sent s f stamp outs).directory
numbered_sent s f stamp [] n = n
numbered_sent s f stamp (out ∷ outs) n = numbered_sent (with_message_sent s f stamp out) f stamp outs n

numbered_call : (s : Components) (f : ℕ) (x : Service) → IsNumbered s.directory → IsNumbered (call_outcome s f x).state.directory
numbered_call s f (service.Resign DeleteObjects) n = let t = numbered_sent s f None (deletions_sent (objects_of s.directory f)) n in
    record { next = t.next; nobody = left_nobody (with_messages_sent s f None (deletions_sent (objects_of s.directory f))).directory f t }
numbered_call s f (service.Resign NoAction) n = record { next = n.next; nobody = left_nobody s.directory f n }
numbered_call s f (service.Resign ReleaseAttributes) n = n
numbered_call s f (service.Resign DeleteObjectsAndReleaseAttributes) n = n
numbered_call s f (service.UpdateAttributeValues object values stamp) n = numbered_sent s f stamp (update_sent s.directory object values) n
numbered_call s f (service.SendInteraction class values stamp) n = numbered_sent s f stamp (interaction_sent s.directory f class values) n
numbered_call s f (service.DeleteObjectInstance object stamp) n = let t = numbered_sent s f stamp (deletion_sent s.directory object) n in record { next = t.next; nobody = t.nobody }
numbered_call s f x n = record { next = n.next; nobody = n.nobody }

numbered_carry : (s : Components) (g f : ℕ) (ms : List Message) → IsNumbered s.directory → IsNumbered (carry_outcome s g f ms).state.directory
numbered_carry s g f [] n = n
numbered_carry s g f (message.Event e ∷ ms) n = n
numbered_carry s g f (message.Null k v ∷ ms) n = n
numbered_carry s g f (message.Retraction m ∷ ms) n = n
numbered_carry s g f (message.Discovery d ∷ ms) n = n

numbered_pick : (s : Components) (f : ℕ) (p : Pick) → IsNumbered s.directory → IsNumbered (pick_outcome s f p).state.directory
numbered_pick s f (PickControl (ToDiscover from d) rest) n = n
numbered_pick s f (PickControl (ToRetract e) rest) n = n
numbered_pick s f (PickControl (ToTell x) rest) n = record { next = n.next; nobody = n.nobody }
numbered_pick s f p n = n

numbered_done : (s : Components) (step : Step) → IsNumbered s.directory → IsNumbered (step_outcome s step).state.directory
numbered_done s (Join name) n = record { next = omega (arith, n.next); nobody = upd_other s.directory.joined s.directory.next_federate true 0 (λ (e : s.directory.next_federate ≡ 0). omega (arith, n.next)) ∙ n.nobody }
numbered_done s (Call f x) n = numbered_call s f x n
numbered_done s (Carry g f) n = numbered_carry s g f (s.wire g f) n
numbered_done s (Announce f) n = cond_both (is_regulator (s.row f) && ltb (s.last_announced f) (promise s f)) (answer_outcome (answer.Announced (Some (promise s f))) (with_null_announced s f (promise s f))) (answer_outcome (answer.Announced None) s) (λ (o : Outcomes). IsNumbered o.state.directory) (λ _. n) (λ _. n)
numbered_done s (Tick f) n = numbered_pick s f _ n

pub numbered_unless : (s : Components) (step : Step) (o : Option Fault) → IsNumbered s.directory → IsNumbered (unless_refused o s (step_outcome s step)).state.directory
numbered_unless s step None n = numbered_done s step n
numbered_unless s step (Some e) n = n

numbered_after : (s : Components) (steps : List Step) → IsNumbered s.directory → IsNumbered (state_after s steps).directory
numbered_after s [] n = n
numbered_after s (step ∷ steps) n = numbered_after (next s step).state steps (numbered_unless s step (refusal (components_seen s) step) n)

-- who is joined has a number of at least 1
pub joined_from_one : (s : Components) (f : ℕ) → IsLedTo s → s.directory.joined f ≡ true → 1 ≤ f
joined_from_one s f is member = ⊎_elim (λ (e : f ≡ 0). let n = numbered_after (new_components is.catalogue) is.steps (record { next = omega arith; nobody = refl }) in
    let none : s.directory.joined 0 ≡ false = subst (λ (t : Components). t.directory.joined 0 ≡ false) (sym is.state) n.nobody in
    let there : s.directory.joined 0 ≡ true = subst (λ g. s.directory.joined g ≡ true) e member in absurd (cc))
    (λ (ne : f ≢ 0). omega arith) (cases_eq f 0)
