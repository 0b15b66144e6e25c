-- What a component knows of itself, and of the number 0, is FOREVER
use Rattle.std.proofs.Common.{◌≡◌, ◌≢◌, inl, inr, ℕ, ◌+◌, min, eqb, ltb, not, ◌&&◌, ◌||◌, Bool, true, false, refl, sym, ◌∙◌, subst, ⊎_elim, arith, eq-eqb, List, [], ◌∷◌, Option, Some, None}
use Rattle.std.proofs.lemmas.Bool.{cases_eq, cases_Bool, cond_both}
use Rattle.std.proofs.lemmas.Bool.Decides.{nat_tests}
use Rattle.hla_base.specs.declared.fault.Fault.{Fault}
use Rattle.hla_base.specs.Rows.{is_regulator}
use Rattle.hla_base.specs.Tables.{forever, upd_column, upd_new, is_other}
use Rattle.hla_base.proofs.Tables.{by_number, upd2_other, upd_column_self, upd_column_other, upd_new_here, upd_new_else}
use Rattle.hla_lbts.specs.Peers.{null_bound}
use Rattle.hla_null_message.specs.declared.message.Message.{Message}
use Rattle.hla_null_message.specs.declared.message.Message.TheVariants as message
use Rattle.hla_component_rules.specs.declared.control.Control.TheVariants.{ToDiscover, ToRetract, ToTell}
use Rattle.hla_component_rules.specs.Picking.{Pick, PickControl}
use Rattle.hla_machine.specs.declared.service.Service.{Service}
use Rattle.hla_machine.specs.declared.service.Service.TheVariants as service
use Rattle.hla_machine.specs.declared.service.ResignAction.TheVariants.{ReleaseAttributes, DeleteObjects, DeleteObjectsAndReleaseAttributes, NoAction}
use Rattle.hla_machine.specs.declared.step.Step.{Step}
use Rattle.hla_machine.specs.declared.step.Step.TheVariants.{Join, Call, Carry, Announce, Tick}
use Rattle.hla_machine.specs.declared.step.Answer.TheVariants as answer
use Rattle.hla_machine.specs.Directory.{Outgoing, objects_of, update_sent, interaction_sent, deletion_sent, deletions_sent}
use Rattle.hla_machine.specs.Refusals.{refusal, tests}
use Rattle.hla_machine.proofs.Basics.Tests.{caller_joined, all_clear}
use Rattle.hla_components.specs.Components.{Components, new_components}
use Rattle.hla_components.specs.Component.{promise, regulation_entry}
use Rattle.hla_components.specs.Invariant.{Inv}
use Rattle.hla_components.specs.Next.{Outcomes, answer_outcome, next, step_outcome, call_outcome, carry_outcome, pick_outcome, unless_refused, components_seen, with_messages_sent, with_message_sent, with_null_announced}
use Rattle.hla_components.specs.Headline.{IsLedTo, state_after}
use Rattle.hla_components.proofs.Refinement.Runs.{each_step, inv_start}
use Rattle.hla_progress.specs.Promises.{KeepsPromises}
use Rattle.hla_progress.proofs.Keeping.Members.{unheard}
use Rattle.hla_progress.proofs.Keeping.Numbers.{IsNumbered, numbered_unless}
use Rattle.hla_progress.proofs.Keeping.Steps.{next_keeps, keeps_start}

pub record IsOwn (bound : ℕ → ℕ → ℕ) : Type 0 where
  pub own : (f : ℕ) → bound f f ≡ forever
  pub nobody : (f : ℕ) → bound f 0 ≡ forever

own_sent : (s : Components) (f : ℕ) (stamp : Option ℕ) (outs : List Outgoing) → IsOwn s.bound → IsOwn (with_messages_sent s f stamp outs).bound
own_sent s f stamp [] o = o
own_sent s f stamp (out ∷ outs) o = own_sent (with_message_sent s f stamp out) f stamp outs o

not_zero : (s : Components) (f : ℕ) → IsNumbered s.directory → s.directory.joined f ≡ true → f ≢ 0
not_zero s f n member e = let there : s.directory.joined 0 ≡ true = subst (λ g. s.directory.joined g ≡ true) e member in let none = n.nobody in absurd (cc)

not_other_self : (members : ℕ → Bool) (f : ℕ) → is_other members f f ≡ false
not_other_self members f = rw (eq-eqb f f refl) refl

own_enabled : (s : Components) (f e : ℕ) → f ≢ 0 → IsOwn s.bound → IsOwn (upd_column s.bound s.directory.joined f (λ b. min b e))
own_enabled s f e ne o = record {
  own = by_number f _ (upd_column_self s.bound s.directory.joined f (λ b. min b e) f (not_other_self s.directory.joined f) ∙ o.own f) (λ g a. upd_column_other s.bound s.directory.joined f (λ b. min b e) g g a ∙ o.own g);
  nobody = λ g. upd_column_other s.bound s.directory.joined f (λ b. min b e) g 0 ne ∙ o.nobody g;
}

own_call : (s : Components) (f : ℕ) (x : Service) → IsNumbered s.directory → s.directory.joined f ≡ true → IsOwn s.bound → IsOwn (call_outcome s f x).state.bound
own_call s f (service.Resign DeleteObjects) n member o = own_sent s f None (deletions_sent (objects_of s.directory f)) o
own_call s f (service.Resign NoAction) n member o = o
own_call s f (service.Resign ReleaseAttributes) n member o = o
own_call s f (service.Resign DeleteObjectsAndReleaseAttributes) n member o = o
own_call s f (service.UpdateAttributeValues object values stamp) n member o = own_sent s f stamp (update_sent s.directory object values) o
own_call s f (service.SendInteraction class values stamp) n member o = own_sent s f stamp (interaction_sent s.directory f class values) o
own_call s f (service.DeleteObjectInstance object stamp) n member o = own_sent s f stamp (deletion_sent s.directory object) o
own_call s f (service.EnableTimeRegulation time lookahead) n member o = own_enabled s f (regulation_entry s f (time + lookahead)) (not_zero s f n member) o
own_call s f x n member o = o

own_carry : (s : Components) (g f : ℕ) (ms : List Message) → g ≢ f → g ≢ 0 → IsOwn s.bound → IsOwn (carry_outcome s g f ms).state.bound
own_carry s g f [] a b o = o
own_carry s g f (message.Event e ∷ ms) a b o = o
own_carry s g f (message.Null k v ∷ ms) a b o = let x = null_bound (s.known_epoch f g) (s.bound f g) k v in record {
  own = λ h. upd2_other s.bound f g x h h (⊎_elim (λ (e : f ≡ h). inr (λ (y : g ≡ h). a (y ∙ sym e))) (λ (ne : f ≢ h). inl ne) (cases_eq f h)) ∙ o.own h;
  nobody = λ h. upd2_other s.bound f g x h 0 (inr b) ∙ o.nobody h;
}
own_carry s g f (message.Retraction m ∷ ms) a b o = o
own_carry s g f (message.Discovery d ∷ ms) a b o = o

own_pick : (s : Components) (f : ℕ) (p : Pick) → IsOwn s.bound → IsOwn (pick_outcome s f p).state.bound
own_pick s f (PickControl (ToDiscover from d) rest) o = o
own_pick s f (PickControl (ToRetract e) rest) o = o
own_pick s f (PickControl (ToTell n) rest) o = o
own_pick s f p o = o

own_join : (s : Components) → KeepsPromises s → Inv s → IsNumbered s.directory → IsOwn s.bound → IsOwn (upd_new s.bound s.directory.next_federate s.last_announced (λ _. forever))
own_join s k inv n o = let next = s.directory.next_federate in record {
  own = by_number next _ (upd_new_here s.bound next s.last_announced (λ _. forever) next ∙ k.silent next (unheard s k inv)) (λ f a. upd_new_else s.bound next s.last_announced (λ _. forever) f f a a ∙ o.own f);
  nobody = by_number next _ (upd_new_here s.bound next s.last_announced (λ _. forever) 0 ∙ k.silent 0 silent_zero) (λ f a. upd_new_else s.bound next s.last_announced (λ _. forever) f 0 a (λ (e : next ≡ 0). omega (arith, n.next)) ∙ o.nobody f);
}
  where
    silent_zero : is_regulator (s.row 0) ≡ false
    silent_zero = ⊎_elim (λ (y : is_regulator (s.row 0) ≡ true). let j = inv.kept.time.regulators 0 y in let none = n.nobody in absurd (cc)) (λ (e : is_regulator (s.row 0) ≡ false). e) (cases_Bool (is_regulator (s.row 0)))

-- a wire that may be carried leads to another, and not from 0
carried_ends : (there : Bool) (g f next : ℕ) → (not there || eqb g f || eqb g 0 || not (ltb g next)) ≡ false → (g ≢ f) × (g ≢ 0)
carried_ends true g f next h = (λ (e : g ≡ f). let y : eqb g f ≡ true = eq-eqb g f e in grind (arith, nat_tests), λ (e : g ≡ 0). let y : eqb g 0 ≡ true = eq-eqb g 0 e in grind (arith, nat_tests))
carried_ends false g f next h = absurd (cc)

own_done : (s : Components) (step : Step) → KeepsPromises s → Inv s → IsNumbered s.directory → refusal (components_seen s) step ≡ None → IsOwn s.bound → IsOwn (step_outcome s step).state.bound
own_done s (Join name) k inv n none o = own_join s k inv n o
own_done s (Call f x) k inv n none o = own_call s f x n (caller_joined (components_seen s) f x none) o
own_done s (Carry g f) k inv n none o = let ends = carried_ends (s.directory.joined f) g f s.directory.next_federate (all_clear (tests (components_seen s) (Carry g f)) none).0 in own_carry s g f (s.wire g f) ends.0 ends.1 o
own_done s (Announce f) k inv n none o = cond_both (is_regulator (s.row f) && ltb (s.last_announced f) (promise s f)) (answer_outcome (answer.Announced (Some (promise s f))) (with_null_announced s f (promise s f))) (answer_outcome (answer.Announced None) s) (λ (t : Outcomes). IsOwn t.state.bound) (λ _. o) (λ _. o)
own_done s (Tick f) k inv n none o = own_pick s f _ o

own_unless : (s : Components) (step : Step) (r : Option Fault) → refusal (components_seen s) step ≡ r → KeepsPromises s → Inv s → IsNumbered s.directory → IsOwn s.bound → IsOwn (unless_refused r s (step_outcome s step)).state.bound
own_unless s step None is k inv n o = own_done s step k inv n is o
own_unless s step (Some e) is k inv n o = o

own_after : (s : Components) (steps : List Step) → KeepsPromises s → Inv s → IsNumbered s.directory → IsOwn s.bound → IsOwn (state_after s steps).bound
own_after s [] k inv n o = o
own_after s (step ∷ steps) k inv n o = own_after (next s step).state steps (next_keeps s step inv k) (each_step s step inv).kept (numbered_unless s step (refusal (components_seen s) step) n) (own_unless s step (refusal (components_seen s) step) refl k inv n o)

pub own_led : (s : Components) → IsLedTo s → IsOwn s.bound
own_led s is = subst (λ (t : Components). IsOwn t.bound) (sym is.state)
    (own_after (new_components is.catalogue) is.steps (keeps_start is.catalogue) (inv_start is.catalogue) (record { next = omega arith; nobody = refl }) (record { own = λ _. refl; nobody = λ _. refl }))
