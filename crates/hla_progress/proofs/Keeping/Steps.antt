-- Each step and each list of steps keep what is promised
use Rattle.std.proofs.Common.{◌≡◌, ℕ, ◌+◌, ltb, ◌&&◌, true, false, refl, sym, subst, ⊎_elim, arith, List, [], ◌∷◌, Option, Some, None}
use Rattle.std.proofs.lemmas.Bool.{cond_both, cases_Bool, and_parts, and_from, ltb-true}
use Rattle.std.proofs.lemmas.Bool.Decides.{nat_tests}
use Rattle.hla_base.specs.declared.fault.Fault.{Fault}
use Rattle.hla_base.specs.declared.row.AdvanceKind.TheVariants as kind
use Rattle.hla_base.specs.declared.row.Role.TheVariants.{Disabled, Pending}
use Rattle.hla_base.specs.Rows.{is_regulator, new_row, row_after_regulation_enabled, row_after_constraint_enabled, row_after_pick, row_after_grant}
use Rattle.hla_catalogue.specs.CatalogueValue.{CatalogueValue}
use Rattle.hla_component_rules.specs.Picking.{Pick, NoPick, PickControl, PickRo, PickRegulates, PickConstrains, PickTso, PickGrant}
use Rattle.hla_component_rules.specs.declared.control.Control.TheVariants.{ToDiscover, ToRetract, ToTell}
use Rattle.hla_null_message.specs.declared.message.Message.{Message}
use Rattle.hla_null_message.specs.declared.message.Message.TheVariants as message
use Rattle.hla_machine.specs.declared.service.Service.{Service}
use Rattle.hla_machine.specs.declared.service.Service.TheVariants as service
use Rattle.hla_machine.specs.declared.service.ResignAction.TheVariants.{ReleaseAttributes, DeleteObjects, DeleteObjectsAndReleaseAttributes, NoAction}
use Rattle.hla_machine.specs.declared.step.Step.{Step}
use Rattle.hla_machine.specs.declared.step.Step.TheVariants.{Join, Call, Carry, Announce, Tick}
use Rattle.hla_machine.specs.declared.step.Answer.TheVariants as answer
use Rattle.hla_machine.specs.Directory.{Outgoing, name_or_default, objects_of, interaction_sent, update_sent, deletion_sent, deletions_sent, with_subscribed, with_object}
use Rattle.hla_machine.specs.Refusals.{refusal}
use Rattle.hla_machine.specs.Sends.{is_told}
use Rattle.hla_machine.proofs.Basics.Tests.{clear_call}
use Rattle.hla_components.specs.Components.{Components, new_components}
use Rattle.hla_components.specs.Component.{local_bound, promise, regulation_entry}
use Rattle.hla_null_message.specs.Wires.{put_behind}
use Rattle.hla_components.specs.Next.{Outcomes, answer_outcome, next, step_outcome, call_outcome, carry_outcome, pick_outcome, announce_outcome, unless_refused, components_seen, with_null_announced, with_messages_sent}
use Rattle.hla_components.specs.Invariant.{Inv}
use Rattle.hla_components.specs.Headline.{state_after}
use Rattle.hla_components.proofs.Services.TimeSteps.{at_rest}
use Rattle.hla_components.proofs.Refinement.Picks.{PickFacts, pick_tells}
use Rattle.hla_components.proofs.Refinement.Runs.{each_step, inv_start}
use Rattle.hla_components.proofs.Refinement.LedTo.{led_inv}
use Rattle.hla_base.proofs.Tables.{upd_row_each, upd_self}
use Rattle.hla_progress.specs.Promises.{bound_after, PromiseInv, KeepsPromises, EachWireEndsAtTheLast, EachFloorIsRaised, EachStepKeepsPromises, EachListKeepsPromises}
use Rattle.hla_progress.proofs.Keeping.Bounds.{bound_after-retraction}
use Rattle.hla_progress.proofs.Keeping.Changes.{raised_idle, raised_asking, keeps_row, keeps_wires, keeps_discovering, keeps_discovered, keeps_null, keeps_enabled, keeps_disabled, keeps_null_taken, keeps_taken}
use Rattle.hla_progress.proofs.Keeping.Members.{ready, ready_sent, keeps_joined, keeps_gone}

module _ (s : Components) (f : ℕ) (k : KeepsPromises s) (inv : Inv s) where
  sends : (stamp : Option ℕ) (outs : List Outgoing) → KeepsPromises (with_messages_sent s f stamp outs)
  sends stamp outs = (ready_sent s f stamp outs (ready s f k inv)).keeps

  retracts : (m : ℕ) → KeepsPromises (call_outcome s f (service.Retract (record { sender = f; serial = m }))).state
  retracts m = keeps_wires s k _ (upd_row_each s.wire s.directory.joined f _ (λ g h ms. (j v : ℕ) → bound_after j v ms ≡ bound_after j v (s.wire g h))
      (λ h _ j v. cond_both (is_told s.directory f (s.sent f m) h) (put_behind (message.Retraction m) (s.wire f h)) (s.wire f h) (λ ms. bound_after j v ms ≡ bound_after j v (s.wire f h)) (λ _. bound_after-retraction j v m (s.wire f h)) (λ _. refl)) (λ _ _ _ _. refl))

  call_keeps : (x : Service) → refusal (components_seen s) (Call f x) ≡ None → KeepsPromises (call_outcome s f x).state
  call_keeps (service.Resign DeleteObjects) none = keeps_gone _ f (ready_sent s f None (deletions_sent (objects_of s.directory f)) (ready s f k inv))
  call_keeps (service.Resign NoAction) none = keeps_gone s f (ready s f k inv)
  call_keeps (service.Resign ReleaseAttributes) none = k
  call_keeps (service.Resign DeleteObjectsAndReleaseAttributes) none = k
  call_keeps (service.PublishObjectClass class attributes) none = k
  call_keeps (service.UnpublishObjectClass class) none = k
  call_keeps (service.SubscribeObjectClassAttributes class attributes) none = keeps_discovering s k (with_subscribed s.directory f class (Some attributes)) f
  call_keeps (service.UnsubscribeObjectClass class) none = k
  call_keeps (service.PublishInteractionClass class) none = k
  call_keeps (service.UnpublishInteractionClass class) none = k
  call_keeps (service.SubscribeInteractionClass class) none = k
  call_keeps (service.UnsubscribeInteractionClass class) none = k
  call_keeps (service.RegisterObjectInstance class name) none = keeps_discovered s k (with_object s.directory f class (name_or_default s.directory.next_object name)) f
  call_keeps (service.UpdateAttributeValues object values stamp) none = sends stamp (update_sent s.directory object values)
  call_keeps (service.SendInteraction class values stamp) none = sends stamp (interaction_sent s.directory f class values)
  call_keeps (service.DeleteObjectInstance object stamp) none = sends stamp (deletion_sent s.directory object)
  call_keeps (service.ChangeAttributeOrderType object attributes order) none = k
  call_keeps (service.ChangeInteractionOrderType class order) none = k
  call_keeps (service.Retract event) none = retracts event.serial
  call_keeps (service.RegisterFederationSynchronizationPoint label) none = k
  call_keeps (service.SynchronizationPointAchieved label) none = k
  call_keeps (service.EnableTimeRegulation time lookahead) none =
      keeps_enabled s k inv f lookahead (regulation_entry s f (time + lookahead)) (at_rest (s.row f) (clear_call (components_seen s) f (service.EnableTimeRegulation time lookahead) none).0)
  call_keeps service.DisableTimeRegulation none = keeps_disabled s k inv f
  call_keeps service.EnableTimeConstrained none =
      keeps_row s k f _ (λ e. e) (raised_idle (record (s.row f) { constrained = Pending }) (at_rest (s.row f) (clear_call (components_seen s) f service.EnableTimeConstrained none).0))
  call_keeps service.DisableTimeConstrained none =
      keeps_row s k f _ (λ e. e) (raised_idle (record (s.row f) { constrained = Disabled }) (at_rest (s.row f) (clear_call (components_seen s) f service.DisableTimeConstrained none).0))
  call_keeps (service.TimeAdvanceRequest time) none = keeps_row s k f _ (λ e. e) (raised_asking (s.row f) kind.TimeAdvance time)
  call_keeps (service.TimeAdvanceRequestAvailable time) none = keeps_row s k f _ (λ e. e) (raised_asking (s.row f) kind.TimeAdvanceAvailable time)
  call_keeps (service.NextEventRequest time) none = keeps_row s k f _ (λ e. e) (raised_asking (s.row f) kind.NextEvent time)
  call_keeps (service.NextEventRequestAvailable time) none = keeps_row s k f _ (λ e. e) (raised_asking (s.row f) kind.NextEventAvailable time)
  call_keeps (service.FlushQueueRequest time) none = keeps_row s k f _ (λ e. e) (raised_asking (s.row f) kind.FlushQueue time)
  call_keeps (service.ModifyLookahead lookahead) none = let clear = clear_call (components_seen s) f (service.ModifyLookahead lookahead) none in let later = clear.1 in
      keeps_row s k f _ (λ e. e) (raised_idle (record (s.row f) { lookahead = lookahead }) (at_rest (s.row f) later.0))
  call_keeps service.EnableAsynchronousDelivery none = keeps_row s k f _ (λ e. e) (k.raised f)
  call_keeps service.DisableAsynchronousDelivery none = keeps_row s k f _ (λ e. e) (k.raised f)
  call_keeps service.QueryLbts none = k
  call_keeps service.QueryFederateTime none = k
  call_keeps service.QueryMinNextEventTime none = k
  call_keeps service.QueryLookahead none = k
  call_keeps (service.GetObjectClassHandle name) none = k
  call_keeps (service.GetInteractionClassHandle name) none = k
  call_keeps (service.GetAttributeHandle name class) none = k
  call_keeps (service.GetParameterHandle name class) none = k
  call_keeps (service.GetObjectInstanceHandle name) none = k
  call_keeps (service.GetObjectInstanceName object) none = k

  announce_keeps : KeepsPromises (announce_outcome s f).state
  announce_keeps = cond_both (is_regulator (s.row f) && ltb (s.last_announced f) (promise s f))
      (answer_outcome (answer.Announced (Some (promise s f))) (with_null_announced s f (promise s f)))
      (answer_outcome (answer.Announced None) s) (λ (o : Outcomes). KeepsPromises o.state)
      (λ y. let p = and_parts _ _ y in let l = ltb-true (s.last_announced f) (promise s f) p.1 in
      subst (λ row. PromiseInv s.directory.joined row (with_null_announced s f (promise s f)).wire s.bound s.known_epoch (with_null_announced s f (promise s f)).last_announced) (upd_self s.row f)
      (keeps_null s k f (promise s f) (s.row f) (inv.kept.time.epochs f) (omega (arith, l)) (λ n. absurd (cc)) (k.raised f)))
      (λ _. k)

  pick_keeps : (p : Pick) → PickFacts (s.controls f) (s.row f) (s.ro f) (s.tso f) (local_bound s f) p → KeepsPromises (pick_outcome s f p).state
  pick_keeps NoPick facts = k
  pick_keeps (PickControl (ToDiscover from d) rest) facts = k
  pick_keeps (PickControl (ToRetract e) rest) facts = k
  pick_keeps (PickControl (ToTell n) rest) facts = k
  pick_keeps (PickRo e rest) facts = k
  pick_keeps PickRegulates facts = keeps_row s k f (row_after_regulation_enabled (s.row f)) (λ n. absurd (cc)) (k.raised f)
  pick_keeps PickConstrains facts = keeps_row s k f (row_after_constraint_enabled (s.row f)) (λ e. e) (raised_idle (row_after_constraint_enabled (s.row f)) ((inv.kept.time.rows f).resting facts.1))
  pick_keeps (PickTso q e rest) facts = keeps_row s k f (row_after_pick (s.row f) q e.stamp) (λ e. e) (k.raised f)
  pick_keeps (PickGrant q t) facts = keeps_row s k f (row_after_grant (s.row f) q t) (λ e. e) (raised_idle (row_after_grant (s.row f) q t) refl)

carry_keeps : (s : Components) (g f : ℕ) (ms : List Message) → KeepsPromises s → s.wire g f ≡ ms → KeepsPromises (carry_outcome s g f ms).state
carry_keeps s g f [] k front = k
carry_keeps s g f (message.Event e ∷ ms) k front = keeps_taken s k g f (message.Event e) ms front (λ _ _. refl)
carry_keeps s g f (message.Null j v ∷ ms) k front = keeps_null_taken s k g f j v ms front
carry_keeps s g f (message.Retraction m ∷ ms) k front = keeps_taken s k g f (message.Retraction m) ms front (λ _ _. refl)
carry_keeps s g f (message.Discovery d ∷ ms) k front = keeps_taken s k g f (message.Discovery d) ms front (λ _ _. refl)

done_keeps : (s : Components) (step : Step) → Inv s → refusal (components_seen s) step ≡ None → KeepsPromises s → KeepsPromises (step_outcome s step).state
done_keeps s (Join name) inv none k = keeps_joined s k inv name
done_keeps s (Call f x) inv none k = call_keeps s f k inv x none
done_keeps s (Carry g f) inv none k = carry_keeps s g f (s.wire g f) k refl
done_keeps s (Announce f) inv none k = announce_keeps s f k inv
done_keeps s (Tick f) inv none k = pick_keeps s f k inv _ (pick_tells (s.controls f) (s.row f) (s.ro f) (s.tso f) (local_bound s f))

refused_keeps : (s : Components) (step : Step) (o : Option Fault) → refusal (components_seen s) step ≡ o → Inv s → KeepsPromises s → KeepsPromises (unless_refused o s (step_outcome s step)).state
refused_keeps s step None is inv k = done_keeps s step inv is k
refused_keeps s step (Some e) is inv k = k

pub next_keeps : (s : Components) (step : Step) → Inv s → KeepsPromises s → KeepsPromises (next s step).state
next_keeps s step inv k = refused_keeps s step (refusal (components_seen s) step) refl inv k

-- ---- lists of steps
pub keeps_start : (catalogue : CatalogueValue) → KeepsPromises (new_components catalogue)
keeps_start catalogue = record { wires = λ _ _ _. refl; silent = λ _ _. refl; raised = λ _. raised_idle new_row refl }

pub list_keeps : (s : Components) (steps : List Step) → Inv s → KeepsPromises s → KeepsPromises (state_after s steps)
list_keeps s [] inv k = k
list_keeps s (step ∷ steps) inv k = list_keeps (next s step).state steps (each_step s step inv).kept (next_keeps s step inv k)

pub led_keeps : EachListKeepsPromises
led_keeps s is = subst KeepsPromises (sym is.state) (list_keeps (new_components is.catalogue) is.steps (inv_start is.catalogue) (keeps_start is.catalogue))

pub step_keeps : EachStepKeepsPromises
step_keeps s step is k = next_keeps s step (led_inv s is) k

pub floor_raised : EachFloorIsRaised
floor_raised s f is = (led_keeps s is).raised f

pub wire_ends : EachWireEndsAtTheLast
wire_ends s g f is member ne =
    let k = led_keeps s is in
    (k.wires g f (and_from _ _ (grind (arith, nat_tests)) member), k.silent g, λ gone. k.silent g (unjoined s g (led_inv s is) gone))
  where
    unjoined : (s : Components) (g : ℕ) → Inv s → s.directory.joined g ≡ false → is_regulator (s.row g) ≡ false
    unjoined s g inv gone = ⊎_elim
        (λ (y : is_regulator (s.row g) ≡ true). let j = inv.kept.time.regulators g y in absurd (cc))
        (λ (e : is_regulator (s.row g) ≡ false). e)
        (cases_Bool (is_regulator (s.row g)))
