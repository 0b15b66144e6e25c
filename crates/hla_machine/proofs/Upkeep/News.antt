-- What comes into the bag at a step, and who joins
use Rattle.std.proofs.Common.{◌≡◌, ◌⊎◌, ℕ, ◌≤◌, ◌<◌, cond, Bool, true, false, refl, subst, inl, inr, ⊎_elim, arith, List, [], ◌∷◌, Option, Some, None, option_map}
use Rattle.std.proofs.lemmas.Bool.{cond_both}
use Rattle.hla_base.specs.declared.number.EventHandle.{EventHandle}
use Rattle.hla_base.specs.Rows.{is_constrained, is_disabled}
use Rattle.hla_callbacks.specs.declared.callback.Callback.{Callback}
use Rattle.hla_callbacks.specs.declared.callback.Callback.TheVariants as callback
use Rattle.hla_callbacks.specs.declared.callback.Delivery.{Delivery}
use Rattle.hla_callbacks.specs.declared.callback.Delivery.TheVariants as delivery
use Rattle.hla_machine.specs.declared.service.Service.{Service}
use Rattle.hla_machine.specs.declared.service.Service.TheVariants as service
use Rattle.hla_machine.specs.declared.service.ResignAction.TheVariants.{DeleteObjects, NoAction}
use Rattle.hla_machine.specs.declared.step.Step.{Step}
use Rattle.hla_machine.specs.declared.step.Step.TheVariants.{Join, Call, Carry, Tick}
use Rattle.hla_machine.specs.declared.step.Carried.{Carried}
use Rattle.hla_machine.specs.declared.step.Carried.TheVariants as carried
use Rattle.hla_machine.specs.declared.step.Answer.{Answer}
use Rattle.hla_machine.specs.declared.step.Answer.TheVariants as answer
use Rattle.hla_machine.specs.declared.step.Outcome.{Outcome}
use Rattle.hla_machine.specs.declared.step.Outcome.TheVariants as outcome
use Rattle.hla_machine.specs.declared.step.Choice.{Choice}
use Rattle.hla_machine.specs.declared.step.Choice.TheVariants as choice
use Rattle.hla_machine.specs.Directory.{Outgoing, deletion_sent, deletions_sent, objects_of, update_sent, interaction_sent}
use Rattle.hla_machine.specs.Central.{Central, Copy, Tso, at_key, demoted_copy}
use Rattle.hla_machine.specs.Callbacks.{with_demoted, after_delivery, after_constraint, after_pick}
use Rattle.hla_machine.specs.Sends.{after_message, after_messages}
use Rattle.hla_machine.specs.Refusals.{refusal}
use Rattle.hla_machine.specs.Machine.{central_seen, MayAnswer, MayDo, MayEnd, after_leaving, after_join, after_retract, after_enter, after_cease, after_call, after_carry, after_done, after}
use Rattle.hla_base.proofs.Tables.{upd_each, upd2_each}
use Rattle.hla_retraction.specs.SentEvents.{SentEvent}
use Rattle.hla_machine.proofs.Basics.Tests.{clear_call}
use Rattle.hla_machine.proofs.Upkeep.Keeps.{IsCentralKept, NoMore, fewer_removed, fewer_demoted, fewer_moved, keeps_sent, new_or_old}
use Rattle.hla_machine.proofs.Upkeep.Services.{EachHigh, each_high_unstamped, high_stamps, left_fewer, same_bag}

-- each unretracted copy in time-stamp order is at or above its constrained receiver's bar, or was there before
abbrev pub News : Central → Central → Type 0
News c d = (f g m : ℕ) (k : Copy) → d.bag g m f ≡ Some k → (d.sent g m).retracted ≡ false → k.order ≡ Tso
    → (is_constrained (c.row f) ≡ true → (c.row f).bar ≤ k.stamp) ⊎ (c.bag g m f ≡ Some k) × ((c.sent g m).retracted ≡ false)

-- nobody who left joins again
pub record Joins (c d : Central) : Type 0 where
  pub up : c.directory.next_federate ≤ d.directory.next_federate
  pub old : (f : ℕ) → f < c.directory.next_federate → d.directory.joined f ≡ true → c.directory.joined f ≡ true

pub record NewsAndJoins (c d : Central) : Type 0 where
  pub news : News c d
  pub joins : Joins c d

abbrev joins_same : (c d : Central) → Type 0
joins_same c d = (d.directory.next_federate ≡ c.directory.next_federate) × (d.directory.joined ≡ c.directory.joined)

same_joins : (c d : Central) → joins_same c d → Joins c d
same_joins c d e = record { up = omega (arith, e.0); old = λ f l j. subst (λ (t : ℕ → Bool). t f ≡ true) e.1 j }

no_news : (c : Central) → News c c
no_news c f g m k is live tso = inr (is, live)

calm : (c d : Central) → News c d → joins_same c d → NewsAndJoins c d
calm c d n e = record { news = n; joins = same_joins c d e }

fewer_change : (c : Central) (to : ℕ → ℕ → ℕ → Option Copy) → NoMore to c.bag → News c (record c { bag = to })
fewer_change c to fewer f g m k is live tso = inr (fewer g m f k is tso, live)

sends_news : (c : Central) (f : ℕ) (stamp : Option ℕ) (outs : List Outgoing) → EachHigh (c.row f) stamp outs → IsCentralKept c → News c (after_messages c f stamp outs)
sends_news c f stamp [] high k = no_news c
sends_news c f stamp (out ∷ outs) high k = λ l g m x is live tso. ⊎_elim
    (λ (new : is_constrained (c.row l) ≡ true → (c.row l).bar ≤ x.stamp). inl new)
    (λ (old : ((after_message c f stamp out).bag g m l ≡ Some x) × (((after_message c f stamp out).sent g m).retracted ≡ false)). ⊎_elim
    (λ (above : (l : ℕ) → is_constrained (c.row l) ≡ true → (c.row l).bar ≤ x.stamp). inl (above l))
    (λ (was : (c.bag g m l ≡ Some x) × ((c.sent g m).retracted ≡ false)). inr was)
    (new_or_old c f stamp out k high.0 l g m x old.0 old.1 tso))
    (sends_news (after_message c f stamp out) f stamp outs high.1 (keeps_sent c f stamp out k high.0) l g m x is live tso)

sent_next : (c : Central) (f : ℕ) (stamp : Option ℕ) (outs : List Outgoing) → (after_messages c f stamp outs).directory.next_federate ≡ c.directory.next_federate
sent_next c f stamp [] = refl
sent_next c f stamp (out ∷ outs) = sent_next (after_message c f stamp out) f stamp outs

sent_joined : (c : Central) (f : ℕ) (stamp : Option ℕ) (outs : List Outgoing) → (after_messages c f stamp outs).directory.joined ≡ c.directory.joined
sent_joined c f stamp [] = refl
sent_joined c f stamp (out ∷ outs) = sent_joined (after_message c f stamp out) f stamp outs

sends_change : (c : Central) (f : ℕ) (stamp : Option ℕ) (outs : List Outgoing) → EachHigh (c.row f) stamp outs → IsCentralKept c → NewsAndJoins c (after_messages c f stamp outs)
sends_change c f stamp outs high k = calm c (after_messages c f stamp outs) (sends_news c f stamp outs high k) (sent_next c f stamp outs, sent_joined c f stamp outs)

left_change : (c b : Central) (f : ℕ) → NewsAndJoins c b → NewsAndJoins c (after_leaving b f)
left_change c b f ch = record {
  news = λ l g m k is live tso. ch.news l g m k (left_fewer b f g m l k is tso) live tso;
  joins = record { up = ch.joins.up; old = λ l low j. ch.joins.old l low (upd_each b.directory.joined f false (λ l x. x ≡ true → b.directory.joined l ≡ true) (λ e. absurd (cc)) (λ l ne e. e) l j) };
}

join_change : (c : Central) (name : List ℕ) → NewsAndJoins c (after_join c name)
join_change c name = record {
  news = no_news c;
  joins = record { up = omega arith; old = λ l low j. upd_each c.directory.joined c.directory.next_federate true (λ l x. l < c.directory.next_federate → x ≡ true → c.directory.joined l ≡ true) (λ low e. absurd (omega arith)) (λ l ne low e. e) l low j };
}

retract_news : (c : Central) (f m : ℕ) → News c (after_retract c f m)
retract_news c f m l g n k is live tso = inr (is, upd2_each c.sent f m (record (c.sent f m) { retracted = true }) (λ h n (e : SentEvent). e.retracted ≡ false → (c.sent h n).retracted ≡ false) (λ e. absurd (cc)) (λ _ _ e. e) g n live)

enter_change : (c : Central) (f lookahead : ℕ) (o : Choice) → NewsAndJoins c (after_enter c f lookahead o)
enter_change c f lookahead (choice.Entry e) = calm c _ (no_news c) (refl, refl)
enter_change c f lookahead o = calm c _ (no_news c) (refl, refl)

cease_change : (c : Central) (f : ℕ) (o : Choice) → NewsAndJoins c (after_cease c f o)
cease_change c f (choice.Moved events) = calm c _ (fewer_change c (with_demoted c.bag f events) (fewer_moved c.bag f events)) (refl, refl)
cease_change c f o = calm c _ (no_news c) (refl, refl)

call_change : (c : Central) (f : ℕ) (s : Service) (a : Answer) (o : Choice) → refusal (central_seen c) (Call f s) ≡ None → MayAnswer c f s a o → IsCentralKept c → NewsAndJoins c (after_call c f s o)
call_change c f (service.Resign DeleteObjects) a o none may k = let outs = deletions_sent (objects_of c.directory f) in left_change c (after_messages c f None outs) f (sends_change c f None outs (each_high_unstamped (c.row f) outs) k)
call_change c f (service.Resign NoAction) a o none may k = left_change c c f (calm c c (no_news c) (refl, refl))
call_change c f (service.UpdateAttributeValues object values stamp) a o none may k = let x = clear_call (central_seen c) f (service.UpdateAttributeValues object values stamp) none in let outs = update_sent c.directory object values in
    let x1 = x.1 in let x2 = x1.1 in let x3 = x2.1 in let x4 = x3.1 in sends_change c f stamp outs (high_stamps (c.row f) stamp outs x4.0) k
call_change c f (service.SendInteraction class values stamp) a o none may k = let x = clear_call (central_seen c) f (service.SendInteraction class values stamp) none in let outs = interaction_sent c.directory f class values in
    let x1 = x.1 in let x2 = x1.1 in let x3 = x2.1 in sends_change c f stamp outs (high_stamps (c.row f) stamp outs x3.0) k
call_change c f (service.DeleteObjectInstance object stamp) a o none may k = let x = clear_call (central_seen c) f (service.DeleteObjectInstance object stamp) none in let outs = deletion_sent c.directory object in
    let x1 = x.1 in let x2 = x1.1 in let ch = sends_change c f stamp outs (high_stamps (c.row f) stamp outs x2.0) k in record { news = ch.news; joins = record { up = ch.joins.up; old = ch.joins.old } }
call_change c f (service.Retract event) a o none may k = calm c _ (retract_news c f event.serial) (refl, refl)
call_change c f (service.EnableTimeRegulation time lookahead) a o none may k = enter_change c f lookahead o
call_change c f service.DisableTimeConstrained a o none may k = cease_change c f o
call_change c f s a o none may k = calm c _ (no_news c) (refl, refl)

arrived_fewer : (c : Central) (g f m : ℕ) → NoMore (cond (is_disabled (c.row f).constrained) (at_key c.bag g m f (option_map demoted_copy (c.bag g m f))) c.bag) c.bag
arrived_fewer c g f m = cond_both (is_disabled (c.row f).constrained) (at_key c.bag g m f (option_map demoted_copy (c.bag g m f))) c.bag (λ b. NoMore b c.bag) (λ _. fewer_demoted c.bag g m f) (λ _. same_bag c.bag)

carry_change : (c : Central) (g f : ℕ) (x : Carried) → NewsAndJoins c (after_carry c g f x)
carry_change c g f (carried.Event e) = calm c _ (fewer_change c _ (arrived_fewer c g f e.serial)) (refl, refl)
carry_change c g f (carried.Removal e) = calm c _ (fewer_change c _ (arrived_fewer c g f e.serial)) (refl, refl)
carry_change c g f (carried.Retraction e) = calm c _ (fewer_change c (at_key c.bag g e.serial f None) (fewer_removed c.bag g e.serial f)) (refl, refl)
carry_change c g f x = calm c _ (no_news c) (refl, refl)

deliver_change : (c : Central) (f : ℕ) (e : EventHandle) (d : Delivery) → NewsAndJoins c (after_delivery c f e d)
deliver_change c f e delivery.Receive = calm c _ (fewer_change c (at_key c.bag e.sender e.serial f None) (fewer_removed c.bag e.sender e.serial f)) (refl, refl)
deliver_change c f e (delivery.Demoted s) = calm c _ (fewer_change c (at_key c.bag e.sender e.serial f None) (fewer_removed c.bag e.sender e.serial f)) (refl, refl)
deliver_change c f e (delivery.TimeStamp s) = calm c _ (fewer_change c (at_key c.bag e.sender e.serial f None) (fewer_removed c.bag e.sender e.serial f)) (refl, refl)

constrain_change : (c : Central) (f : ℕ) (o : Choice) → NewsAndJoins c (after_constraint c f o)
constrain_change c f (choice.Moved events) = calm c _ (fewer_change c (with_demoted c.bag f events) (fewer_moved c.bag f events)) (refl, refl)
constrain_change c f o = calm c _ (no_news c) (refl, refl)

pick_change : (c : Central) (f : ℕ) (x : Callback) (o : Choice) → NewsAndJoins c (after_pick c f x o)
pick_change c f (callback.ReflectAttributeValues object values event d) o = deliver_change c f event d
pick_change c f (callback.ReceiveInteraction class values event d) o = deliver_change c f event d
pick_change c f (callback.RemoveObjectInstance object event d) o = deliver_change c f event d
pick_change c f (callback.TimeConstrainedEnabled time) o = constrain_change c f o
pick_change c f x o = calm c _ (no_news c) (refl, refl)

done_change : (c : Central) (step : Step) (a : Answer) (o : Choice) → refusal (central_seen c) step ≡ None → MayDo c step a o → IsCentralKept c → NewsAndJoins c (after_done c step a o)
done_change c (Join name) a o none may k = join_change c name
done_change c (Call f s) a o none may k = call_change c f s a o none may k
done_change c (Carry from to) (answer.Carried x) o none may k = carry_change c from to x
done_change c (Tick f) (answer.Ticked (Some x)) o none may k = pick_change c f x o
done_change c step a o none may k = calm c c (no_news c) (refl, refl)

pub step_change : (c : Central) (step : Step) (out : Outcome) (o : Choice) → MayEnd c step out o → IsCentralKept c → NewsAndJoins c (after c step out o)
step_change c step (outcome.Done a) o may k = done_change c step a o may.0 may.1 k
step_change c (Tick f) (outcome.Failed x) o may k = pick_change c f x o
step_change c step out o may k = calm c c (no_news c) (refl, refl)
