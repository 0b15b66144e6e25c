-- What a step of the machine does to each row
use Rattle.std.proofs.Common.{◌≡◌, ℕ, ◌+◌, ◌≤◌, Bool, true, false, refl, sym, le_trans, subst, arith, List, [], ◌∷◌, Option, Some, None}
use Rattle.std.proofs.lemmas.Bool.{ltb-false}
use Rattle.hla_base.specs.Limits.{max_time}
use Rattle.hla_base.specs.declared.number.EventHandle.{EventHandle}
use Rattle.hla_base.specs.declared.content.Content.{Content}
use Rattle.hla_base.specs.declared.content.Content.TheVariants as content
use Rattle.hla_base.specs.declared.row.AdvanceKind.{AdvanceKind}
use Rattle.hla_base.specs.declared.row.AdvanceKind.TheVariants as kind
use Rattle.hla_base.specs.declared.row.AdvanceRequest.{AdvanceRequest}
use Rattle.hla_base.specs.declared.row.TimeRow.{TimeRow}
use Rattle.hla_base.specs.Tables.{upd}
use Rattle.hla_base.specs.Rows.{is_constrained, is_pending, new_row, row_after_request, row_with_entry, row_after_regulation_enabled, row_after_pick, row_after_grant}
use Rattle.hla_callbacks.specs.declared.callback.Callback.{Callback}
use Rattle.hla_callbacks.specs.declared.callback.Callback.TheVariants as callback
use Rattle.hla_callbacks.specs.declared.callback.Delivery.{Delivery}
use Rattle.hla_callbacks.specs.declared.callback.Delivery.TheVariants as delivery
use Rattle.hla_machine.specs.declared.service.Service.{Service}
use Rattle.hla_machine.specs.declared.service.Service.TheVariants as service
use Rattle.hla_machine.specs.declared.service.ResignAction.TheVariants.{DeleteObjects, NoAction}
use Rattle.hla_machine.specs.declared.step.Step.{Step}
use Rattle.hla_machine.specs.declared.step.Step.TheVariants.{Join, Call, Carry, Tick}
use Rattle.hla_machine.specs.declared.step.Carried.{Carried}
use Rattle.hla_machine.specs.declared.step.Carried.TheVariants as carried
use Rattle.hla_machine.specs.declared.step.Answer.{Answer}
use Rattle.hla_machine.specs.declared.step.Answer.TheVariants as answer
use Rattle.hla_machine.specs.declared.step.Outcome.{Outcome}
use Rattle.hla_machine.specs.declared.step.Outcome.TheVariants as outcome
use Rattle.hla_machine.specs.declared.step.Choice.{Choice}
use Rattle.hla_machine.specs.declared.step.Choice.TheVariants as choice
use Rattle.hla_machine.specs.Directory.{Outgoing, deletion_sent, deletions_sent, objects_of, update_sent, interaction_sent}
use Rattle.hla_machine.specs.Central.{Central, Tso, low_entry}
use Rattle.hla_machine.specs.Callbacks.{IsCopy, MayPickIn, MayDeliver, MayPickUp, MayGrant, MayConstrain, after_delivery, after_constraint, after_pick}
use Rattle.hla_machine.specs.Sends.{after_message, after_messages}
use Rattle.hla_base.specs.RowRefusals.{request_tests}
use Rattle.hla_machine.specs.Refusals.{refusal}
use Rattle.hla_machine.specs.Machine.{central_seen, MayEnter, MayAnswer, MayDo, MayEnd, after_join, after_enter, after_cease, after_call, after_carry, after_done, after}
use Rattle.hla_base.proofs.Tables.{by_number, upd_same, upd_other, upd_each, greatest_ge}
use Rattle.hla_machine.proofs.Basics.Tests.{AllClear, clear_call}
use Rattle.hla_machine.proofs.Upkeep.Keeps.{IsCentralKept}
use Rattle.hla_machine.proofs.Upkeep.Runs.{row_after_is}
use Rattle.hla_machine.proofs.Upkeep.Services.{none_from, entry_may, not_early}

pub record Same (r s : TimeRow) : Type 0 where
  pub time : s.time ≡ r.time
  pub advance : s.advance ≡ r.advance
  pub first : s.first_pick ≡ r.first_pick
  pub bar : s.bar ≡ r.bar
  pub constrained : s.constrained ≡ r.constrained
  pub late : is_pending s.regulating ≡ true → (is_pending r.regulating ≡ true) × (s.regulation_time ≡ r.regulation_time)

pub same : (r : TimeRow) → Same r r
same r = record { time = refl; advance = refl; first = refl; bar = refl; constrained = refl; late = λ p. (p, refl) }

-- how a row comes out of a step
pub data Turn (c : Central) (f : ℕ) (r : TimeRow) (member : Bool) : Type 0 where
  Fresh : r ≡ new_row → (c.directory.joined f ≡ true → member ≡ false) → Turn c f r member
  Calm : Same (c.row f) r → Turn c f r member
  Asked : (kind : AdvanceKind) (a : ℕ) → (c.row f).advance ≡ None → is_pending (c.row f).regulating ≡ false → (c.row f).time ≤ a → r ≡ row_after_request (c.row f) kind a → Turn c f r member
  Entered : (lookahead e : ℕ) → (c.row f).advance ≡ None → (c.row f).time + lookahead ≤ e → r ≡ row_with_entry (c.row f) lookahead e → Turn c f r member
  Regulated : is_pending (c.row f).regulating ≡ true → r ≡ row_after_regulation_enabled (c.row f) → Turn c f r member
  Rested : (c.row f).advance ≡ None → r.advance ≡ None → r.time ≡ (c.row f).time → r.regulating ≡ (c.row f).regulating → r.regulation_time ≡ (c.row f).regulation_time → Turn c f r member
  Picked : (q : AdvanceRequest) (e : EventHandle) (s : ℕ) (x : Content) → (c.row f).advance ≡ Some q → is_constrained (c.row f) ≡ true → IsCopy c f e (record { order = Tso; stamp = s; content = x }) → MayPickIn c f q e s
      → r ≡ row_after_pick (c.row f) q s → Turn c f r member
  Granted : (q : AdvanceRequest) (t : ℕ) → (c.row f).advance ≡ Some q → MayGrant c f t q → r ≡ row_after_grant (c.row f) q t → Turn c f r member

row_turn : (c : Central) (g : ℕ) (r : TimeRow) → Turn c g r (c.directory.joined g) → (f : ℕ) → Turn c f (upd c.row g r f) (c.directory.joined f)
row_turn c g r here = upd_each c.row g r (λ i y. Turn c i y (c.directory.joined i)) here (λ j ne. Calm (same (c.row j)))

still : (c : Central) (row : ℕ → TimeRow) → row ≡ c.row → (f : ℕ) (m : Bool) → Turn c f (row f) m
still c row e f m = Calm (subst (λ (row : ℕ → TimeRow). Same (c.row f) (row f)) (sym e) (same (c.row f)))

pub sent_rows : (c : Central) (f : ℕ) (stamp : Option ℕ) (outs : List Outgoing) → (after_messages c f stamp outs).row ≡ c.row
sent_rows c f stamp [] = refl
sent_rows c f stamp (out ∷ outs) = sent_rows (after_message c f stamp out) f stamp outs

left_turn : (c b : Central) → b.row ≡ c.row → (g f : ℕ) → Turn c f (upd b.row g new_row f) (upd b.directory.joined g false f)
left_turn c b e g = by_number g _
    (Fresh (upd_same b.row g new_row) (λ _. upd_same b.directory.joined g false))
    (λ f ne. Calm (rw upd_other (subst (λ (row : ℕ → TimeRow). Same (c.row f) (row f)) (sym e) (same (c.row f)))))

join_turn : (c : Central) (name : List ℕ) → IsCentralKept c → (f : ℕ) → Turn c f ((after_join c name).row f) ((after_join c name).directory.joined f)
join_turn c name k = by_number c.directory.next_federate _
    (Fresh (upd_same c.row c.directory.next_federate new_row) (λ j. absurd (let l = k.members c.directory.next_federate j in omega arith)))
    (λ f ne. Calm (rw upd_other (same (c.row f))))

low_late : (c : Central) (e earliest : ℕ) → low_entry c.directory c.row earliest ≤ e → earliest ≤ e
unfolding low_entry
low_late c e earliest low = le_trans (greatest_ge c.directory.next_federate earliest _) low

enter_turn : (c : Central) (f lookahead time : ℕ) (o : Choice) → (c.row f).advance ≡ None → (c.row f).time ≤ time → MayEnter c f (time + lookahead) o → (i : ℕ) → Turn c i ((after_enter c f lookahead o).row i) (c.directory.joined i)
enter_turn c f lookahead time (choice.Entry e) idle late may = row_turn c f _ (Entered lookahead e idle (let l = low_late c e (time + lookahead) may.0 in omega arith) refl)
enter_turn c f lookahead time o idle late may = absurd may

cease_turn : (c : Central) (f : ℕ) (o : Choice) → (c.row f).advance ≡ None → (i : ℕ) → Turn c i ((after_cease c f o).row i) (c.directory.joined i)
cease_turn c f (choice.Moved events) idle = row_turn c f _ (Rested idle idle refl refl refl)
cease_turn c f o idle = λ i. Calm (same (c.row i))

ask_turn : (c : Central) (f : ℕ) (x : AdvanceKind) (a : ℕ) → AllClear (request_tests (c.row f) a) → (i : ℕ) → Turn c i (upd c.row f (row_after_request (c.row f) x a) i) (c.directory.joined i)
ask_turn c f x a clear = let c1 = clear.1 in let c2 = c1.1 in let c3 = c2.1 in let c4 = c3.1 in row_turn c f _ (Asked x a (none_from (c.row f).advance clear.0) c1.0 (ltb-false a (c.row f).time c4.0) refl)

call_turn : (c : Central) (f : ℕ) (s : Service) (a : Answer) (o : Choice) → refusal (central_seen c) (Call f s) ≡ None → MayAnswer c f s a o → (i : ℕ) → Turn c i ((after_call c f s o).row i) ((after_call c f s o).directory.joined i)
call_turn c f (service.Resign DeleteObjects) a o none may = left_turn c (after_messages c f None (deletions_sent (objects_of c.directory f))) (sent_rows c f None (deletions_sent (objects_of c.directory f))) f
call_turn c f (service.Resign NoAction) a o none may = left_turn c c refl f
call_turn c f (service.UpdateAttributeValues object values stamp) a o none may = λ i. still c _ (sent_rows c f stamp (update_sent c.directory object values)) i _
call_turn c f (service.SendInteraction class values stamp) a o none may = λ i. still c _ (sent_rows c f stamp (interaction_sent c.directory f class values)) i _
call_turn c f (service.DeleteObjectInstance object stamp) a o none may = λ i. still c _ (sent_rows c f stamp (deletion_sent c.directory object)) i _
call_turn c f (service.EnableTimeRegulation time lookahead) a o none may =
    let x = clear_call (central_seen c) f (service.EnableTimeRegulation time lookahead) none in let x1 = x.1 in let x2 = x1.1 in let x3 = x2.1 in
    let late = not_early (c.row f) (is_constrained (c.row f)) time max_time x3.0 in
    enter_all (none_from (c.row f).advance x.0) late o (entry_may c f time lookahead a o may)
  where
    enter_all : (c.row f).advance ≡ None → (c.row f).time ≤ time → (o : Choice) → MayEnter c f (time + lookahead) o → (i : ℕ) → Turn c i ((after_enter c f lookahead o).row i) ((after_enter c f lookahead o).directory.joined i)
    enter_all idle late (choice.Entry e) may = enter_turn c f lookahead time (choice.Entry e) idle late may
    enter_all idle late o may = absurd may
call_turn c f service.DisableTimeRegulation a o none may =
    row_turn c f _ (Calm (record { time = refl; advance = refl; first = refl; bar = refl; constrained = refl; late = λ p. absurd (cc) }))
call_turn c f service.EnableTimeConstrained a o none may = let idle = none_from (c.row f).advance (clear_call (central_seen c) f service.EnableTimeConstrained none).0 in row_turn c f _ (Rested idle idle refl refl refl)
call_turn c f service.DisableTimeConstrained a (choice.Moved events) none may = let idle = none_from (c.row f).advance (clear_call (central_seen c) f service.DisableTimeConstrained none).0 in cease_turn c f (choice.Moved events) idle
call_turn c f (service.TimeAdvanceRequest time) a o none may = ask_turn c f kind.TimeAdvance time (clear_call (central_seen c) f (service.TimeAdvanceRequest time) none)
call_turn c f (service.TimeAdvanceRequestAvailable time) a o none may = ask_turn c f kind.TimeAdvanceAvailable time (clear_call (central_seen c) f (service.TimeAdvanceRequestAvailable time) none)
call_turn c f (service.NextEventRequest time) a o none may = ask_turn c f kind.NextEvent time (clear_call (central_seen c) f (service.NextEventRequest time) none)
call_turn c f (service.NextEventRequestAvailable time) a o none may = ask_turn c f kind.NextEventAvailable time (clear_call (central_seen c) f (service.NextEventRequestAvailable time) none)
call_turn c f (service.FlushQueueRequest time) a o none may = ask_turn c f kind.FlushQueue time (clear_call (central_seen c) f (service.FlushQueueRequest time) none)
call_turn c f (service.ModifyLookahead lookahead) a o none may = row_turn c f _ (Calm (record { time = refl; advance = refl; first = refl; bar = refl; constrained = refl; late = λ p. (p, refl) }))
call_turn c f service.EnableAsynchronousDelivery a o none may = row_turn c f _ (Calm (record { time = refl; advance = refl; first = refl; bar = refl; constrained = refl; late = λ p. (p, refl) }))
call_turn c f service.DisableAsynchronousDelivery a o none may = row_turn c f _ (Calm (record { time = refl; advance = refl; first = refl; bar = refl; constrained = refl; late = λ p. (p, refl) }))
call_turn c f s a o none may = λ i. Calm (same (c.row i))

carry_turn : (c : Central) (g f : ℕ) (x : Carried) (i : ℕ) → Turn c i ((after_carry c g f x).row i) ((after_carry c g f x).directory.joined i)
carry_turn c g f x i = Calm (calm x)
  where
    calm : (x : Carried) → Same (c.row i) ((after_carry c g f x).row i)
    calm (carried.Event e) = same (c.row i)
    calm (carried.Removal e) = same (c.row i)
    calm (carried.Retraction e) = same (c.row i)
    calm x = same (c.row i)

module _ (c : Central) (k : IsCentralKept c) (f : ℕ) where
  deliver_turn : (x : Content) (e : EventHandle) (d : Delivery) → MayDeliver c f x e d → (i : ℕ) → Turn c i ((after_delivery c f e d).row i) ((after_delivery c f e d).directory.joined i)
  deliver_turn x e delivery.Receive may = λ i. Calm (same (c.row i))
  deliver_turn x e (delivery.Demoted s) may = λ i. Calm (same (c.row i))
  deliver_turn x e (delivery.TimeStamp s) may = let w = may.3 in row_turn c f _ (Picked w.0 e s x w.1 may.0 may.2 w.2 (row_after_is (c.row f) (c.row f).advance w.0 (λ q. row_after_pick (c.row f) q s) w.1))

  constrain_turn : (t : ℕ) (o : Choice) → MayConstrain c f t o → (i : ℕ) → Turn c i ((after_constraint c f o).row i) ((after_constraint c f o).directory.joined i)
  constrain_turn t (choice.Moved events) may = let idle = (k.rows f).resting may.1 in row_turn c f _ (Rested idle idle refl refl refl)
  constrain_turn t o may = absurd may

  pub pick_turn : (x : Callback) (o : Choice) → MayPickUp c f x o → (i : ℕ) → Turn c i ((after_pick c f x o).row i) ((after_pick c f x o).directory.joined i)
  pick_turn (callback.DiscoverObjectInstance object class name) o may = λ i. Calm (same (c.row i))
  pick_turn (callback.ReflectAttributeValues object values event d) o may = deliver_turn (content.Reflection object values) event d may
  pick_turn (callback.ReceiveInteraction class values event d) o may = deliver_turn (content.Interaction class values) event d may
  pick_turn (callback.RemoveObjectInstance object event d) o may = deliver_turn (content.Removal object) event d may
  pick_turn (callback.TimeRegulationEnabled time) o may = row_turn c f _ (Regulated may.0 refl)
  pick_turn (callback.TimeConstrainedEnabled time) o may = constrain_turn time o may
  pick_turn (callback.TimeAdvanceGrant time) o may = row_turn c f _ (Granted may.0 time may.1 may.2 (row_after_is (c.row f) (c.row f).advance may.0 (λ q. row_after_grant (c.row f) q time) may.1))
  pick_turn (callback.RequestRetraction event) o may = λ i. Calm (same (c.row i))
  pick_turn (callback.SynchronizationPointRegistrationSucceeded label) o may = λ i. Calm (same (c.row i))
  pick_turn (callback.SynchronizationPointRegistrationFailed label) o may = λ i. Calm (same (c.row i))
  pick_turn (callback.AnnounceSynchronizationPoint label) o may = λ i. Calm (same (c.row i))
  pick_turn (callback.FederationSynchronized label) o may = λ i. Calm (same (c.row i))

done_turn : (c : Central) (step : Step) (a : Answer) (o : Choice) → refusal (central_seen c) step ≡ None → MayDo c step a o → IsCentralKept c → (i : ℕ) → Turn c i ((after_done c step a o).row i) ((after_done c step a o).directory.joined i)
done_turn c (Join name) a o none may k = join_turn c name k
done_turn c (Call f s) a o none may k = call_turn c f s a o none may
done_turn c (Carry from to) (answer.Carried x) o none may k = carry_turn c from to x
done_turn c (Tick f) (answer.Ticked (Some x)) o none may k = pick_turn c k f x o may.0
done_turn c step a o none may k = λ i. Calm (same (c.row i))

pub step_turn : (c : Central) (step : Step) (out : Outcome) (o : Choice) → MayEnd c step out o → IsCentralKept c → (i : ℕ) → Turn c i ((after c step out o).row i) ((after c step out o).directory.joined i)
step_turn c step (outcome.Done a) o may k = done_turn c step a o may.0 may.1 k
step_turn c (Tick f) (outcome.Failed x) o may k = pick_turn c k f x o may.1.0
step_turn c step out o may k = λ i. Calm (same (c.row i))
