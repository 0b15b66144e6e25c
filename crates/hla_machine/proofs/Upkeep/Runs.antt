-- Each step of the machine keeps its law, and so does each run
use Rattle.std.proofs.Common.{◌≡◌, ℕ, ◌+◌, ◌≤◌, ◌<◌, cond, not, ◌&&◌, true, false, refl, sym, subst, ⊎_elim, arith, List, [], ◌∷◌, ◌++◌, Option, Some, None, option_map, IfSome}
use Rattle.std.proofs.lemmas.Bool.{cases_lt, cond_both, cases_Bool}
use Rattle.hla_base.specs.Limits.{max_time}
use Rattle.hla_base.specs.declared.number.EventHandle.{EventHandle}
use Rattle.hla_base.specs.declared.content.Content.{Content}
use Rattle.hla_base.specs.declared.content.Content.TheVariants as content
use Rattle.hla_base.specs.declared.row.AdvanceKind.TheVariants as kind
use Rattle.hla_base.specs.declared.row.AdvanceRequest.{AdvanceRequest}
use Rattle.hla_base.specs.declared.row.Role.{Role}
use Rattle.hla_base.specs.declared.row.Role.TheVariants.{Disabled, Pending, Enabled}
use Rattle.hla_base.specs.declared.row.TimeRow.{TimeRow}
use Rattle.hla_base.specs.Tables.{upd}
use Rattle.hla_base.specs.Rows.{is_next, is_flush, is_constrained, is_disabled, is_pending, row_after_regulation_enabled, row_after_constraint_enabled, row_after_pick, row_after_grant, bar_after, first_or, reach}
use Rattle.hla_catalogue.specs.CatalogueValue.{CatalogueValue}
use Rattle.hla_callbacks.specs.declared.callback.Callback.{Callback}
use Rattle.hla_callbacks.specs.declared.callback.Callback.TheVariants as callback
use Rattle.hla_callbacks.specs.declared.callback.Delivery.{Delivery}
use Rattle.hla_callbacks.specs.declared.callback.Delivery.TheVariants as delivery
use Rattle.hla_machine.specs.declared.service.Service.{Service}
use Rattle.hla_machine.specs.declared.service.Service.TheVariants as service
use Rattle.hla_machine.specs.declared.step.Step.{Step}
use Rattle.hla_machine.specs.declared.step.Step.TheVariants.{Join, Call, Carry, Tick}
use Rattle.hla_machine.specs.declared.step.Carried.{Carried}
use Rattle.hla_machine.specs.declared.step.Carried.TheVariants as carried
use Rattle.hla_machine.specs.declared.step.Answer.{Answer}
use Rattle.hla_machine.specs.declared.step.Answer.TheVariants as answer
use Rattle.hla_machine.specs.declared.step.Outcome.{Outcome}
use Rattle.hla_machine.specs.declared.step.Outcome.TheVariants as outcome
use Rattle.hla_machine.specs.declared.step.Choice.{Choice}
use Rattle.hla_machine.specs.declared.step.Choice.TheVariants as choice
use Rattle.hla_machine.specs.Directory.{deletion_sent, update_sent, interaction_sent}
use Rattle.hla_machine.specs.Central.{Central, new_central, Copy, Tso, BelowBound, demoted_copy, at_key}
use Rattle.hla_machine.specs.Callbacks.{IsCopy, MayPickIn, is_among, MayDeliver, MayPickUp, MayGrant, MayConstrain, with_demoted, row_after, with_central_row, after_delivery, after_constraint, after_pick}
use Rattle.hla_machine.specs.Refusals.{refusal}
use Rattle.hla_machine.specs.Machine.{central_seen, MayAnswer, MayDo, MayEnd, after_call, after_arrival, after_carry, after_done, after}
use Rattle.hla_machine.specs.Runs.{Happening, IsRun}
use Rattle.hla_machine.specs.History.{next_state, central_after}
use Rattle.hla_machine.specs.Laws.{IsSafe}
use Rattle.hla_machine.proofs.Basics.Tests.{clear_call, caller_joined, ticker_joined}
use Rattle.hla_machine.proofs.Basics.GrantCases.{grant_flush, grant_plain}
use Rattle.hla_machine.proofs.Basics.Rows.{law_new, law_constrained, law_lookahead, law_regulates, law_constrains, law_picked, law_granted, next_not_flush, le_reach, flush_not_strict, out_low, out_idle, out_picked, out_granted}
use Rattle.hla_machine.proofs.Upkeep.Keeps.{LowIn, BoundIn, IsCentralKept, NoMore, low_fewer, low_weaker, fewer_removed, fewer_demoted, fewer_moved, moved_else, keeps_low, keeps_row, old_bound, old_out, bound_max}
use Rattle.hla_machine.proofs.Upkeep.Services.{none_from, same_bag, join_keeps, sends_keep, high_stamps, resign_keeps, rest, ask_keeps, stop_keeps, asynchronous_keeps, entry_may, not_early, enter_after, cease_after, retract_keeps}

pub row_after_is : (r : TimeRow) (o : Option AdvanceRequest) (q : AdvanceRequest) (step : AdvanceRequest → TimeRow) → o ≡ Some q → row_after r o step ≡ step q
row_after_is r o q step e = rw e refl

-- ---- parts of a run
pub first_run : (c : Central) (xs ys : List Happening) (d : Central) → IsRun c (xs ++ ys) d → IsRun c xs (central_after c xs)
first_run c [] ys d run = refl
first_run c (h ∷ xs) ys d run = (run.0, first_run (next_state c h) xs ys d run.1)

pub rest_run : (c : Central) (xs ys : List Happening) (d : Central) → IsRun c (xs ++ ys) d → IsRun (central_after c xs) ys d
rest_run c [] ys d run = run
rest_run c (h ∷ xs) ys d run = rest_run (next_state c h) xs ys d run.1

-- ---- services
call_keeps : (c : Central) (f : ℕ) (s : Service) (a : Answer) (o : Choice) → refusal (central_seen c) (Call f s) ≡ None → MayAnswer c f s a o → IsCentralKept c → IsCentralKept (after_call c f s o)
call_keeps c f (service.Resign way) a o none may k = resign_keeps c f way k
call_keeps c f (service.UpdateAttributeValues object values stamp) a o none may k = let x = clear_call (central_seen c) f (service.UpdateAttributeValues object values stamp) none in let outs = update_sent c.directory object values in
    let x1 = x.1 in let x2 = x1.1 in let x3 = x2.1 in let x4 = x3.1 in sends_keep c f stamp outs (high_stamps (c.row f) stamp outs x4.0) k
call_keeps c f (service.SendInteraction class values stamp) a o none may k = let x = clear_call (central_seen c) f (service.SendInteraction class values stamp) none in let outs = interaction_sent c.directory f class values in
    let x1 = x.1 in let x2 = x1.1 in let x3 = x2.1 in sends_keep c f stamp outs (high_stamps (c.row f) stamp outs x3.0) k
call_keeps c f (service.DeleteObjectInstance object stamp) a o none may k = let x = clear_call (central_seen c) f (service.DeleteObjectInstance object stamp) none in let outs = deletion_sent c.directory object in
    let x1 = x.1 in let x2 = x1.1 in sends_keep c f stamp outs (high_stamps (c.row f) stamp outs x2.0) k
call_keeps c f (service.Retract event) a o none may k = retract_keeps c f event.serial k
call_keeps c f (service.EnableTimeRegulation time lookahead) a o none may k =
    let member = caller_joined (central_seen c) f (service.EnableTimeRegulation time lookahead) none in
    let x = clear_call (central_seen c) f (service.EnableTimeRegulation time lookahead) none in let x1 = x.1 in let x2 = x1.1 in let x3 = x2.1 in
    let late = not_early (c.row f) (is_constrained (c.row f)) time max_time x3.0 in
    enter_after c f lookahead (time + lookahead) o k member (none_from (c.row f).advance x.0) (omega (arith, late)) (entry_may c f time lookahead a o may)
call_keeps c f service.DisableTimeRegulation a o none may k = stop_keeps c f k (caller_joined (central_seen c) f service.DisableTimeRegulation none)
call_keeps c f service.EnableTimeConstrained a o none may k =
    let idle = none_from (c.row f).advance (clear_call (central_seen c) f service.EnableTimeConstrained none).0 in
    rest c f k (caller_joined (central_seen c) f service.EnableTimeConstrained none) _ (law_constrained (c.row f) (k.rows f) idle) idle (omega arith) (λ e. e) (λ e. absurd (cc))
call_keeps c f service.DisableTimeConstrained a o none may k =
    cease_after c f o k (caller_joined (central_seen c) f service.DisableTimeConstrained none) (none_from (c.row f).advance (clear_call (central_seen c) f service.DisableTimeConstrained none).0)
call_keeps c f (service.TimeAdvanceRequest time) a o none may k = ask_keeps c f k (caller_joined (central_seen c) f (service.TimeAdvanceRequest time) none) kind.TimeAdvance time (clear_call (central_seen c) f (service.TimeAdvanceRequest time) none)
call_keeps c f (service.TimeAdvanceRequestAvailable time) a o none may k = ask_keeps c f k (caller_joined (central_seen c) f (service.TimeAdvanceRequestAvailable time) none) kind.TimeAdvanceAvailable time (clear_call (central_seen c) f (service.TimeAdvanceRequestAvailable time) none)
call_keeps c f (service.NextEventRequest time) a o none may k = ask_keeps c f k (caller_joined (central_seen c) f (service.NextEventRequest time) none) kind.NextEvent time (clear_call (central_seen c) f (service.NextEventRequest time) none)
call_keeps c f (service.NextEventRequestAvailable time) a o none may k = ask_keeps c f k (caller_joined (central_seen c) f (service.NextEventRequestAvailable time) none) kind.NextEventAvailable time (clear_call (central_seen c) f (service.NextEventRequestAvailable time) none)
call_keeps c f (service.FlushQueueRequest time) a o none may k = ask_keeps c f k (caller_joined (central_seen c) f (service.FlushQueueRequest time) none) kind.FlushQueue time (clear_call (central_seen c) f (service.FlushQueueRequest time) none)
call_keeps c f (service.ModifyLookahead lookahead) a o none may k =
    let x = clear_call (central_seen c) f (service.ModifyLookahead lookahead) none in let x1 = x.1 in
    let idle = none_from (c.row f).advance x1.0 in
    rest c f k (caller_joined (central_seen c) f (service.ModifyLookahead lookahead) none) _ (law_lookahead (c.row f) lookahead (k.rows f) idle) idle (omega arith) (λ e. e) (λ e. (e, refl, refl))
call_keeps c f service.EnableAsynchronousDelivery a o none may k = asynchronous_keeps c f k (caller_joined (central_seen c) f service.EnableAsynchronousDelivery none) true
call_keeps c f service.DisableAsynchronousDelivery a o none may k = asynchronous_keeps c f k (caller_joined (central_seen c) f service.DisableAsynchronousDelivery none) false
call_keeps c f s a o none may k = k

-- ---- what arrives
module _ (c : Central) (k : IsCentralKept c) where
  fewer_keeps : (to : ℕ → ℕ → ℕ → Option Copy) → NoMore to c.bag → IsCentralKept (record c { bag = to })
  fewer_keeps to fewer = keeps_low c.directory.next_federate c.directory.joined c.row c.serial c.bag to c.sent c.sent fewer (low_fewer to c.bag c.sent fewer) k

  arrived_keeps : (g f m : ℕ) → IsCentralKept (after_arrival c g f m)
  arrived_keeps g f m = fewer_keeps _ (cond_both (is_disabled (c.row f).constrained) (at_key c.bag g m f (option_map demoted_copy (c.bag g m f))) c.bag (λ b. NoMore b c.bag) (λ _. fewer_demoted c.bag g m f) (λ _. same_bag c.bag))

  carry_keeps : (g f : ℕ) (x : Carried) → IsCentralKept (after_carry c g f x)
  carry_keeps g f carried.Nothing = k
  carry_keeps g f (carried.Null bound) = k
  carry_keeps g f (carried.Event e) = arrived_keeps g f e.serial
  carry_keeps g f (carried.Removal e) = arrived_keeps g f e.serial
  carry_keeps g f (carried.Retraction e) = fewer_keeps (at_key c.bag g e.serial f None) (fewer_removed c.bag g e.serial f)
  carry_keeps g f (carried.Discovery object) = k

  -- ---- ticks
  module _ (f : ℕ) (member : c.directory.joined f ≡ true) where
    tso_keeps : (q : AdvanceRequest) (e : EventHandle) (s : ℕ) (x : Content) → (c.row f).advance ≡ Some q → is_constrained (c.row f) ≡ true → IsCopy c f e (record { order = Tso; stamp = s; content = x }) → MayPickIn c f q e s
        → IsCentralKept (record c { row = upd c.row f (row_after_pick (c.row f) q s); bag = at_key c.bag e.sender e.serial f None })
    tso_keeps q e s x asks con copy may =
        let to = at_key c.bag e.sender e.serial f None in
        let fewer = fewer_removed c.bag e.sender e.serial f in
        keeps_row c.directory.next_federate c.directory.joined c.row c.serial c.bag to c.sent f (row_after_pick (c.row f) q s) k (record {
          fewer = fewer;
          member = member;
          law = law_picked (c.row f) q s (k.rows f) asks (λ n. (may.1 n).asked) (λ n y p is. subst (λ o. IfSome o (λ p. s ≡ p)) is ((may.1 n).at_first_pick y));
          out = λ reg v l ne lc same. out_picked _ _ (c.row f) q s v (λ y. low_fewer to c.bag c.sent fewer f y) (λ n y low. low e.sender e.serial (record { order = Tso; stamp = s; content = x }) copy (may.1 n).unretracted refl)
              (old_out c.directory.next_federate c.directory.joined c.row c.serial c.bag to c.sent f (c.row f) k reg v l ne lc same);
          bar = λ _. cond_both (is_flush q.kind) (c.row f).bar (bar_after (c.row f) q.kind s) (λ v. BoundIn c.directory.joined c.row to c.sent f v)
              (λ _. old_bound c.directory.next_federate c.directory.joined c.row c.serial c.bag to c.sent f (c.row f) k fewer con)
              (λ n. bound_max c.directory.joined c.row to c.sent f (c.row f).bar (reach q.kind s) (old_bound c.directory.next_federate c.directory.joined c.row c.serial c.bag to c.sent f (c.row f) k fewer con)
              (bound_fewer to fewer f (reach q.kind s) (may.1 n).bound));
          ahead = λ _. low_fewer to c.bag c.sent fewer f (c.row f).time (k.ahead f con);
        })
      where
        bound_fewer : (to : ℕ → ℕ → ℕ → Option Copy) → NoMore to c.bag → (f v : ℕ) → BoundIn c.directory.joined c.row c.bag c.sent f v → BoundIn c.directory.joined c.row to c.sent f v
        bound_fewer to fewer f v b = (b.0, λ g j ne reg. out_low _ _ (c.row g) v (low_weaker c.bag c.sent g) (λ y _. low_fewer to c.bag c.sent fewer g y) (b.1 g j ne reg))

    deliver_keeps : (x : Content) (e : EventHandle) (d : Delivery) → MayDeliver c f x e d → IsCentralKept (after_delivery c f e d)
    deliver_keeps x e delivery.Receive may = fewer_keeps (at_key c.bag e.sender e.serial f None) (fewer_removed c.bag e.sender e.serial f)
    deliver_keeps x e (delivery.Demoted s) may = fewer_keeps (at_key c.bag e.sender e.serial f None) (fewer_removed c.bag e.sender e.serial f)
    deliver_keeps x e (delivery.TimeStamp s) may =
        let w = may.3 in
        subst (λ (r : TimeRow). IsCentralKept (record c { row = upd c.row f r; bag = at_key c.bag e.sender e.serial f None })) (sym (row_after_is (c.row f) (c.row f).advance w.0 (λ q. row_after_pick (c.row f) q s) w.1)) (tso_keeps w.0 e s x w.1 may.0 may.2 w.2)

    regulate_keeps : is_pending (c.row f).regulating ≡ true → IsCentralKept (with_central_row c f (row_after_regulation_enabled (c.row f)))
    regulate_keeps was =
        let reg = pending_regulator (c.row f).regulating was in
        keeps_row c.directory.next_federate c.directory.joined c.row c.serial c.bag c.bag c.sent f (row_after_regulation_enabled (c.row f)) k (record {
          fewer = same_bag c.bag;
          member = member;
          law = law_regulates (c.row f) (k.rows f) was reg;
          out = λ _. old_out c.directory.next_federate c.directory.joined c.row c.serial c.bag c.bag c.sent f (c.row f) k reg;
          bar = k.bounded f;
          ahead = λ con. subst (λ t. LowIn c.bag c.sent f t) (sym ((k.rows f).steady con was)) (k.ahead f con);
        })
      where
        pending_regulator : (r : Role) → is_pending r ≡ true → not (is_disabled r) ≡ true
        pending_regulator Disabled e = absurd (cc)
        pending_regulator Pending e = refl
        pending_regulator Enabled e = absurd (cc)

    constrain_keeps : (t : ℕ) (o : Choice) → MayConstrain c f t o → IsCentralKept (after_constraint c f o)
    constrain_keeps t (choice.Moved events) may =
        let to = with_demoted c.bag f events in
        let fewer = fewer_moved c.bag f events in
        let was = may.1 in
        let idle = (k.rows f).resting was in
        let bound : BelowBound c f (c.row f).time = subst (λ t. BelowBound c f t) may.0 may.3 in
        let below = may.4 in
        keeps_row c.directory.next_federate c.directory.joined c.row c.serial c.bag to c.sent f (row_after_constraint_enabled (c.row f)) k (record {
          fewer = fewer;
          member = member;
          law = law_constrains (c.row f) (k.rows f) was may.2;
          out = λ reg v l ne lc same. out_idle _ _ (c.row f) (row_after_constraint_enabled (c.row f)) v idle (omega arith) (old_out c.directory.next_federate c.directory.joined c.row c.serial c.bag to c.sent f (c.row f) k reg v l ne lc same);
          bar = λ _. (bound.0, λ g j ne reg. out_low _ _ (c.row g) (c.row f).time (low_weaker c.bag c.sent g) (λ y _. low_fewer to c.bag c.sent fewer g y) (bound.1 g j ne reg));
          ahead = λ _ g m x is live tso. let w = moved_else c.bag f events g m x is tso in ⊎_elim
              (λ (l : x.stamp < (c.row f).time). absurd (let y : is_among events g m ≡ true = below.1 g m x w.1 live tso (subst (λ t. x.stamp < t) (sym may.0) l) in let n : is_among events g m ≡ false = w.0 in cc))
              (λ (l : (c.row f).time ≤ x.stamp). l)
              (cases_lt x.stamp (c.row f).time);
        })
    constrain_keeps t o may = absurd may

    grant_keeps : (q : AdvanceRequest) (t : ℕ) → (c.row f).advance ≡ Some q → MayGrant c f t q → IsCentralKept (with_central_row c f (row_after_grant (c.row f) q t))
    grant_keeps q t asks may =
        keeps_row c.directory.next_federate c.directory.joined c.row c.serial c.bag c.bag c.sent f (row_after_grant (c.row f) q t) k (record {
          fewer = same_bag c.bag;
          member = member;
          law = law_granted (c.row f) q t (k.rows f) asks (λ con y p is. let l = first con y in let l2 : first_or (Some p) q.asked ≤ t = subst (λ o. first_or o q.asked ≤ t) is l in l2);
          out = λ reg v l ne lc same. out_granted (LowIn c.bag c.sent f) (LowIn c.bag c.sent f) (c.row f) q t v asks first (old_out c.directory.next_federate c.directory.joined c.row c.serial c.bag c.bag c.sent f (c.row f) k reg v l ne lc same);
          bar = λ con. cond_both (is_constrained (c.row f)) (bar_after (c.row f) q.kind t) (c.row f).bar (λ v. BoundIn c.directory.joined c.row c.bag c.sent f v)
              (λ _. bound_max c.directory.joined c.row c.bag c.sent f (c.row f).bar (reach q.kind t) (k.bounded f con) (reached con).0) (λ _. k.bounded f con);
          ahead = λ con. (reached con).1;
        })
      where
        first : is_constrained (c.row f) ≡ true → is_next q.kind ≡ true → first_or (c.row f).first_pick q.asked ≤ t
        first con y = let same : t ≡ cond (is_next q.kind && is_constrained (c.row f)) (first_or (c.row f).first_pick q.asked) q.asked = (grant_plain c f q t may con (next_not_flush q.kind y)).0 in
            let at : t ≡ first_or (c.row f).first_pick q.asked = rw (y, con) at same in omega arith

        reached : is_constrained (c.row f) ≡ true → BelowBound c f (reach q.kind t) × LowIn c.bag c.sent f t
        reached con = ⊎_elim
            (λ (y : is_flush q.kind ≡ true). let w = grant_flush c f q t may con y in (rw (flush_not_strict q.kind y) w.3, w.4))
            (λ (n : is_flush q.kind ≡ false). let w = (grant_plain c f q t may con n).1 in (w.0, low_weaker c.bag c.sent f (reach q.kind t) t (le_reach q.kind t) w.1))
            (cases_Bool (is_flush q.kind))

    pick_keeps : (x : Callback) (o : Choice) → MayPickUp c f x o → IsCentralKept (after_pick c f x o)
    pick_keeps (callback.DiscoverObjectInstance object class name) o may = k
    pick_keeps (callback.ReflectAttributeValues object values event d) o may = deliver_keeps (content.Reflection object values) event d may
    pick_keeps (callback.ReceiveInteraction class values event d) o may = deliver_keeps (content.Interaction class values) event d may
    pick_keeps (callback.RemoveObjectInstance object event d) o may = deliver_keeps (content.Removal object) event d may
    pick_keeps (callback.TimeRegulationEnabled time) o may = regulate_keeps may.0
    pick_keeps (callback.TimeConstrainedEnabled time) o may = constrain_keeps time o may
    pick_keeps (callback.TimeAdvanceGrant time) o may = subst (λ (r : TimeRow). IsCentralKept (with_central_row c f r)) (sym (row_after_is (c.row f) (c.row f).advance may.0 (λ q. row_after_grant (c.row f) q time) may.1)) (grant_keeps may.0 time may.1 may.2)
    pick_keeps (callback.RequestRetraction event) o may = k
    pick_keeps (callback.SynchronizationPointRegistrationSucceeded label) o may = k
    pick_keeps (callback.SynchronizationPointRegistrationFailed label) o may = k
    pick_keeps (callback.AnnounceSynchronizationPoint label) o may = k
    pick_keeps (callback.FederationSynchronized label) o may = k

-- ---- any step
done_keeps : (c : Central) (step : Step) (a : Answer) (o : Choice) → refusal (central_seen c) step ≡ None → MayDo c step a o → IsCentralKept c → IsCentralKept (after_done c step a o)
done_keeps c (Join name) a o none may k = join_keeps c name k
done_keeps c (Call f s) a o none may k = call_keeps c f s a o none may k
done_keeps c (Carry from to) (answer.Carried x) o none may k = carry_keeps c k from to x
done_keeps c (Tick f) (answer.Ticked (Some x)) o none may k = pick_keeps c k f (ticker_joined (central_seen c) f none) x o may.0
done_keeps c step a o none may k = k

pub step_keeps : (c : Central) (step : Step) (out : Outcome) (o : Choice) → MayEnd c step out o → IsCentralKept c → IsCentralKept (after c step out o)
step_keeps c step (outcome.Done a) o may k = done_keeps c step a o may.0 may.1 k
step_keeps c (Tick f) (outcome.Failed x) o may k = pick_keeps c k f (ticker_joined (central_seen c) f may.0) x o may.1.0
step_keeps c step out o may k = k

run_keeps : (c : Central) (hs : List Happening) (d : Central) → IsRun c hs d → IsCentralKept c → IsCentralKept d
run_keeps c [] d run k = subst IsCentralKept run k
run_keeps c (h ∷ hs) d run k = run_keeps (after c h.step h.outcome h.choice) hs d run.1 (step_keeps c h.step h.outcome h.choice run.0.0 k)

pub start_keeps : (catalogue : CatalogueValue) → IsCentralKept (new_central catalogue)
start_keeps catalogue = record {
  members = λ f e. absurd (cc);
  regulators = λ g e. absurd (cc);
  constrained = λ f e. absurd (cc);
  rows = λ _. law_new;
  bounded = λ f e. absurd (cc);
  ahead = λ f e. absurd (cc);
  unused = λ g m f k e. absurd (cc);
}

pub run_safe : (catalogue : CatalogueValue) (hs : List Happening) (c : Central) → IsRun (new_central catalogue) hs c → IsSafe c
run_safe catalogue hs c run =
    let k = run_keeps (new_central catalogue) hs c run (start_keeps catalogue) in
    record { barred = λ f. (k.rows f).barred; bounded = k.bounded; ahead = k.ahead }
