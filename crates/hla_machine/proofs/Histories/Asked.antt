-- A grant answers a request
use Rattle.std.proofs.Common.{◌≡◌, ◌⊎◌, ℕ, ◌≤◌, cond, ◌&&◌, Bool, true, false, refl, sym, ◌∙◌, ap, subst, inl, inr, ⊎_elim, List, [], ◌∷◌, ◌++◌, Option, Some, None}
use Rattle.std.proofs.lemmas.Bool.{cond_both, cases_Bool}
use Rattle.std.proofs.lemmas.List.{append_assoc, append-nil}
use Rattle.hla_base.specs.declared.number.EventHandle.{EventHandle}
use Rattle.hla_base.specs.declared.content.Content.{Content}
use Rattle.hla_base.specs.declared.content.Content.TheVariants as content
use Rattle.hla_base.specs.declared.row.AdvanceKind.{AdvanceKind}
use Rattle.hla_base.specs.declared.row.AdvanceKind.TheVariants as kind
use Rattle.hla_base.specs.declared.row.AdvanceRequest.{AdvanceRequest}
use Rattle.hla_base.specs.declared.row.TimeRow.{TimeRow}
use Rattle.hla_base.specs.Tables.{upd, or_else}
use Rattle.hla_base.specs.Rows.{is_constrained, is_flush, is_next, first_or, grant_time, new_row, row_after_request, row_with_entry, row_after_regulation_enabled, row_after_constraint_enabled, row_after_pick, row_after_grant}
use Rattle.hla_callbacks.specs.declared.callback.Callback.{Callback}
use Rattle.hla_callbacks.specs.declared.callback.Callback.TheVariants as callback
use Rattle.hla_callbacks.specs.declared.callback.Delivery.{Delivery}
use Rattle.hla_callbacks.specs.declared.callback.Delivery.TheVariants as delivery
use Rattle.hla_catalogue.specs.CatalogueValue.{CatalogueValue}
use Rattle.hla_machine.specs.declared.service.Service.{Service}
use Rattle.hla_machine.specs.declared.service.Service.TheVariants as service
use Rattle.hla_machine.specs.declared.service.ResignAction.TheVariants.{DeleteObjects, NoAction}
use Rattle.hla_machine.specs.declared.step.Step.{Step}
use Rattle.hla_machine.specs.declared.step.Step.TheVariants.{Join, Call, Carry, Tick}
use Rattle.hla_machine.specs.declared.step.Carried.{Carried}
use Rattle.hla_machine.specs.declared.step.Carried.TheVariants as carried
use Rattle.hla_machine.specs.declared.step.Answer.{Answer}
use Rattle.hla_machine.specs.declared.step.Answer.TheVariants as answer
use Rattle.hla_machine.specs.declared.step.Outcome.{Outcome}
use Rattle.hla_machine.specs.declared.step.Outcome.TheVariants as outcome
use Rattle.hla_machine.specs.declared.step.Choice.{Choice}
use Rattle.hla_machine.specs.declared.step.Choice.TheVariants as choice
use Rattle.hla_machine.specs.Directory.{deletion_sent, deletions_sent, objects_of, update_sent, interaction_sent}
use Rattle.hla_machine.specs.Central.{Central, new_central}
use Rattle.hla_machine.specs.Callbacks.{MayPickIn, MayDeliver, MayPickUp, MayGrant, after_delivery, after_constraint, after_pick}
use Rattle.hla_machine.specs.Sends.{after_messages}
use Rattle.hla_machine.specs.Refusals.{call_tests}
use Rattle.hla_machine.specs.Machine.{central_seen, MayAnswer, MayDo, MayEnd, after_join, after_enter, after_cease, after_call, after_carry, after_done, after}
use Rattle.hla_machine.specs.Runs.{Happening, IsRun}
use Rattle.hla_machine.specs.Advancing.{request_service, IsPickedAmong, IsRequested, IsUnanswered, IsAskedFor}
use Rattle.hla_machine.specs.History.{GivesCallback, Brings, Picks, IsGranted, next_state}
use Rattle.hla_base.proofs.Tables.{upd_each, upd_same}
use Rattle.hla_machine.proofs.Basics.GrantCases.{grant_free, grant_plain}
use Rattle.hla_machine.proofs.Basics.Tests.{AllClear, clear_call}
use Rattle.hla_machine.proofs.Upkeep.Runs.{row_after_is}
use Rattle.hla_machine.proofs.Upkeep.Services.{none_from}
use Rattle.hla_machine.proofs.Upkeep.Turns.{sent_rows}
use Rattle.hla_machine.proofs.Upkeep.Numbers.{AllNumbers, numbers_after, numbers_new, grant_low}
use Rattle.hla_machine.proofs.Upkeep.Ahead.{given_of}

-- ---- what a step does to the advance of a federate
-- f gets the callback x at this step
abbrev Gets : Step → Outcome → ℕ → Callback → Type 0
Gets step out f x = GivesCallback step out f x

data Course (step : Step) (out : Outcome) (f : ℕ) (old new : TimeRow) : Type 0 where
  Rests : new.advance ≡ None → Course step out f old new
  Goes : new.advance ≡ old.advance → new.first_pick ≡ old.first_pick → Course step out f old new
  Asks : (k : AdvanceKind) (a : ℕ) → step ≡ Call f (request_service k a) → out ≡ outcome.Done answer.Done → new.advance ≡ Some (record { kind = k; asked = a }) → new.first_pick ≡ None → Course step out f old new
  Takes : (q : AdvanceRequest) (x : Callback) (e : EventHandle) (s : ℕ) → old.advance ≡ Some q → Gets step out f x → Brings x e s → new ≡ row_after_pick old q s → Course step out f old new

-- one row changes
one_row : (step : Step) (out : Outcome) (c : Central) (g : ℕ) (r : TimeRow) → Course step out g (c.row g) r → (f : ℕ) → Course step out f (c.row f) (upd c.row g r f)
one_row step out c g r here = upd_each c.row g r (λ i y. Course step out i (c.row i) y) here (λ j ne. Goes refl refl)

same_rows : (step : Step) (out : Outcome) (c : Central) (row : ℕ → TimeRow) → row ≡ c.row → (f : ℕ) → Course step out f (c.row f) (row f)
same_rows step out c row e f = Goes (ap (λ (row : ℕ → TimeRow). (row f).advance) e) (ap (λ (row : ℕ → TimeRow). (row f).first_pick) e)

enter_course : (step : Step) (out : Outcome) (c : Central) (f lookahead : ℕ) (o : Choice) → (i : ℕ) → Course step out i (c.row i) ((after_enter c f lookahead o).row i)
enter_course step out c f lookahead (choice.Entry e) = one_row step out c f _ (Goes refl refl)
enter_course step out c f lookahead o = same_rows step out c c.row refl

cease_course : (step : Step) (out : Outcome) (c : Central) (f : ℕ) (o : Choice) → (i : ℕ) → Course step out i (c.row i) ((after_cease c f o).row i)
cease_course step out c f (choice.Moved events) = one_row step out c f _ (Goes refl refl)
cease_course step out c f o = same_rows step out c c.row refl

-- a service that requests an advance is answered with nothing
request_done : (k : AdvanceKind) (t : ℕ) (c : Central) (f : ℕ) (a : Answer) (o : Choice) → MayAnswer c f (request_service k t) a o → a ≡ answer.Done
request_done kind.TimeAdvance t c f answer.Done o may = refl
request_done kind.TimeAdvance t c f a o may = absurd may
request_done kind.TimeAdvanceAvailable t c f answer.Done o may = refl
request_done kind.TimeAdvanceAvailable t c f a o may = absurd may
request_done kind.NextEvent t c f answer.Done o may = refl
request_done kind.NextEvent t c f a o may = absurd may
request_done kind.NextEventAvailable t c f answer.Done o may = refl
request_done kind.NextEventAvailable t c f a o may = absurd may
request_done kind.FlushQueue t c f answer.Done o may = refl
request_done kind.FlushQueue t c f a o may = absurd may

ask_course : (c : Central) (f : ℕ) (s : Service) (k : AdvanceKind) (t : ℕ) (a : Answer) (o : Choice) → s ≡ request_service k t → MayAnswer c f (request_service k t) a o
    → (i : ℕ) → Course (Call f s) (outcome.Done a) i (c.row i) (upd c.row f (row_after_request (c.row f) k t) i)
ask_course c f s k t a o is may = one_row _ _ c f _ (Asks k t (ap (λ (s : Service). Call f s) is) (ap outcome.Done (request_done k t c f a o may)) refl refl)

left_course : (step : Step) (out : Outcome) (c : Central) (row : ℕ → TimeRow) → row ≡ c.row → (g f : ℕ) → Course step out f (c.row f) (upd row g new_row f)
left_course step out c row e g f = subst (λ (row : ℕ → TimeRow). Course step out f (c.row f) (upd row g new_row f)) (sym e) (one_row step out c g new_row (Rests refl) f)

call_course : (c : Central) (f : ℕ) (s : Service) (a : Answer) (o : Choice) → MayAnswer c f s a o → (i : ℕ) → Course (Call f s) (outcome.Done a) i (c.row i) ((after_call c f s o).row i)
call_course c f (service.Resign DeleteObjects) a o may = left_course _ _ c _ (sent_rows c f None (deletions_sent (objects_of c.directory f))) f
call_course c f (service.Resign NoAction) a o may = left_course _ _ c c.row refl f
call_course c f (service.UpdateAttributeValues object values stamp) a o may = same_rows _ _ c _ (sent_rows c f stamp (update_sent c.directory object values))
call_course c f (service.SendInteraction class values stamp) a o may = same_rows _ _ c _ (sent_rows c f stamp (interaction_sent c.directory f class values))
call_course c f (service.DeleteObjectInstance object stamp) a o may = same_rows _ _ c _ (sent_rows c f stamp (deletion_sent c.directory object))
call_course c f (service.EnableTimeRegulation time lookahead) a o may = enter_course _ _ c f lookahead o
call_course c f service.DisableTimeRegulation a o may = one_row _ _ c f _ (Goes refl refl)
call_course c f service.EnableTimeConstrained a o may = one_row _ _ c f _ (Goes refl refl)
call_course c f service.DisableTimeConstrained a o may = cease_course _ _ c f o
call_course c f (service.TimeAdvanceRequest time) a o may = ask_course c f _ kind.TimeAdvance time a o refl may
call_course c f (service.TimeAdvanceRequestAvailable time) a o may = ask_course c f _ kind.TimeAdvanceAvailable time a o refl may
call_course c f (service.NextEventRequest time) a o may = ask_course c f _ kind.NextEvent time a o refl may
call_course c f (service.NextEventRequestAvailable time) a o may = ask_course c f _ kind.NextEventAvailable time a o refl may
call_course c f (service.FlushQueueRequest time) a o may = ask_course c f _ kind.FlushQueue time a o refl may
call_course c f (service.ModifyLookahead lookahead) a o may = one_row _ _ c f _ (Goes refl refl)
call_course c f service.EnableAsynchronousDelivery a o may = one_row _ _ c f _ (Goes refl refl)
call_course c f service.DisableAsynchronousDelivery a o may = one_row _ _ c f _ (Goes refl refl)
call_course c f s a o may = same_rows _ _ c c.row refl

carry_course : (step : Step) (out : Outcome) (c : Central) (g f : ℕ) (x : Carried) (i : ℕ) → Course step out i (c.row i) ((after_carry c g f x).row i)
carry_course step out c g f (carried.Event e) i = Goes refl refl
carry_course step out c g f (carried.Removal e) i = Goes refl refl
carry_course step out c g f (carried.Retraction e) i = Goes refl refl
carry_course step out c g f x i = Goes refl refl

module _ (step : Step) (out : Outcome) (c : Central) (f : ℕ) (k : Callback) (gets : Gets step out f k) where
  deliver_course : (x : Content) (e : EventHandle) (d : Delivery) → ((s : ℕ) → d ≡ delivery.TimeStamp s → Brings k e s) → MayDeliver c f x e d → (i : ℕ) → Course step out i (c.row i) ((after_delivery c f e d).row i)
  deliver_course x e delivery.Receive brings may = same_rows step out c c.row refl
  deliver_course x e (delivery.Demoted s) brings may = same_rows step out c c.row refl
  deliver_course x e (delivery.TimeStamp s) brings may = let w = may.3 in
      one_row step out c f _ (Takes w.0 k e s w.1 gets (brings s refl) (row_after_is (c.row f) (c.row f).advance w.0 (λ q. row_after_pick (c.row f) q s) w.1))

  constraint_course : (o : Choice) → (i : ℕ) → Course step out i (c.row i) ((after_constraint c f o).row i)
  constraint_course (choice.Moved events) = one_row step out c f _ (Goes refl refl)
  constraint_course o = same_rows step out c c.row refl

pick_course : (step : Step) (out : Outcome) (c : Central) (f : ℕ) (k : Callback) (o : Choice) → Gets step out f k → MayPickUp c f k o → (i : ℕ) → Course step out i (c.row i) ((after_pick c f k o).row i)
pick_course step out c f (callback.ReflectAttributeValues object values event d) o gets may = deliver_course step out c f (callback.ReflectAttributeValues object values event d) gets (content.Reflection object values) event d (λ s is. (refl, is)) may
pick_course step out c f (callback.ReceiveInteraction class values event d) o gets may = deliver_course step out c f (callback.ReceiveInteraction class values event d) gets (content.Interaction class values) event d (λ s is. (refl, is)) may
pick_course step out c f (callback.RemoveObjectInstance object event d) o gets may = deliver_course step out c f (callback.RemoveObjectInstance object event d) gets (content.Removal object) event d (λ s is. (refl, is)) may
pick_course step out c f (callback.TimeRegulationEnabled time) o gets may = one_row step out c f _ (Goes refl refl)
pick_course step out c f (callback.TimeConstrainedEnabled time) o gets may = constraint_course step out c f (callback.TimeConstrainedEnabled time) gets o
pick_course step out c f (callback.TimeAdvanceGrant time) o gets may =
    one_row step out c f _ (Rests (ap (λ (r : TimeRow). r.advance) (row_after_is (c.row f) (c.row f).advance may.0 (λ q. row_after_grant (c.row f) q time) may.1)))
pick_course step out c f k o gets may = same_rows step out c c.row refl

done_course : (c : Central) (step : Step) (a : Answer) (o : Choice) → MayDo c step a o → (i : ℕ) → Course step (outcome.Done a) i (c.row i) ((after_done c step a o).row i)
done_course c (Join name) a o may = one_row _ _ c c.directory.next_federate new_row (Rests refl)
done_course c (Call f s) a o may = call_course c f s a o may
done_course c (Carry from to) (answer.Carried x) o may = carry_course _ _ c from to x
done_course c (Tick f) (answer.Ticked (Some k)) o may = pick_course _ _ c f k o (refl, refl) may.0
done_course c step a o may = same_rows _ _ c c.row refl

step_course : (c : Central) (step : Step) (out : Outcome) (o : Choice) → MayEnd c step out o → (i : ℕ) → Course step out i (c.row i) ((after c step out o).row i)
step_course c step (outcome.Done a) o may = done_course c step a o may.1
step_course c (Tick f) (outcome.Failed k) o may = pick_course _ _ c f k o (refl, refl) may.1.0
step_course c step out o may = same_rows step out c c.row refl

-- ---- the request that is under way
-- among what has happened is the request q of f, the last that was done, and f was granted nothing since; and what it picked up first since
record Asking (past : List Happening) (f : ℕ) (r : TimeRow) (q : AdvanceRequest) : Type 0 where
  pub before : List Happening
  pub call : Happening
  pub since : List Happening
  pub whole : past ≡ before ++ (call ∷ since)
  pub requested : IsRequested call f q.kind q.asked
  pub unanswered : IsUnanswered since f
  pub first : (p : ℕ) → r.first_pick ≡ Some p → IsPickedAmong since f p

abbrev AllAsking : List Happening → Central → Type 0
AllAsking past c = (f : ℕ) (q : AdvanceRequest) → (c.row f).advance ≡ Some q → Asking past f (c.row f) q

-- who is granted a time is in no advance then
granted_rests : (c : Central) (h : Happening) (f t : ℕ) → MayEnd c h.step h.outcome h.choice → IsGranted h f t → ((next_state c h).row f).advance ≡ None
granted_rests c h f t may is =
    let g = given_of c h f (callback.TimeAdvanceGrant t) may is in
    let w = g.may in
    ap (λ (d : Central). (d.row f).advance) g.follows
    ∙ ap (λ (r : TimeRow). r.advance) (upd_same c.row f _ ∙ row_after_is (c.row f) (c.row f).advance w.0 (λ q. row_after_grant (c.row f) q t) w.1)

-- who is in an advance requests none that is done
requested_rests : (c : Central) (h : Happening) (f : ℕ) (k : AdvanceKind) (t : ℕ) → MayEnd c h.step h.outcome h.choice → IsRequested h f k t → (c.row f).advance ≡ None
requested_rests c h f k t may is =
    let at : MayEnd c (Call f (request_service k t)) (outcome.Done answer.Done) h.choice =
    subst (λ (out : Outcome). MayEnd c (Call f (request_service k t)) out h.choice) is.1 (subst (λ (step : Step). MayEnd c step h.outcome h.choice) is.0 may) in
    by k (clear_call (central_seen c) f (request_service k t) at.0)
  where
    by : (k : AdvanceKind) → AllClear (call_tests (central_seen c) f (request_service k t)) → (c.row f).advance ≡ None
    by kind.TimeAdvance clear = none_from (c.row f).advance clear.0
    by kind.TimeAdvanceAvailable clear = none_from (c.row f).advance clear.0
    by kind.NextEvent clear = none_from (c.row f).advance clear.0
    by kind.NextEventAvailable clear = none_from (c.row f).advance clear.0
    by kind.FlushQueue clear = none_from (c.row f).advance clear.0

unanswered_on : (f : ℕ) (xs : List Happening) (x : Happening) → IsUnanswered xs f → ((t : ℕ) → IsGranted x f t → ⊥) → ((k : AdvanceKind) (t : ℕ) → IsRequested x f k t → ⊥) → IsUnanswered (xs ++ (x ∷ [])) f
unanswered_on f [] x all ungranted unasked = (ungranted, unasked, tt)
unanswered_on f (y ∷ ys) x all ungranted unasked = (all.0, all.1, unanswered_on f ys x all.2 ungranted unasked)

picked_on : (f s : ℕ) (xs ys : List Happening) → IsPickedAmong xs f s → IsPickedAmong (xs ++ ys) f s
picked_on f s [] ys picked = absurd picked
picked_on f s (x ∷ xs) ys (inl here) = inl here
picked_on f s (x ∷ xs) ys (inr there) = inr (picked_on f s xs ys there)

picked_last : (f s : ℕ) (xs : List Happening) (x : Happening) (e : EventHandle) → Picks x f e s → IsPickedAmong (xs ++ (x ∷ [])) f s
picked_last f s [] x e picks = inl (e, picks)
picked_last f s (y ∷ ys) x e picks = inr (picked_last f s ys x e picks)

module _ (past : List Happening) (c : Central) (h : Happening) (may : MayEnd c h.step h.outcome h.choice) (f : ℕ) where
  abbrev new : TimeRow
  new = (next_state c h).row f

  -- the same request is under way
  asking_on : (q : AdvanceRequest) → (c.row f).advance ≡ Some q → new.advance ≡ Some q → Asking past f (c.row f) q → ((since : List Happening) → (p : ℕ) → ((p : ℕ) → (c.row f).first_pick ≡ Some p → IsPickedAmong since f p) → new.first_pick ≡ Some p → IsPickedAmong (since ++ (h ∷ [])) f p) → Asking (past ++ (h ∷ [])) f new q
  asking_on q was asks old firsts = record {
    before = old.before;
    call = old.call;
    since = old.since ++ (h ∷ []);
    whole = ap (λ (hs : List Happening). hs ++ (h ∷ [])) old.whole ∙ append_assoc old.before (old.call ∷ old.since) (h ∷ []);
    requested = old.requested;
    unanswered = unanswered_on f old.since h old.unanswered (λ t is. let e : None ≡ Some q = sym (granted_rests c h f t may is) ∙ asks in absurd (cc))
        (λ k t is. let e : None ≡ Some q = sym (requested_rests c h f k t may is) ∙ was in absurd (cc));
    first = λ p is. firsts old.since p old.first is;
  }

  first_taken : (q : AdvanceRequest) (e : EventHandle) (s : ℕ) (since : List Happening) (p : ℕ) → Picks h f e s → ((p : ℕ) → (c.row f).first_pick ≡ Some p → IsPickedAmong since f p)
      → (row_after_pick (c.row f) q s).first_pick ≡ Some p → IsPickedAmong (since ++ (h ∷ [])) f p
  first_taken q e s since p picks old = cond_both (is_flush q.kind) (c.row f).first_pick (or_else (c.row f).first_pick (Some s)) (λ o. o ≡ Some p → IsPickedAmong (since ++ (h ∷ [])) f p)
      (λ _ is. picked_on f p since (h ∷ []) (old p is))
      (λ _ is. of (c.row f).first_pick refl is)
    where
      of : (o : Option ℕ) → (c.row f).first_pick ≡ o → or_else o (Some s) ≡ Some p → IsPickedAmong (since ++ (h ∷ [])) f p
      of None was is = let same : s ≡ p = cc in subst (λ (p : ℕ). IsPickedAmong (since ++ (h ∷ [])) f p) same (picked_last f s since h e picks)
      of (Some x) was is = picked_on f p since (h ∷ []) (old p (was ∙ is))

  asking_course : AllAsking past c → (q : AdvanceRequest) → new.advance ≡ Some q → Course h.step h.outcome f (c.row f) new → Asking (past ++ (h ∷ [])) f new q
  asking_course all q asks (Rests none) = absurd (let e : None ≡ Some q = sym none ∙ asks in cc)
  asking_course all q asks (Goes same first) = asking_on q (sym same ∙ asks) asks (all f q (sym same ∙ asks)) (λ since p old is. picked_on f p since (h ∷ []) (old p (sym first ∙ is)))
  asking_course all q asks (Asks k a step out is none) =
      let e : Some (record { kind = k; asked = a }) ≡ Some q = sym is ∙ asks in
      let same : record { kind = k; asked = a } ≡ q = cc in
      subst (λ (q : AdvanceRequest). Asking (past ++ (h ∷ [])) f new q) same (record {
        before = past;
        call = h;
        since = [];
        whole = refl;
        requested = (step, out);
        unanswered = tt;
        first = λ p picked. let e : None ≡ Some p = sym none ∙ picked in absurd (cc);
      })
  asking_course all q asks (Takes p x e s was gets brings is) =
      let old : (c.row f).advance ≡ Some q = subst (λ (r : TimeRow). r.advance ≡ Some q) is asks in
      asking_on q old asks (all f q old) (λ since y from picked. first_taken p e s since y (record { given = x; gives = gets; brings = brings }) from (ap (λ (r : TimeRow). r.first_pick) (sym is) ∙ picked))

asking_step : (past : List Happening) (c : Central) (h : Happening) → MayEnd c h.step h.outcome h.choice → AllAsking past c → AllAsking (past ++ (h ∷ [])) (next_state c h)
asking_step past c h may all f q asks = asking_course past c h may f all q asks (step_course c h.step h.outcome h.choice may f)

asking_run : (past : List Happening) (c : Central) (hs : List Happening) (d : Central) → IsRun c hs d → AllAsking past c → AllNumbers c.row → AllAsking (past ++ hs) d × AllNumbers d.row
asking_run past c [] d run all low = subst (λ (d : Central). AllAsking (past ++ []) d × AllNumbers d.row) run (subst (λ (hs : List Happening). AllAsking hs c) (sym (append-nil past)) all, low)
asking_run past c (h ∷ hs) d run all low =
    let w = asking_run (past ++ (h ∷ [])) (next_state c h) hs d run.1 (asking_step past c h run.0.0 all) (numbers_after c h.step h.outcome h.choice run.0.0 low) in
    (subst (λ (hs : List Happening). AllAsking hs d) (append_assoc past (h ∷ []) hs) w.0, w.1)

-- ---- the law
-- the time of a grant that is no flush's
granted_at : (now : Central) (f t : ℕ) (q : AdvanceRequest) (past : List Happening) → MayGrant now f t q → (a : Asking past f (now.row f) q) → is_flush q.kind ≡ false → (t ≡ q.asked) ⊎ ((is_next q.kind ≡ true) × IsPickedAmong a.since f t)
granted_at now f t q past may a un = ⊎_elim
    (λ (con : is_constrained (now.row f) ≡ true). by (is_next q.kind) refl (now.row f).first_pick refl (grant_plain now f q t may con un).0)
    (λ (free : is_constrained (now.row f) ≡ false). inl (grant_free now f q t may free))
    (cases_Bool (is_constrained (now.row f)))
  where
    by : (b : Bool) → is_next q.kind ≡ b → (o : Option ℕ) → (now.row f).first_pick ≡ o → t ≡ grant_time (now.row f) q → (t ≡ q.asked) ⊎ ((is_next q.kind ≡ true) × IsPickedAmong a.since f t)
    by false n o is e = let at : t ≡ q.asked = rw n at e in inl at
    by true y None is e = inl (e ∙ cond_both (is_next q.kind && is_constrained (now.row f)) (first_or (now.row f).first_pick q.asked) q.asked (λ (x : ℕ). x ≡ q.asked) (λ _. ap (λ (o : Option ℕ). first_or o q.asked) is) (λ _. refl))
    by true y (Some p) is e = cond_both (is_next q.kind && is_constrained (now.row f)) (first_or (now.row f).first_pick q.asked) q.asked (λ (x : ℕ). t ≡ x → (t ≡ q.asked) ⊎ ((is_next q.kind ≡ true) × IsPickedAmong a.since f t))
        (λ _ at. let here : t ≡ p = at ∙ ap (λ (o : Option ℕ). first_or o q.asked) is in inr (y, subst (λ (t : ℕ). IsPickedAmong a.since f t) (sym here) (a.first p is)))
        (λ _ at. inl at) e

pub granted_as_asked : (catalogue : CatalogueValue) (earlier : List Happening) (now : Central) (h : Happening) (f t : ℕ) → IsRun (new_central catalogue) earlier now → MayEnd now h.step h.outcome h.choice → IsGranted h f t → IsAskedFor earlier f t
granted_as_asked catalogue earlier now h f t run may is =
    let w = asking_run [] (new_central catalogue) earlier now run (λ f q asks. absurd (cc)) (λ f. numbers_new) in
    let g = (given_of now h f (callback.TimeAdvanceGrant t) may is).may in
    let a = w.0 f g.0 g.1 in
    record {
      request = g.0;
      before = a.before;
      call = a.call;
      since = a.since;
      whole = a.whole;
      requested = a.requested;
      unanswered = a.unanswered;
      time = (grant_low now f g.0 t (w.1 f) g.1 g.2, granted_at now f t g.0 earlier g.2 a);
    }
