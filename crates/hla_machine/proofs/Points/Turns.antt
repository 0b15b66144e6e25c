-- What a step of the machine does to the open points, to who is joined, and to what there is to be told
use Rattle.std.proofs.Common.{◌≡◌, ℕ, ◌+◌, cond, eqb, Bool, true, false, refl, ap, subst, ◌∙◌, List, [], ◌∷◌, ◌++◌, map, drop, Option, Some, None}
use Rattle.hla_base.specs.declared.number.EventHandle.{EventHandle}
use Rattle.hla_base.specs.declared.fault.Fault.{Fault}
use Rattle.hla_base.specs.declared.notice.Notice.{Notice}
use Rattle.hla_base.specs.declared.notice.NoticeKind.TheVariants as kind
use Rattle.hla_base.specs.Tables.{upd, numbers_below}
use Rattle.hla_callbacks.specs.declared.callback.Callback.{Callback}
use Rattle.hla_callbacks.specs.declared.callback.Callback.TheVariants as callback
use Rattle.hla_callbacks.specs.declared.callback.Delivery.{Delivery}
use Rattle.hla_callbacks.specs.declared.callback.Delivery.TheVariants as delivery
use Rattle.hla_synchronization.specs.Points.{Point, new_point, is_open, may_achieve, with_point, achieved_by, closing, left_open, notice, closing_of, points_after_notice}
use Rattle.std.specs.List.{filter}
use Rattle.hla_machine.specs.declared.service.Service.{Service}
use Rattle.hla_machine.specs.declared.service.Service.TheVariants as service
use Rattle.hla_machine.specs.declared.service.ResignAction.TheVariants.{DeleteObjects, NoAction}
use Rattle.hla_machine.specs.declared.step.Step.{Step}
use Rattle.hla_machine.specs.declared.step.Step.TheVariants.{Join, Call, Carry, Announce, Tick}
use Rattle.hla_machine.specs.declared.step.Carried.{Carried}
use Rattle.hla_machine.specs.declared.step.Carried.TheVariants as carried
use Rattle.hla_machine.specs.declared.step.Answer.{Answer}
use Rattle.hla_machine.specs.declared.step.Answer.TheVariants as answer
use Rattle.hla_machine.specs.declared.step.Outcome.{Outcome}
use Rattle.hla_machine.specs.declared.step.Outcome.TheVariants as outcome
use Rattle.hla_machine.specs.declared.step.Choice.{Choice}
use Rattle.hla_machine.specs.declared.step.Choice.TheVariants as choice
use Rattle.hla_machine.specs.Directory.{Directory, Outgoing, registration_notices, joining_notices, update_sent, interaction_sent, deletion_sent, deletions_sent, objects_of}
use Rattle.hla_machine.specs.Central.{Central}
use Rattle.hla_machine.specs.Callbacks.{MayPickUp, IsNextNotice, after_delivery, after_constraint, after_pick}
use Rattle.hla_machine.specs.Sends.{after_message, after_messages}
use Rattle.hla_machine.specs.Refusals.{refusal}
use Rattle.hla_machine.specs.Machine.{central_seen, MayAnswer, MayDo, MayEnd, after_leaving, after_enter, after_cease, after_call, after_carry, after_done, after}
use Rattle.hla_machine.specs.History.{GivesCallback}
use Rattle.hla_machine.specs.Synchronized.{registration_due, notices_told, notices_given}
use Rattle.hla_machine.proofs.Basics.Tests.{clear_call, not-is-false, caller_joined}

-- who is a member, when those are joined who are, below that number
abbrev pub members_of : (ℕ → Bool) → ℕ → List ℕ
members_of joined next = filter joined (numbers_below next)

-- each member is told of the points that close
abbrev pub closings : (ℕ → Bool) → ℕ → List Point → ℕ → List Notice
closings joined next points g = cond (joined g) (map closing_of (closing (members_of joined next) points)) []

-- a step that changes nothing of it
pub record IsStill (c d : Central) : Type 0 where
  pub points : d.directory.points ≡ c.directory.points
  pub notices : d.notices ≡ c.notices
  pub joined : d.directory.joined ≡ c.directory.joined
  pub next : d.directory.next_federate ≡ c.directory.next_federate

-- nothing is told by the step, and no registration answered
pub record TellsNothing (c : Central) (step : Step) (out : Outcome) : Type 0 where
  pub due : (f : ℕ) → registration_due c step out f ≡ []
  pub told : (f : ℕ) → notices_given step out f ≡ []

pub record IsRegistered (c : Central) (step : Step) (out : Outcome) (d : Central) (f : ℕ) (label : List ℕ) : Type 0 where
  pub step_is : step ≡ Call f (service.RegisterFederationSynchronizationPoint label)
  pub due : (g : ℕ) → registration_due c step out g ≡ cond (eqb f g) (notice (cond (is_open label c.directory.points) kind.RegistrationFailed kind.RegistrationSucceeded) label ∷ []) []
  pub told : (g : ℕ) → notices_given step out g ≡ []
  pub member : c.directory.joined f ≡ true
  pub points : d.directory.points ≡ cond (is_open label c.directory.points) c.directory.points (c.directory.points ++ new_point label ∷ [])
  pub notices : (g : ℕ) → d.notices g ≡ c.notices g ++ registration_notices c.directory f label g
  pub joined : d.directory.joined ≡ c.directory.joined
  pub next : d.directory.next_federate ≡ c.directory.next_federate

pub record IsAchieved (c : Central) (step : Step) (out : Outcome) (d : Central) (f : ℕ) (label : List ℕ) : Type 0 where
  pub step_is : step ≡ Call f (service.SynchronizationPointAchieved label)
  pub done : out ≡ outcome.Done answer.Done
  pub quiet : TellsNothing c step out
  pub may : may_achieve f label c.directory.points ≡ true
  pub points : d.directory.points ≡ left_open (members_of c.directory.joined c.directory.next_federate) (with_point (achieved_by f) label c.directory.points)
  pub notices : (g : ℕ) → d.notices g ≡ c.notices g ++ closings c.directory.joined c.directory.next_federate (with_point (achieved_by f) label c.directory.points) g
  pub joined : d.directory.joined ≡ c.directory.joined
  pub next : d.directory.next_federate ≡ c.directory.next_federate

pub record IsJoined (c : Central) (step : Step) (out : Outcome) (d : Central) : Type 0 where
  pub quiet : TellsNothing c step out
  pub points : d.directory.points ≡ c.directory.points
  pub notices : (g : ℕ) → d.notices g ≡ c.notices g ++ joining_notices c.directory g
  pub joined : d.directory.joined ≡ upd c.directory.joined c.directory.next_federate true
  pub next : d.directory.next_federate ≡ c.directory.next_federate + 1

pub record IsLeft (c : Central) (step : Step) (out : Outcome) (d : Central) (f : ℕ) : Type 0 where
  pub quiet : TellsNothing c step out
  pub points : d.directory.points ≡ left_open (members_of (upd c.directory.joined f false) c.directory.next_federate) c.directory.points
  pub notices : (g : ℕ) → d.notices g ≡ upd c.notices f [] g ++ closings (upd c.directory.joined f false) c.directory.next_federate c.directory.points g
  pub joined : d.directory.joined ≡ upd c.directory.joined f false
  pub next : d.directory.next_federate ≡ c.directory.next_federate

pub record IsToldOf (c : Central) (step : Step) (out : Outcome) (d : Central) (f : ℕ) (n : Notice) : Type 0 where
  pub due : (g : ℕ) → registration_due c step out g ≡ []
  pub told : (g : ℕ) → notices_given step out g ≡ cond (eqb f g) (n ∷ []) []
  pub gives : n.kind ≡ kind.Announced → GivesCallback step out f (callback.AnnounceSynchronizationPoint n.label)
  pub first : IsNextNotice (c.notices f) n
  pub points : d.directory.points ≡ points_after_notice f n c.directory.points
  pub notices : (g : ℕ) → d.notices g ≡ upd c.notices f (drop 1 (c.notices f)) g
  pub joined : d.directory.joined ≡ c.directory.joined
  pub next : d.directory.next_federate ≡ c.directory.next_federate

pub data PointTurn (c : Central) (step : Step) (out : Outcome) (d : Central) : Type 0 where
  Still : TellsNothing c step out → IsStill c d → PointTurn c step out d
  Registered : (f : ℕ) (label : List ℕ) → IsRegistered c step out d f label → PointTurn c step out d
  Achieved : (f : ℕ) (label : List ℕ) → IsAchieved c step out d f label → PointTurn c step out d
  Joined : IsJoined c step out d → PointTurn c step out d
  Left : (f : ℕ) → IsLeft c step out d f → PointTurn c step out d
  Told : (f : ℕ) (n : Notice) → IsToldOf c step out d f n → PointTurn c step out d

-- ---- sending
abbrev IsSame : Central → Central → Type 0
IsSame c d = (d.directory ≡ c.directory) × (d.notices ≡ c.notices)

sent_same : (c : Central) (f : ℕ) (stamp : Option ℕ) (outs : List Outgoing) → IsSame c (after_messages c f stamp outs)
sent_same c f stamp [] = (refl, refl)
sent_same c f stamp (out ∷ outs) = sent_same (after_message c f stamp out) f stamp outs

still_same : (c d : Central) → IsSame c d → IsStill c d
still_same c d same = record {
  points = ap (λ (x : Directory). x.points) same.0;
  notices = same.1;
  joined = ap (λ (x : Directory). x.joined) same.0;
  next = ap (λ (x : Directory). x.next_federate) same.0;
}

still_itself : (c : Central) → IsStill c c
still_itself c = record { points = refl; notices = refl; joined = refl; next = refl }

-- ---- services
abbrev call_quiet : Central → ℕ → Service → Answer → Type 0
call_quiet c f s a = TellsNothing c (Call f s) (outcome.Done a)

left_turn : (c b : Central) (f : ℕ) (s : Service) (a : Answer) → call_quiet c f s a → IsSame c b → PointTurn c (Call f s) (outcome.Done a) (after_leaving b f)
left_turn c b f s a quiet same = Left f (record {
  quiet = quiet;
  points = ap (λ (x : Directory). left_open (members_of (upd x.joined f false) x.next_federate) x.points) same.0;
  notices = λ g. subst (λ (x : Directory). upd b.notices f [] g ++ closings (upd b.directory.joined f false) b.directory.next_federate b.directory.points g
      ≡ upd c.notices f [] g ++ closings (upd x.joined f false) x.next_federate x.points g) same.0
      (ap (λ (ns : ℕ → List Notice). upd ns f [] g ++ closings (upd b.directory.joined f false) b.directory.next_federate b.directory.points g) same.1);
  joined = ap (λ (x : Directory). upd x.joined f false) same.0;
  next = ap (λ (x : Directory). x.next_federate) same.0;
})

enter_still : (c : Central) (f lookahead : ℕ) (o : Choice) → IsStill c (after_enter c f lookahead o)
enter_still c f lookahead choice.None = still_itself c
enter_still c f lookahead (choice.Entry e) = record { points = refl; notices = refl; joined = refl; next = refl }
enter_still c f lookahead (choice.Moved events) = still_itself c

cease_still : (c : Central) (f : ℕ) (o : Choice) → IsStill c (after_cease c f o)
cease_still c f choice.None = still_itself c
cease_still c f (choice.Entry e) = still_itself c
cease_still c f (choice.Moved events) = record { points = refl; notices = refl; joined = refl; next = refl }

answered_done : (c : Central) (f : ℕ) (label : List ℕ) (a : Answer) (o : Choice) → MayAnswer c f (service.SynchronizationPointAchieved label) a o → outcome.Done a ≡ outcome.Done answer.Done
answered_done c f label answer.Done o may = refl
answered_done c f label a o may = absurd may

call_turn : (c : Central) (f : ℕ) (s : Service) (a : Answer) (o : Choice) → refusal (central_seen c) (Call f s) ≡ None → MayAnswer c f s a o → PointTurn c (Call f s) (outcome.Done a) (after_call c f s o)
call_turn c f (service.Resign DeleteObjects) a o none may =
    left_turn c (after_messages c f None (deletions_sent (objects_of c.directory f))) f (service.Resign DeleteObjects) a (record { due = λ _. refl; told = λ _. refl }) (sent_same c f None (deletions_sent (objects_of c.directory f)))
call_turn c f (service.Resign NoAction) a o none may = left_turn c c f (service.Resign NoAction) a (record { due = λ _. refl; told = λ _. refl }) (refl, refl)
call_turn c f (service.UpdateAttributeValues object values stamp) a o none may = Still (record { due = λ _. refl; told = λ _. refl }) (still_same c _ (sent_same c f stamp (update_sent c.directory object values)))
call_turn c f (service.SendInteraction class values stamp) a o none may = Still (record { due = λ _. refl; told = λ _. refl }) (still_same c _ (sent_same c f stamp (interaction_sent c.directory f class values)))
call_turn c f (service.DeleteObjectInstance object stamp) a o none may =
    let s = still_same c (after_messages c f stamp (deletion_sent c.directory object)) (sent_same c f stamp (deletion_sent c.directory object)) in
    Still (record { due = λ _. refl; told = λ _. refl }) (record { points = s.points; notices = s.notices; joined = s.joined; next = s.next })
call_turn c f (service.RegisterFederationSynchronizationPoint label) a o none may = Registered f label (record {
  step_is = refl;
  due = λ g. refl;
  told = λ g. refl;
  member = caller_joined (central_seen c) f (service.RegisterFederationSynchronizationPoint label) none;
  points = refl;
  notices = λ g. refl;
  joined = refl;
  next = refl;
})
call_turn c f (service.SynchronizationPointAchieved label) a o none may = Achieved f label (record {
  step_is = refl;
  done = answered_done c f label a o may;
  quiet = record { due = λ _. refl; told = λ _. refl };
  may = not-is-false _ (clear_call (central_seen c) f (service.SynchronizationPointAchieved label) none).0;
  points = refl;
  notices = λ g. refl;
  joined = refl;
  next = refl;
})
call_turn c f (service.EnableTimeRegulation time lookahead) a o none may = Still (record { due = λ _. refl; told = λ _. refl }) (enter_still c f lookahead o)
call_turn c f service.DisableTimeConstrained a o none may = Still (record { due = λ _. refl; told = λ _. refl }) (cease_still c f o)
call_turn c f s a o none may = Still (record { due = λ _. refl; told = λ _. refl }) (record { points = refl; notices = refl; joined = refl; next = refl })

-- ---- other steps
carry_still : (c : Central) (g f : ℕ) (x : Carried) → IsStill c (after_carry c g f x)
carry_still c g f (carried.Event e) = record { points = refl; notices = refl; joined = refl; next = refl }
carry_still c g f (carried.Removal e) = record { points = refl; notices = refl; joined = refl; next = refl }
carry_still c g f (carried.Retraction e) = record { points = refl; notices = refl; joined = refl; next = refl }
carry_still c g f x = still_itself c

delivery_still : (c : Central) (f : ℕ) (e : EventHandle) (d : Delivery) → IsStill c (after_delivery c f e d)
delivery_still c f e delivery.Receive = record { points = refl; notices = refl; joined = refl; next = refl }
delivery_still c f e (delivery.Demoted s) = record { points = refl; notices = refl; joined = refl; next = refl }
delivery_still c f e (delivery.TimeStamp s) = record { points = refl; notices = refl; joined = refl; next = refl }

constraint_still : (c : Central) (f : ℕ) (o : Choice) → IsStill c (after_constraint c f o)
constraint_still c f choice.None = still_itself c
constraint_still c f (choice.Entry e) = still_itself c
constraint_still c f (choice.Moved events) = record { points = refl; notices = refl; joined = refl; next = refl }

-- a callback is told by a tick, done or failed
pub record IsCallbackTold (step : Step) (out : Outcome) (f : ℕ) (k : Callback) : Type 0 where
  pub gives : GivesCallback step out f k
  pub told : (g : ℕ) → notices_given step out g ≡ cond (eqb f g) (notices_told k) []
  pub due : (c : Central) (g : ℕ) → registration_due c step out g ≡ []

abbrev no_notices : List Notice
no_notices = []

nothing : (b : Bool) → cond b no_notices no_notices ≡ no_notices
nothing true = refl
nothing false = refl

module _ (c : Central) (step : Step) (out : Outcome) (f : ℕ) where
  pick_still : (k : Callback) (d : Central) → notices_told k ≡ [] → IsCallbackTold step out f k → IsStill c d → PointTurn c step out d
  pick_still k d none is still = Still (record {
    due = is.due c;
    told = λ g. subst (λ (ns : List Notice). notices_given step out g ≡ cond (eqb f g) ns []) none (is.told g) ∙ nothing (eqb f g);
  }) still

  pick_told : (k : Callback) (n : Notice) (d : Central) → notices_told k ≡ n ∷ [] → IsCallbackTold step out f k → (n.kind ≡ kind.Announced → GivesCallback step out f (callback.AnnounceSynchronizationPoint n.label)) → IsNextNotice (c.notices f) n → d.directory.points ≡ points_after_notice f n c.directory.points
      → ((g : ℕ) → d.notices g ≡ upd c.notices f (drop 1 (c.notices f)) g) → d.directory.joined ≡ c.directory.joined → d.directory.next_federate ≡ c.directory.next_federate → PointTurn c step out d
  pick_told k n d one is gives first points notices joined next = Told f n (record {
    due = is.due c;
    told = λ g. subst (λ (ns : List Notice). notices_given step out g ≡ cond (eqb f g) ns []) one (is.told g);
    gives = gives;
    first = first;
    points = points;
    notices = notices;
    joined = joined;
    next = next;
  })

  pick_turn : (k : Callback) (o : Choice) → IsCallbackTold step out f k → MayPickUp c f k o → PointTurn c step out (after_pick c f k o)
  pick_turn (callback.DiscoverObjectInstance object class name) o is may = pick_still (callback.DiscoverObjectInstance object class name) _ refl is (record { points = refl; notices = refl; joined = refl; next = refl })
  pick_turn (callback.ReflectAttributeValues object values event d) o is may = pick_still (callback.ReflectAttributeValues object values event d) _ refl is (delivery_still c f event d)
  pick_turn (callback.ReceiveInteraction class values event d) o is may = pick_still (callback.ReceiveInteraction class values event d) _ refl is (delivery_still c f event d)
  pick_turn (callback.RemoveObjectInstance object event d) o is may = pick_still (callback.RemoveObjectInstance object event d) _ refl is (delivery_still c f event d)
  pick_turn (callback.TimeRegulationEnabled time) o is may = pick_still (callback.TimeRegulationEnabled time) _ refl is (record { points = refl; notices = refl; joined = refl; next = refl })
  pick_turn (callback.TimeConstrainedEnabled time) o is may = pick_still (callback.TimeConstrainedEnabled time) _ refl is (constraint_still c f o)
  pick_turn (callback.TimeAdvanceGrant time) o is may = pick_still (callback.TimeAdvanceGrant time) _ refl is (record { points = refl; notices = refl; joined = refl; next = refl })
  pick_turn (callback.RequestRetraction event) o is may = pick_still (callback.RequestRetraction event) _ refl is (record { points = refl; notices = refl; joined = refl; next = refl })
  pick_turn (callback.SynchronizationPointRegistrationSucceeded label) o is may =
      pick_told (callback.SynchronizationPointRegistrationSucceeded label) (notice kind.RegistrationSucceeded label) _ refl is (λ e. absurd (cc)) may refl (λ g. refl) refl refl
  pick_turn (callback.SynchronizationPointRegistrationFailed label) o is may =
      pick_told (callback.SynchronizationPointRegistrationFailed label) (notice kind.RegistrationFailed label) _ refl is (λ e. absurd (cc)) may refl (λ g. refl) refl refl
  pick_turn (callback.AnnounceSynchronizationPoint label) o is may =
      pick_told (callback.AnnounceSynchronizationPoint label) (notice kind.Announced label) _ refl is (λ _. is.gives) may refl (λ g. refl) refl refl
  pick_turn (callback.FederationSynchronized label) o is may =
      pick_told (callback.FederationSynchronized label) (notice kind.Synchronized label) _ refl is (λ e. absurd (cc)) may refl (λ g. refl) refl refl

done_turn : (c : Central) (step : Step) (a : Answer) (o : Choice) → refusal (central_seen c) step ≡ None → MayDo c step a o → PointTurn c step (outcome.Done a) (after_done c step a o)
done_turn c (Join name) a o none may = Joined (record { quiet = record { due = λ _. refl; told = λ _. refl }; points = refl; notices = λ g. refl; joined = refl; next = refl })
done_turn c (Call f s) a o none may = call_turn c f s a o none may
done_turn c (Carry from to) (answer.Carried x) o none may = Still (record { due = λ _. refl; told = λ _. refl }) (carry_still c from to x)
done_turn c (Tick f) (answer.Ticked (Some k)) o none may = pick_turn c (Tick f) (outcome.Done (answer.Ticked (Some k))) f k o (record { gives = (refl, refl); told = λ _. refl; due = λ _ _. refl }) may.0
done_turn c (Announce f) a o none may = Still (record { due = λ _. refl; told = λ _. refl }) (still_itself c)
done_turn c step a o none may = Still (record { due = λ _. refl; told = λ _. refl }) (still_itself c)

-- a step that is refused does nothing
refused_quiet : (c : Central) (step : Step) (e : Fault) → TellsNothing c step (outcome.Refused e)
refused_quiet c (Join name) e = record { due = λ _. refl; told = λ _. refl }
refused_quiet c (Call f (service.RegisterFederationSynchronizationPoint label)) e = record { due = λ _. refl; told = λ _. refl }
refused_quiet c (Call f s) e = record { due = λ _. refl; told = λ _. refl }
refused_quiet c (Carry from to) e = record { due = λ _. refl; told = λ _. refl }
refused_quiet c (Announce f) e = record { due = λ _. refl; told = λ _. refl }
refused_quiet c (Tick f) e = record { due = λ _. refl; told = λ _. refl }

refused_still : (c : Central) (step : Step) (e : Fault) (o : Choice) → IsStill c (after c step (outcome.Refused e) o)
refused_still c (Tick f) e o = still_itself c
refused_still c step e o = still_itself c

pub step_turn : (c : Central) (step : Step) (out : Outcome) (o : Choice) → MayEnd c step out o → PointTurn c step out (after c step out o)
step_turn c step (outcome.Done a) o may = done_turn c step a o may.0 may.1
step_turn c (Tick f) (outcome.Failed k) o may = pick_turn c (Tick f) (outcome.Failed k) f k o (record { gives = (refl, refl); told = λ _. refl; due = λ _ _. refl }) may.1.0
step_turn c step (outcome.Refused e) o may = Still (refused_quiet c step e) (refused_still c step e o)
step_turn c step (outcome.Failed k) o may = absurd may
