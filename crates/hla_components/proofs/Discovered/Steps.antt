-- Each object is discovered first, and once: after each step
use Rattle.std.proofs.Common.{◌≡◌, ◌⊎◌, ⊎_elim, ℕ, refl, sym, inl, inr, List, None, Some}
use Rattle.hla_base.specs.declared.number.EventHandle.{EventHandle}
use Rattle.hla_callbacks.specs.declared.callback.Callback.{Callback}
use Rattle.hla_callbacks.specs.declared.callback.Callback.TheVariants as callback
use Rattle.hla_callbacks.specs.declared.callback.Delivery.{Delivery}
use Rattle.hla_callbacks.specs.declared.callback.Delivery.TheVariants as delivery
use Rattle.hla_machine.specs.declared.service.Service.{Service}
use Rattle.hla_machine.specs.declared.service.Service.TheVariants as service
use Rattle.hla_machine.specs.declared.service.ResignAction.TheVariants.{DeleteObjects, NoAction}
use Rattle.hla_machine.specs.declared.step.Step.{Step}
use Rattle.hla_machine.specs.declared.step.Step.TheVariants.{Join, Call, Carry, Announce, Tick}
use Rattle.hla_machine.specs.declared.step.Carried.{Carried}
use Rattle.hla_machine.specs.declared.step.Carried.TheVariants as carried
use Rattle.hla_machine.specs.declared.step.Answer.{Answer}
use Rattle.hla_machine.specs.declared.step.Answer.TheVariants as answer
use Rattle.hla_machine.specs.declared.step.Outcome.{Outcome}
use Rattle.hla_machine.specs.declared.step.Outcome.TheVariants as outcome
use Rattle.hla_machine.specs.declared.step.Choice.{Choice}
use Rattle.hla_machine.specs.declared.step.Choice.TheVariants as choice
use Rattle.hla_machine.specs.Directory.{deletion_sent, deletions_sent, objects_of, update_sent, interaction_sent, name_or_default}
use Rattle.hla_machine.specs.Refusals.{refusal}
use Rattle.hla_machine.specs.Central.{Central}
use Rattle.hla_machine.specs.Callbacks.{MayPickUp, after_delivery, after_constraint, after_pick}
use Rattle.hla_machine.specs.Sends.{after_messages}
use Rattle.hla_machine.specs.Machine.{central_seen, MayEnd, MayDo, after_enter, after_cease, after_call, after_carry, after_done, after}
use Rattle.hla_machine.specs.Runs.{Happening}
use Rattle.hla_machine.specs.History.{GivesCallback}
use Rattle.hla_machine.specs.Discovered.{Discovers}
use Rattle.hla_machine.proofs.Basics.Tests.{caller_joined}
use Rattle.hla_components.proofs.Discovered.Told.{Informed}
use Rattle.hla_components.proofs.Discovered.Changes.{Discovering, in_other_words, IsQuiet, quiet_same, quiet_sent, quiet_left, quiet_deleted, quiet_discovers, join_discovers, discover_discovers, subscribe_discovers, register_discovers}

-- ---- steps that give no discovery
enter_quiet : (c : Central) (f lookahead : ℕ) (o : Choice) → IsQuiet c (after_enter c f lookahead o)
enter_quiet c f lookahead choice.None = quiet_same c
enter_quiet c f lookahead (choice.Entry e) = record { next = refl; objects = refl; joined = λ g j. j; known = refl; owner = λ h. refl; discoveries = λ g l. inl refl }
enter_quiet c f lookahead (choice.Moved events) = quiet_same c

cease_quiet : (c : Central) (f : ℕ) (o : Choice) → IsQuiet c (after_cease c f o)
cease_quiet c f choice.None = quiet_same c
cease_quiet c f (choice.Entry e) = quiet_same c
cease_quiet c f (choice.Moved events) = record { next = refl; objects = refl; joined = λ g j. j; known = refl; owner = λ h. refl; discoveries = λ g l. inl refl }

constraint_quiet : (c : Central) (f : ℕ) (o : Choice) → IsQuiet c (after_constraint c f o)
constraint_quiet c f choice.None = quiet_same c
constraint_quiet c f (choice.Entry e) = quiet_same c
constraint_quiet c f (choice.Moved events) = record { next = refl; objects = refl; joined = λ g j. j; known = refl; owner = λ h. refl; discoveries = λ g l. inl refl }

delivery_quiet : (c : Central) (f : ℕ) (e : EventHandle) (d : Delivery) → IsQuiet c (after_delivery c f e d)
delivery_quiet c f e delivery.Receive = record { next = refl; objects = refl; joined = λ g j. j; known = refl; owner = λ h. refl; discoveries = λ g l. inl refl }
delivery_quiet c f e (delivery.Demoted s) = record { next = refl; objects = refl; joined = λ g j. j; known = refl; owner = λ h. refl; discoveries = λ g l. inl refl }
delivery_quiet c f e (delivery.TimeStamp s) = record { next = refl; objects = refl; joined = λ g j. j; known = refl; owner = λ h. refl; discoveries = λ g l. inl refl }

carry_quiet : (c : Central) (g f : ℕ) (x : Carried) → IsQuiet c (after_carry c g f x)
carry_quiet c g f (carried.Event e) = record { next = refl; objects = refl; joined = λ g j. j; known = refl; owner = λ h. refl; discoveries = λ g l. inl refl }
carry_quiet c g f (carried.Removal e) = record { next = refl; objects = refl; joined = λ g j. j; known = refl; owner = λ h. refl; discoveries = λ g l. inl refl }
carry_quiet c g f (carried.Retraction e) = record { next = refl; objects = refl; joined = λ g j. j; known = refl; owner = λ h. refl; discoveries = λ g l. inl refl }
carry_quiet c g f x = quiet_same c

module _ (P : ℕ → ℕ → Type 0) (c : Central) (k : Discovering P c) (told : Informed c) where
  call_discovers : (f : ℕ) (s : Service) (o : Choice) → refusal (central_seen c) (Call f s) ≡ None → Discovering P (after_call c f s o)
  call_discovers f (service.SubscribeObjectClassAttributes class attributes) o none =
      subscribe_discovers P c k told f (caller_joined (central_seen c) f (service.SubscribeObjectClassAttributes class attributes) none) class (Some attributes)
  call_discovers f (service.RegisterObjectInstance class name) o none =
      register_discovers P c k told f (caller_joined (central_seen c) f (service.RegisterObjectInstance class name) none) class (name_or_default c.directory.next_object name)
  call_discovers f (service.Resign DeleteObjects) o none = let outs = deletions_sent (objects_of c.directory f) in quiet_discovers P c k _ (quiet_left c (after_messages c f None outs) f (quiet_sent c f None outs))
  call_discovers f (service.Resign NoAction) o none = quiet_discovers P c k _ (quiet_left c c f (quiet_same c))
  call_discovers f (service.UpdateAttributeValues object values stamp) o none = quiet_discovers P c k _ (quiet_sent c f stamp (update_sent c.directory object values))
  call_discovers f (service.SendInteraction class values stamp) o none = quiet_discovers P c k _ (quiet_sent c f stamp (interaction_sent c.directory f class values))
  call_discovers f (service.DeleteObjectInstance object stamp) o none =
      let outs = deletion_sent c.directory object in quiet_discovers P c k _ (quiet_deleted c (after_messages c f stamp outs) object (quiet_sent c f stamp outs))
  call_discovers f (service.EnableTimeRegulation time lookahead) o none = quiet_discovers P c k _ (enter_quiet c f lookahead o)
  call_discovers f service.DisableTimeConstrained o none = quiet_discovers P c k _ (cease_quiet c f o)
  call_discovers f s o none = quiet_discovers P c k _ (record { next = refl; objects = refl; joined = λ g j. j; known = refl; owner = λ h. refl; discoveries = λ g l. inl refl })

  -- ---- ticks
  -- what f was given by x, beside what was given before
  abbrev WithPick : ℕ → Callback → ℕ → ℕ → Type 0
  WithPick f x l i = P l i ⊎ ((f ≡ l) × ((class : ℕ) × (name : List ℕ) × (x ≡ callback.DiscoverObjectInstance i class name)))

  no_discovery : (f : ℕ) (x : Callback) (d : Central) → ((i class : ℕ) (name : List ℕ) → x ≡ callback.DiscoverObjectInstance i class name → ⊥) → IsQuiet c d → Discovering (WithPick f x) d
  no_discovery f x d none q = in_other_words P (WithPick f x) d (λ l i p. inl p)
      (λ l i w. ⊎_elim (λ (p : P l i). p) (λ (w : (f ≡ l) × ((class : ℕ) × (name : List ℕ) × (x ≡ callback.DiscoverObjectInstance i class name))). absurd (let a = w.1 in none i a.0 a.1 a.2)) w)
      (quiet_discovers P c k d q)

  pick_discovers : (f : ℕ) (x : Callback) (o : Choice) → MayPickUp c f x o → Discovering (WithPick f x) (after_pick c f x o)
  pick_discovers f (callback.DiscoverObjectInstance object class name) o may =
      discover_discovers P c k (WithPick f (callback.DiscoverObjectInstance object class name)) f object (c.directory.object object).owner (record { object = object; class = class; name = name }) told refl refl may
      (λ l i p. inl p) (inr (refl, (class, name, refl))) (λ l i w. back l i w)
    where
      back : (l i : ℕ) → WithPick f (callback.DiscoverObjectInstance object class name) l i → P l i ⊎ ((l ≡ f) × (i ≡ object))
      back l i (inl p) = inl p
      back l i (inr w) = let a = w.1 in let same : callback.DiscoverObjectInstance object class name ≡ callback.DiscoverObjectInstance i a.0 a.1 = a.2 in inr (sym w.0, let e : i ≡ object = cc in e)
  pick_discovers f (callback.ReflectAttributeValues object values event d) o may = no_discovery f _ _ (λ i class name e. absurd (cc)) (delivery_quiet c f event d)
  pick_discovers f (callback.ReceiveInteraction class values event d) o may = no_discovery f _ _ (λ i class name e. absurd (cc)) (delivery_quiet c f event d)
  pick_discovers f (callback.RemoveObjectInstance object event d) o may = no_discovery f _ _ (λ i class name e. absurd (cc)) (delivery_quiet c f event d)
  pick_discovers f (callback.TimeConstrainedEnabled time) o may = no_discovery f _ _ (λ i class name e. absurd (cc)) (constraint_quiet c f o)
  pick_discovers f (callback.TimeRegulationEnabled time) o may = no_discovery f _ _ (λ i class name e. absurd (cc)) (record { next = refl; objects = refl; joined = λ g j. j; known = refl; owner = λ h. refl; discoveries = λ g l. inl refl })
  pick_discovers f (callback.TimeAdvanceGrant time) o may = no_discovery f _ _ (λ i class name e. absurd (cc)) (record { next = refl; objects = refl; joined = λ g j. j; known = refl; owner = λ h. refl; discoveries = λ g l. inl refl })
  pick_discovers f (callback.RequestRetraction event) o may = no_discovery f _ _ (λ i class name e. absurd (cc)) (record { next = refl; objects = refl; joined = λ g j. j; known = refl; owner = λ h. refl; discoveries = λ g l. inl refl })
  pick_discovers f (callback.SynchronizationPointRegistrationSucceeded label) o may = no_discovery f _ _ (λ i class name e. absurd (cc)) (record { next = refl; objects = refl; joined = λ g j. j; known = refl; owner = λ h. refl; discoveries = λ g l. inl refl })
  pick_discovers f (callback.SynchronizationPointRegistrationFailed label) o may = no_discovery f _ _ (λ i class name e. absurd (cc)) (record { next = refl; objects = refl; joined = λ g j. j; known = refl; owner = λ h. refl; discoveries = λ g l. inl refl })
  pick_discovers f (callback.AnnounceSynchronizationPoint label) o may = no_discovery f _ _ (λ i class name e. absurd (cc)) (record { next = refl; objects = refl; joined = λ g j. j; known = refl; owner = λ h. refl; discoveries = λ g l. inl refl })
  pick_discovers f (callback.FederationSynchronized label) o may = no_discovery f _ _ (λ i class name e. absurd (cc)) (record { next = refl; objects = refl; joined = λ g j. j; known = refl; owner = λ h. refl; discoveries = λ g l. inl refl })

  -- ---- any step
  abbrev With : Happening → ℕ → ℕ → Type 0
  With h f i = P f i ⊎ Discovers h f i

  silent : (h : Happening) (d : Central) → ((f i : ℕ) → Discovers h f i → ⊥) → Discovering P d → Discovering (With h) d
  silent h d none kept = in_other_words P (With h) d (λ f i p. inl p) (λ f i w. ⊎_elim (λ (p : P f i). p) (λ (y : Discovers h f i). absurd (none f i y)) w) kept

  tick_discovers : (f : ℕ) (x : Callback) (out : Outcome) (o : Choice) → ((g : ℕ) (y : Callback) → GivesCallback (Tick f) out g y → (f ≡ g) × (x ≡ y)) → ((g : ℕ) (y : Callback) → (f ≡ g) × (x ≡ y) → GivesCallback (Tick f) out g y)
      → MayPickUp c f x o → Discovering (With (record { step = Tick f; outcome = out; choice = o })) (after_pick c f x o)
  tick_discovers f x out o to back may = in_other_words (WithPick f x) (With h) (after_pick c f x o)
      (λ g i w. forth g i w)
      (λ g i w. ⊎_elim (λ (p : P g i). inl p) (λ (y : Discovers h g i). let e = to g (callback.DiscoverObjectInstance i y.class y.name) y.gives in inr (e.0, (y.class, y.name, e.1))) w)
      (pick_discovers f x o may)
    where
      h : Happening
      h = record { step = Tick f; outcome = out; choice = o }

      forth : (g i : ℕ) → WithPick f x g i → With (record { step = Tick f; outcome = out; choice = o }) g i
      forth g i (inl p) = inl p
      forth g i (inr w) = let a = w.1 in inr (record { class = a.0; name = a.1; gives = back g (callback.DiscoverObjectInstance i a.0 a.1) (w.0, a.2) })

  done_discovers : (step : Step) (a : Answer) (o : Choice) → refusal (central_seen c) step ≡ None → MayDo c step a o → Discovering (With (record { step = step; outcome = outcome.Done a; choice = o })) (after_done c step a o)
  done_discovers (Join name) a o none may = silent _ _ (λ f i y. y.gives) (join_discovers P c k name)
  done_discovers (Call f s) a o none may = silent _ _ (λ f i y. y.gives) (call_discovers f s o none)
  done_discovers (Carry g f) (answer.Carried x) o none may = silent _ _ (λ f i y. y.gives) (quiet_discovers P c k _ (carry_quiet c g f x))
  done_discovers (Announce f) (answer.Announced v) o none may = silent _ _ (λ f i y. y.gives) k
  done_discovers (Tick f) (answer.Ticked None) o none may = silent _ _ (λ f i y. y.gives) k
  done_discovers (Tick f) (answer.Ticked (Some x)) o none may = tick_discovers f x (outcome.Done (answer.Ticked (Some x))) o (λ g y w. w) (λ g y w. w) may.0
  done_discovers step a o none may = absurd may

  pub step_discovers : (step : Step) (out : Outcome) (o : Choice) → MayEnd c step out o → Discovering (With (record { step = step; outcome = out; choice = o })) (after c step out o)
  step_discovers step (outcome.Done a) o may = done_discovers step a o may.0 may.1
  step_discovers (Tick f) (outcome.Failed x) o may = tick_discovers f x (outcome.Failed x) o (λ g y w. w) (λ g y w. w) may.1.0
  step_discovers (Join name) (outcome.Refused e) o may = silent _ _ (λ f i y. y.gives) k
  step_discovers (Call f s) (outcome.Refused e) o may = silent _ _ (λ f i y. y.gives) k
  step_discovers (Carry g f) (outcome.Refused e) o may = silent _ _ (λ f i y. y.gives) k
  step_discovers (Announce f) (outcome.Refused e) o may = silent _ _ (λ f i y. y.gives) k
  step_discovers (Tick f) (outcome.Refused e) o may = silent _ _ (λ f i y. y.gives) k
  step_discovers step (outcome.Failed x) o may = absurd may
