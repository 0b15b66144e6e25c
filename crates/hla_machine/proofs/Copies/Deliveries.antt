-- Who is given a message, and how often
use Rattle.std.proofs.Common.{◌≡◌, ◌≢◌, ◌⊎◌, ⊎_elim, ℕ, ◌+◌, ◌≤◌, ◌<◌, cond, Bool, true, refl, sym, subst, inl, inr, arith, le_trans, ◌∙◌, List, [], ◌∷◌, Option, Some, None, option_map}
use Rattle.std.proofs.lemmas.Bool.{cond_both, cases_eq, cases_lt}
use Rattle.std.proofs.lemmas.Bool.Decides.{nat_tests}
use Rattle.hla_base.specs.declared.content.Content.{Content}
use Rattle.hla_base.specs.declared.content.Content.TheVariants as content
use Rattle.hla_base.specs.declared.content.Discovery.{Discovery}
use Rattle.hla_base.specs.declared.number.EventHandle.{EventHandle}
use Rattle.std.specs.List.{All}
use Rattle.hla_base.specs.Rows.{is_disabled}
use Rattle.hla_base.specs.Tables.{is_other}
use Rattle.hla_base.proofs.Tables.{by_number, upd_same, upd_other, upd_each}
use Rattle.hla_catalogue.specs.CatalogueValue.{CatalogueValue}
use Rattle.hla_callbacks.specs.declared.callback.Callback.{Callback}
use Rattle.hla_callbacks.specs.declared.callback.Callback.TheVariants as callback
use Rattle.hla_callbacks.specs.declared.callback.Delivery.{Delivery}
use Rattle.hla_callbacks.specs.declared.callback.Delivery.TheVariants as delivery
use Rattle.hla_machine.specs.declared.service.Service.{Service}
use Rattle.hla_machine.specs.declared.service.Service.TheVariants as service
use Rattle.hla_machine.specs.declared.service.ResignAction.TheVariants.{DeleteObjects, NoAction}
use Rattle.hla_machine.specs.declared.step.Step.{Step}
use Rattle.hla_machine.specs.declared.step.Step.TheVariants.{Join, Call, Carry, Tick}
use Rattle.hla_machine.specs.declared.step.Carried.{Carried}
use Rattle.hla_machine.specs.declared.step.Carried.TheVariants as carried
use Rattle.hla_machine.specs.declared.step.Answer.{Answer}
use Rattle.hla_machine.specs.declared.step.Answer.TheVariants as answer
use Rattle.hla_machine.specs.declared.step.Outcome.{Outcome}
use Rattle.hla_machine.specs.declared.step.Outcome.TheVariants as outcome
use Rattle.hla_machine.specs.declared.step.Choice.{Choice}
use Rattle.hla_machine.specs.declared.step.Choice.TheVariants as choice
use Rattle.hla_machine.specs.Directory.{Outgoing, deletion_sent, deletions_sent, objects_of, update_sent, interaction_sent}
use Rattle.hla_machine.specs.Central.{Central, new_central, Copy, Ro, Demoted, at_key, demoted_copy}
use Rattle.hla_machine.specs.Callbacks.{IsCopy, IsFirstRo, IsDiscovered, MayDeliver, MayPickUp, after_delivery, after_constraint, after_pick}
use Rattle.hla_machine.specs.CentralInvariant.{CentralInv}
use Rattle.hla_machine.specs.Sends.{copy_for, after_message, after_messages}
use Rattle.hla_machine.specs.Machine.{MayEnd, after_leaving, after_enter, after_cease, after_call, after_carry, after_done, after}
use Rattle.hla_machine.specs.Runs.{Happening, IsRun}
use Rattle.hla_machine.specs.History.{GivesCallback, Names, NamesPlain, SpeaksOf, Hears, HearsPlain, IsOnItsWay, IsGivenAs, TellsCopy, Happens, HappenAfter, HappensLater, next_state}
use Rattle.hla_machine.proofs.Basics.Bags.{at_key_here}
use Rattle.hla_machine.proofs.Upkeep.CentralInvariant.{IsThinner, IsLaterCopy, copy_itself, later_copy, thin_same, thin_removed, thin_demoted, thin_moved, copies_cases, laws_after, laws_start}
use Rattle.hla_machine.proofs.Upkeep.Ahead.{given_of}

-- ---- what a step brings into the bag
-- what is in the bag after a step was there before, or is new and another's; serials grow
pub record Brought (c d : Central) : Type 0 where
  pub serials : (g : ℕ) → c.serial g ≤ d.serial g
  pub bag : (g m f : ℕ) (k : Copy) → d.bag g m f ≡ Some k → ((j : Copy) × (c.bag g m f ≡ Some j) × IsLaterCopy k j) ⊎ ((c.serial g ≤ m) × (g ≢ f))

calm : (c d : Central) → d.serial ≡ c.serial → IsThinner d.bag c.bag → Brought c d
calm c d same thin = record {
  serials = λ g. subst (λ (t : ℕ → ℕ). c.serial g ≤ t g) (sym same) (omega arith);
  bag = λ g m f k is. let t = thin g m f k is in inl t;
}

more : (c d e : Central) → Brought c d → Brought d e → Brought c e
more c d e a b = record {
  serials = λ g. le_trans (a.serials g) (b.serials g);
  bag = λ g m f k is. ⊎_elim
      (λ (old : (j : Copy) × (d.bag g m f ≡ Some j) × IsLaterCopy k j). ⊎_elim
      (λ (older : (i : Copy) × (c.bag g m f ≡ Some i) × IsLaterCopy old.0 i). inl (older.0, older.1, later_copy k old.0 older.0 old.2 older.2))
      (λ (new : (c.serial g ≤ m) × (g ≢ f)). inr new)
      (a.bag g m f old.0 old.1))
      (λ (new : (d.serial g ≤ m) × (g ≢ f)). inr (le_trans (a.serials g) new.0, new.1))
      (b.bag g m f k is);
}

other_differs : (joined : ℕ → Bool) (g f : ℕ) → is_other joined g f ≡ true → g ≢ f
other_differs joined g f other = grind (arith, nat_tests)

message_brings : (c : Central) (f : ℕ) (stamp : Option ℕ) (out : Outgoing) → Brought c (after_message c f stamp out)
message_brings c f stamp out = record {
  serials = upd_each c.serial f (c.serial f + 1) (λ g n. c.serial g ≤ n) (omega arith) (λ g ne. omega arith);
  bag = λ g m l k is. ⊎_elim
      (λ (new : (f ≡ g) × (c.serial f ≡ m) × (is_other c.directory.joined f l ≡ true) × (copy_for c.directory (c.row f) stamp out l ≡ Some k)).
      let differs = other_differs c.directory.joined f l new.2 in
      inr (subst (λ (g : ℕ). (c.serial g ≤ m) × (g ≢ l)) new.0 (omega (arith, new.1), differs)))
      (λ (old : c.bag g m l ≡ Some k). inl (k, old, copy_itself k))
      (copies_cases c.bag c.directory.joined f (c.serial f) (copy_for c.directory (c.row f) stamp out) g m l k is);
}

messages_bring : (c : Central) (f : ℕ) (stamp : Option ℕ) (outs : List Outgoing) → Brought c (after_messages c f stamp outs)
messages_bring c f stamp [] = calm c c refl (thin_same c.bag)
messages_bring c f stamp (out ∷ outs) = more c (after_message c f stamp out) (after_messages (after_message c f stamp out) f stamp outs) (message_brings c f stamp out) (messages_bring (after_message c f stamp out) f stamp outs)

leaving_brings : (c b : Central) (f : ℕ) → Brought c b → Brought c (after_leaving b f)
leaving_brings c b f brought = record {
  serials = brought.serials;
  bag = λ g m. by_number f _
      (λ k is. let n : None ≡ Some k = rw upd_same at is in absurd (cc))
      (λ l ne k is. brought.bag g m l k (rw upd_other at is));
}

same_bag : (c d : Central) → d.serial ≡ c.serial → d.bag ≡ c.bag → Brought c d
same_bag c d serial bag = calm c d serial (subst (λ (b : ℕ → ℕ → ℕ → Option Copy). IsThinner b c.bag) (sym bag) (thin_same c.bag))

enter_brings : (c : Central) (f lookahead : ℕ) (o : Choice) → Brought c (after_enter c f lookahead o)
enter_brings c f lookahead choice.None = same_bag c _ refl refl
enter_brings c f lookahead (choice.Entry e) = same_bag c _ refl refl
enter_brings c f lookahead (choice.Moved events) = same_bag c _ refl refl

cease_brings : (c : Central) (f : ℕ) (o : Choice) → Brought c (after_cease c f o)
cease_brings c f choice.None = same_bag c _ refl refl
cease_brings c f (choice.Entry e) = same_bag c _ refl refl
cease_brings c f (choice.Moved events) = calm c _ refl (thin_moved c.bag f events)

call_brings : (c : Central) (f : ℕ) (s : Service) (o : Choice) → Brought c (after_call c f s o)
call_brings c f (service.Resign DeleteObjects) o = let outs = deletions_sent (objects_of c.directory f) in leaving_brings c (after_messages c f None outs) f (messages_bring c f None outs)
call_brings c f (service.Resign NoAction) o = leaving_brings c c f (same_bag c c refl refl)
call_brings c f (service.UpdateAttributeValues object values stamp) o = messages_bring c f stamp (update_sent c.directory object values)
call_brings c f (service.SendInteraction class values stamp) o = messages_bring c f stamp (interaction_sent c.directory f class values)
call_brings c f (service.DeleteObjectInstance object stamp) o = let b = messages_bring c f stamp (deletion_sent c.directory object) in record { serials = b.serials; bag = b.bag }
call_brings c f (service.EnableTimeRegulation time lookahead) o = enter_brings c f lookahead o
call_brings c f service.DisableTimeConstrained o = cease_brings c f o
call_brings c f s o = same_bag c _ refl refl

arrival_thin : (c : Central) (g f m : ℕ) → IsThinner (cond (is_disabled (c.row f).constrained) (at_key c.bag g m f (option_map demoted_copy (c.bag g m f))) c.bag) c.bag
arrival_thin c g f m = cond_both (is_disabled (c.row f).constrained) (at_key c.bag g m f (option_map demoted_copy (c.bag g m f))) c.bag (λ b. IsThinner b c.bag) (λ _. thin_demoted c.bag g m f) (λ _. thin_same c.bag)

carry_brings : (c : Central) (g f : ℕ) (x : Carried) → Brought c (after_carry c g f x)
carry_brings c g f (carried.Event e) = calm c _ refl (arrival_thin c g f e.serial)
carry_brings c g f (carried.Removal e) = calm c _ refl (arrival_thin c g f e.serial)
carry_brings c g f (carried.Retraction e) = calm c _ refl (thin_removed c.bag g e.serial f)
carry_brings c g f x = same_bag c c refl refl

delivery_brings : (c : Central) (f : ℕ) (e : EventHandle) (d : Delivery) → Brought c (after_delivery c f e d)
delivery_brings c f e delivery.Receive = calm c _ refl (thin_removed c.bag e.sender e.serial f)
delivery_brings c f e (delivery.Demoted s) = calm c _ refl (thin_removed c.bag e.sender e.serial f)
delivery_brings c f e (delivery.TimeStamp s) = calm c _ refl (thin_removed c.bag e.sender e.serial f)

constraint_brings : (c : Central) (f : ℕ) (o : Choice) → Brought c (after_constraint c f o)
constraint_brings c f choice.None = same_bag c _ refl refl
constraint_brings c f (choice.Entry e) = same_bag c _ refl refl
constraint_brings c f (choice.Moved events) = calm c _ refl (thin_moved c.bag f events)

pick_brings : (c : Central) (f : ℕ) (k : Callback) (o : Choice) → Brought c (after_pick c f k o)
pick_brings c f (callback.ReflectAttributeValues object values event d) o = delivery_brings c f event d
pick_brings c f (callback.ReceiveInteraction class values event d) o = delivery_brings c f event d
pick_brings c f (callback.RemoveObjectInstance object event d) o = delivery_brings c f event d
pick_brings c f (callback.TimeConstrainedEnabled time) o = constraint_brings c f o
pick_brings c f k o = same_bag c _ refl refl

done_brings : (c : Central) (step : Step) (a : Answer) (o : Choice) → Brought c (after_done c step a o)
done_brings c (Join name) a o = same_bag c _ refl refl
done_brings c (Call f s) a o = call_brings c f s o
done_brings c (Carry from to) (answer.Carried x) o = carry_brings c from to x
done_brings c (Tick f) (answer.Ticked (Some k)) o = pick_brings c f k o
done_brings c step a o = same_bag c _ refl refl

pub step_brings : (c : Central) (step : Step) (out : Outcome) (o : Choice) → Brought c (after c step out o)
step_brings c step (outcome.Done a) o = done_brings c step a o
step_brings c (Tick f) (outcome.Failed k) o = pick_brings c f k o
step_brings c step out o = same_bag c _ refl refl

-- ---- what is given was in the bag, and is gone
delivered_copy : (c : Central) (f : ℕ) (x : Content) (e : EventHandle) (d : Delivery) → MayDeliver c f x e d → (k : Copy) × IsCopy c f e k
delivered_copy c f x e delivery.Receive may = (_, may.2)
delivered_copy c f x e (delivery.Demoted s) may = (_, may.2)
delivered_copy c f x e (delivery.TimeStamp s) may = (_, may.2)

gone_after : (c : Central) (f : ℕ) (e : EventHandle) (d : Delivery) → (after_delivery c f e d).bag e.sender e.serial f ≡ None
gone_after c f e delivery.Receive = at_key_here c.bag e.sender e.serial f None
gone_after c f e (delivery.Demoted s) = at_key_here c.bag e.sender e.serial f None
gone_after c f e (delivery.TimeStamp s) = at_key_here c.bag e.sender e.serial f None

-- e was in the bag for f, and is there no more
pub record Heard (c d : Central) (f : ℕ) (e : EventHandle) : Type 0 where
  pub copy : Copy
  pub was : IsCopy c f e copy
  pub gone : d.bag e.sender e.serial f ≡ None

heard_delivery : (c : Central) (f : ℕ) (x : Content) (event e : EventHandle) (d : Delivery) → MayDeliver c f x event d → event ≡ e → Heard c (after_delivery c f event d) f e
heard_delivery c f x event e d may same = subst (λ (e : EventHandle). Heard c (after_delivery c f event d) f e) same
    (let w = delivered_copy c f x event d may in record { copy = w.0; was = w.1; gone = gone_after c f event d })

heard_pick : (c : Central) (f : ℕ) (k : Callback) (e : EventHandle) (o : Choice) → MayPickUp c f k o → Names k e → Heard c (after_pick c f k o) f e
heard_pick c f (callback.ReflectAttributeValues object values event d) e o may is = heard_delivery c f (content.Reflection object values) event e d may is
heard_pick c f (callback.ReceiveInteraction class values event d) e o may is = heard_delivery c f (content.Interaction class values) event e d may is
heard_pick c f (callback.RemoveObjectInstance object event d) e o may is = heard_delivery c f (content.Removal object) event e d may is
heard_pick c f k e o may is = absurd is

heard_in_step : (c : Central) (h : Happening) (f : ℕ) (e : EventHandle) → MayEnd c h.step h.outcome h.choice → Hears h f e → Heard c (next_state c h) f e
heard_in_step c h f e may p = let g = given_of c h f p.given may p.gives in subst (λ (d : Central). Heard c d f e) (sym g.follows) (heard_pick c f p.given e h.choice g.may p.names)

-- ---- runs
-- nothing in the bag is its receiver's own
pub record OthersOnly (c : Central) : Type 0 where
  pub laws : CentralInv c
  pub others : (g m : ℕ) (k : Copy) → c.bag g m g ≡ Some k → ⊥

others_step : (c : Central) (h : Happening) → MayEnd c h.step h.outcome h.choice → OthersOnly c → OthersOnly (next_state c h)
others_step c h may w = record {
  laws = laws_after c h.step h.outcome h.choice may w.laws;
  others = λ g m k is. ⊎_elim
      (λ (old : (j : Copy) × (c.bag g m g ≡ Some j) × IsLaterCopy k j). w.others g m old.0 old.1)
      (λ (new : (c.serial g ≤ m) × (g ≢ g)). new.1 refl)
      ((step_brings c h.step h.outcome h.choice).bag g m g k is);
}

pub others_run : (c : Central) (hs : List Happening) (d : Central) → IsRun c hs d → OthersOnly c → OthersOnly d
others_run c [] d run w = subst OthersOnly run w
others_run c (h ∷ hs) d run w = others_run (next_state c h) hs d run.1 (others_step c h run.0.0 w)

pub others_start : (catalogue : CatalogueValue) → OthersOnly (new_central catalogue)
others_start catalogue = record { laws = laws_start catalogue; others = λ g m k is. absurd (cc) }

-- what is not in the bag and has been sent does not come back
absent_run : (c : Central) (hs : List Happening) (d : Central) (f : ℕ) (e : EventHandle) → IsRun c hs d → c.bag e.sender e.serial f ≡ None → e.serial < c.serial e.sender → d.bag e.sender e.serial f ≡ None
absent_run c [] d f e run none low = subst (λ (d : Central). d.bag e.sender e.serial f ≡ None) run none
absent_run c (h ∷ hs) d f e run none low =
    let b = step_brings c h.step h.outcome h.choice in
    absent_run (next_state c h) hs d f e run.1 (still ((next_state c h).bag e.sender e.serial f) (λ k is. b.bag e.sender e.serial f k is)) (le_trans low (b.serials e.sender))
  where
    still : (o : Option Copy) → ((k : Copy) → o ≡ Some k → ((j : Copy) × (c.bag e.sender e.serial f ≡ Some j) × IsLaterCopy k j) ⊎ ((c.serial e.sender ≤ e.serial) × (e.sender ≢ f))) → o ≡ None
    still None from = refl
    still (Some k) from = ⊎_elim
        (λ (old : (j : Copy) × (c.bag e.sender e.serial f ≡ Some j) × IsLaterCopy k j). let both : None ≡ Some old.0 = sym none ∙ old.1 in absurd (cc))
        (λ (new : (c.serial e.sender ≤ e.serial) × (e.sender ≢ f)). absurd (omega (arith, new.0, low)))
        (from k refl)

-- ---- the laws
pub heard_on_its_way : (c : Central) (h : Happening) (f : ℕ) (e : EventHandle) → Happens c h → Hears h f e → IsOnItsWay c f e
heard_on_its_way c h f e is p = let x = heard_in_step c h f e is.allowed.0 p in (x.copy, x.was)

pub heard_from_another : (c : Central) (h : Happening) (f : ℕ) (e : EventHandle) → Happens c h → Hears h f e → e.sender ≢ f
heard_from_another c h f e is p same =
    let w = others_run (new_central is.catalogue) is.before c is.run (others_start is.catalogue) in
    let x = heard_in_step c h f e is.allowed.0 p in
    let own : c.bag e.sender e.serial e.sender ≡ Some x.copy = subst (λ (f : ℕ). c.bag e.sender e.serial f ≡ Some x.copy) (sym same) x.was in
    w.others e.sender e.serial x.copy own

pub heard_once : (c : Central) (h : Happening) (between : List Happening) (d : Central) (i : Happening) (f : ℕ) (e : EventHandle) → HappenAfter c h between d i → Hears h f e → Hears i f e → ⊥
heard_once c h between d i f e later first second =
    let w = others_run (new_central later.first.catalogue) later.first.before c later.first.run (others_start later.first.catalogue) in
    let x = heard_in_step c h f e later.first.allowed.0 first in
    let low = le_trans (w.laws.unused e.sender e.serial f x.copy x.was) ((step_brings c h.step h.outcome h.choice).serials e.sender) in
    let none = absent_run (next_state c h) between d f e later.run x.gone low in
    let y = heard_in_step d i f e later.allowed.0 second in
    let both : None ≡ Some y.copy = sym none ∙ y.was in
    absurd (cc)

pub given_to_a_member : (c : Central) (h : Happening) (f : ℕ) (k : Callback) → Happens c h → GivesCallback h.step h.outcome f k → c.directory.joined f ≡ true
given_to_a_member c h f k is gives = (given_of c h f k is.allowed.0 gives).member

-- ---- receive order
-- e is the first of its sender that waits for f in receive order
record HeardPlain (c : Central) (f : ℕ) (e : EventHandle) : Type 0 where
  pub copy : Copy
  pub was : IsCopy c f e copy
  pub plain : copy.order ≡ Ro
  pub first : IsFirstRo c f e

plain_delivery : (c : Central) (f : ℕ) (x : Content) (event e : EventHandle) (d : Delivery) → MayDeliver c f x event d → event ≡ e → d ≡ delivery.Receive → HeardPlain c f e
plain_delivery c f x event e d may same is = subst (λ (e : EventHandle). HeardPlain c f e) same
    (let m : MayDeliver c f x event delivery.Receive = subst (λ (d : Delivery). MayDeliver c f x event d) is may in record { copy = _; was = m.2; plain = refl; first = m.3 })

plain_pick : (c : Central) (f : ℕ) (k : Callback) (e : EventHandle) (o : Choice) → MayPickUp c f k o → NamesPlain k e → HeardPlain c f e
plain_pick c f (callback.ReflectAttributeValues object values event d) e o may is = plain_delivery c f (content.Reflection object values) event e d may is.0 is.1
plain_pick c f (callback.ReceiveInteraction class values event d) e o may is = plain_delivery c f (content.Interaction class values) event e d may is.0 is.1
plain_pick c f (callback.RemoveObjectInstance object event d) e o may is = plain_delivery c f (content.Removal object) event e d may is.0 is.1
plain_pick c f k e o may is = absurd is

names_of_plain : (k : Callback) (e : EventHandle) → NamesPlain k e → Names k e
names_of_plain (callback.ReflectAttributeValues object values event d) e is = is.0
names_of_plain (callback.ReceiveInteraction class values event d) e is = is.0
names_of_plain (callback.RemoveObjectInstance object event d) e is = is.0
names_of_plain k e is = absurd is

hears_of_plain : (h : Happening) (f : ℕ) (e : EventHandle) → HearsPlain h f e → Hears h f e
hears_of_plain h f e p = record { given = p.given; gives = p.gives; names = names_of_plain p.given e p.names }

-- what waits, and was sent before, waited before, and said the same
pub back_run : (c : Central) (hs : List Happening) (d : Central) (f : ℕ) (e : EventHandle) → IsRun c hs d → e.serial < c.serial e.sender → (k : Copy) → IsCopy d f e k
    → (j : Copy) × IsCopy c f e j × IsLaterCopy k j
back_run c [] d f e run low k is = (k, subst (λ (d : Central). IsCopy d f e k) (sym run) is, copy_itself k)
back_run c (h ∷ hs) d f e run low k is =
    let b = step_brings c h.step h.outcome h.choice in
    let w = back_run (next_state c h) hs d f e run.1 (le_trans low (b.serials e.sender)) k is in
    ⊎_elim
    (λ (old : (j : Copy) × (c.bag e.sender e.serial f ≡ Some j) × IsLaterCopy w.0 j). (old.0, old.1, later_copy k w.0 old.0 w.2 old.2))
    (λ (new : (c.serial e.sender ≤ e.serial) × (e.sender ≢ f)). absurd (omega (arith, new.0, low)))
    (b.bag e.sender e.serial f w.0 w.1)

-- an event and an earlier one of its sender do not come the wrong way round
no_turn : (c : Central) (h : Happening) (between : List Happening) (d : Central) (i : Happening) (f : ℕ) (e x : EventHandle) → HappenAfter c h between d i → HearsPlain h f e → HearsPlain i f x
    → e.sender ≡ x.sender → x.serial < e.serial → ⊥
no_turn c h between d i f e x later first second same before =
    let w = others_run (new_central later.first.catalogue) later.first.before c later.first.run (others_start later.first.catalogue) in
    let gh = given_of c h f first.given later.first.allowed.0 first.gives in
    let gi = given_of d i f second.given later.allowed.0 second.gives in
    let a = plain_pick c f first.given e h.choice gh.may first.names in
    let b = plain_pick d f second.given x i.choice gi.may second.names in
    let used = w.laws.unused e.sender e.serial f a.copy a.was in
    let low : x.serial < c.serial x.sender = subst (λ (g : ℕ). x.serial < c.serial g) same (omega (arith, used, before)) in
    let old = back_run c (h ∷ between) d f x (later.first.allowed, later.run) low b.copy b.was in
    let own : c.bag e.sender x.serial f ≡ Some old.0 = subst (λ (g : ℕ). c.bag g x.serial f ≡ Some old.0) (sym same) old.1 in
    a.first x.serial old.0 before own (old.2.ro b.plain)

-- nor is one of them given twice
no_twin : (c : Central) (h : Happening) (between : List Happening) (d : Central) (i : Happening) (f : ℕ) (e x : EventHandle) → HappenAfter c h between d i → HearsPlain h f e → HearsPlain i f x
    → e.sender ≡ x.sender → e.serial ≡ x.serial → ⊥
no_twin c h between d i f e x later first second sender serial =
    let same : x ≡ e = λ j. record { sender = sym sender j; serial = sym serial j } in
    heard_once c h between d i f e later (hears_of_plain h f e first) (subst (λ (x : EventHandle). Hears i f x) same (hears_of_plain i f x second))

pub heard_in_order : (c : Central) (h : Happening) (between : List Happening) (d : Central) (i : Happening) (f : ℕ) (e x : EventHandle) → HappenAfter c h between d i → HearsPlain h f e → HearsPlain i f x
    → e.sender ≡ x.sender → e.serial < x.serial
heard_in_order c h between d i f e x later first second same = ⊎_elim
    (λ (l : e.serial < x.serial). l)
    (λ (high : x.serial ≤ e.serial). ⊎_elim
    (λ (eq : e.serial ≡ x.serial). absurd (no_twin c h between d i f e x later first second same eq))
    (λ (ne : e.serial ≢ x.serial). let before : x.serial < e.serial = omega (arith, high, ne) in absurd (no_turn c h between d i f e x later first second same before))
    (cases_eq e.serial x.serial))
    (cases_lt e.serial x.serial)

-- ---- discoveries
discovered_at : (c : Central) (f : ℕ) (x : Content) (e : EventHandle) (d : Delivery) → MayDeliver c f x e d → IsDiscovered c f x
discovered_at c f x e delivery.Receive may = may.1
discovered_at c f x e (delivery.Demoted s) may = may.1
discovered_at c f x e (delivery.TimeStamp s) may = may.1

none_waits : (c : Central) (f : ℕ) (k : Callback) (h : ℕ) (o : Choice) → MayPickUp c f k o → SpeaksOf k h → (g : ℕ) → All (λ (d : Discovery). d.object ≢ h) (c.discoveries g f)
none_waits c f (callback.ReflectAttributeValues object values event d) h o may is g = subst (λ (h : ℕ). All (λ (d : Discovery). d.object ≢ h) (c.discoveries g f)) is (discovered_at c f (content.Reflection object values) event d may g)
none_waits c f (callback.RemoveObjectInstance object event d) h o may is g = subst (λ (h : ℕ). All (λ (d : Discovery). d.object ≢ h) (c.discoveries g f)) is (discovered_at c f (content.Removal object) event d may g)
none_waits c f k h o may is g = absurd is

pub discovered_before : (c : Central) (h : Happening) (f : ℕ) (k : Callback) (object : ℕ) → Happens c h → GivesCallback h.step h.outcome f k → SpeaksOf k object → (g : ℕ) → All (λ (d : Discovery). d.object ≢ object) (c.discoveries g f)
discovered_before c h f k object is gives speaks g = none_waits c f k object h.choice (given_of c h f k is.allowed.0 gives).may speaks g

-- ---- what is told
given_as : (c : Central) (f : ℕ) (x : Content) (e : EventHandle) (d : Delivery) → MayDeliver c f x e d → (k : Copy) × IsCopy c f e k × (k.content ≡ x) × IsGivenAs d k
given_as c f x e delivery.Receive may = (_, may.2, refl, refl)
given_as c f x e (delivery.Demoted s) may = (_, may.2, refl, ((λ o. let wrong : Demoted ≡ Ro = o in cc), refl))
given_as c f x e (delivery.TimeStamp s) may = (_, may.2, refl, (refl, refl))

-- a callback tells what an earlier state of its copy said, too
given_earlier : (d : Delivery) (k j : Copy) → IsLaterCopy k j → IsGivenAs d k → IsGivenAs d j
given_earlier delivery.Receive k j late is = late.ro is
given_earlier (delivery.Demoted s) k j late is = (λ o. is.0 (late.still_ro o), sym late.stamp ∙ is.1)
given_earlier (delivery.TimeStamp s) k j late is = (late.tso is.0, sym late.stamp ∙ is.1)

told_earlier : (x : Callback) (k j : Copy) → IsLaterCopy k j → TellsCopy x k → TellsCopy x j
told_earlier (callback.ReflectAttributeValues object values event d) k j late is = (sym late.content ∙ is.0, given_earlier d k j late is.1)
told_earlier (callback.ReceiveInteraction class values event d) k j late is = (sym late.content ∙ is.0, given_earlier d k j late is.1)
told_earlier (callback.RemoveObjectInstance object event d) k j late is = (sym late.content ∙ is.0, given_earlier d k j late is.1)
told_earlier x k j late is = is

told_pick : (c : Central) (f : ℕ) (x : Callback) (e : EventHandle) (o : Choice) → MayPickUp c f x o → Names x e → (k : Copy) × IsCopy c f e k × TellsCopy x k
told_pick c f (callback.ReflectAttributeValues object values event d) e o may is = let w = given_as c f (content.Reflection object values) event d may in (w.0, subst (λ (e : EventHandle). IsCopy c f e w.0) is w.1, (w.2, w.3))
told_pick c f (callback.ReceiveInteraction class values event d) e o may is = let w = given_as c f (content.Interaction class values) event d may in (w.0, subst (λ (e : EventHandle). IsCopy c f e w.0) is w.1, (w.2, w.3))
told_pick c f (callback.RemoveObjectInstance object event d) e o may is = let w = given_as c f (content.Removal object) event d may in (w.0, subst (λ (e : EventHandle). IsCopy c f e w.0) is w.1, (w.2, w.3))
told_pick c f x e o may is = absurd is

pub told_as_sent : (c : Central) (between : List Happening) (d : Central) (h : Happening) (f : ℕ) (e : EventHandle) (k : Copy) (x : Callback) → HappensLater c between d h → IsCopy c f e k
    → GivesCallback h.step h.outcome f x → Names x e → TellsCopy x k
told_as_sent c between d h f e k x is way gives names =
    let w = others_run (new_central is.catalogue) is.before c is.start (others_start is.catalogue) in
    let g = given_of d h f x is.allowed.0 gives in
    let told = told_pick d f x e h.choice g.may names in
    let old = back_run c between d f e is.run (w.laws.unused e.sender e.serial f k way) told.0 told.1 in
    let both : Some old.0 ≡ Some k = sym old.1 ∙ way in
    let same : old.0 ≡ k = cc in
    subst (λ (k : Copy). TellsCopy x k) same (told_earlier x told.0 old.0 old.2 told.2)
