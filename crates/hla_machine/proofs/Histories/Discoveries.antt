-- Discoveries tell what was registered
use Rattle.std.proofs.Common.{◌≡◌, ◌≢◌, ◌⊎◌, ℕ, ◌<◌, cond, eqb, not, ◌&&◌, ◌||◌, Bool, true, false, refl, sym, ◌∙◌, ap, subst, inl, inr, ⊎_elim, eq-eqb, List, [], ◌∷◌, ◌++◌, Option, Some, None, option_map, is_some, drop, find}
use Rattle.std.proofs.lemmas.Bool.{and_parts, cases_Bool}
use Rattle.std.proofs.lemmas.List.{append_assoc, append-nil}
use Rattle.std.specs.List.{filter_map, cons_option, list_any}
use Rattle.hla_base.specs.declared.content.Discovery.{Discovery}
use Rattle.hla_base.specs.declared.number.EventHandle.{EventHandle}
use Rattle.hla_base.specs.Tables.{upd, upd2, upd_row, when, numbers_below}
use Rattle.hla_catalogue.specs.CatalogueValue.{CatalogueValue}
use Rattle.hla_catalogue.specs.Lookup.{contains_number, object_lineage}
use Rattle.hla_callbacks.specs.declared.callback.Callback.{Callback}
use Rattle.hla_callbacks.specs.declared.callback.Callback.TheVariants as callback
use Rattle.hla_callbacks.specs.declared.callback.Delivery.{Delivery}
use Rattle.hla_callbacks.specs.declared.callback.Delivery.TheVariants as delivery
use Rattle.hla_machine.specs.declared.service.Service.{Service}
use Rattle.hla_machine.specs.declared.service.Service.TheVariants as service
use Rattle.hla_machine.specs.declared.service.ResignAction.TheVariants.{DeleteObjects, NoAction}
use Rattle.hla_machine.specs.declared.step.Step.{Step}
use Rattle.hla_machine.specs.declared.step.Step.TheVariants.{Join, Call, Carry, Tick}
use Rattle.hla_machine.specs.declared.step.Carried.{Carried}
use Rattle.hla_machine.specs.declared.step.Carried.TheVariants as carried
use Rattle.hla_machine.specs.declared.step.Answer.{Answer}
use Rattle.hla_machine.specs.declared.step.Answer.TheVariants as answer
use Rattle.hla_machine.specs.declared.step.Outcome.{Outcome}
use Rattle.hla_machine.specs.declared.step.Outcome.TheVariants as outcome
use Rattle.hla_machine.specs.declared.step.Choice.{Choice}
use Rattle.hla_machine.specs.declared.step.Choice.TheVariants as choice
use Rattle.hla_machine.specs.Directory.{Directory, Object, Outgoing, served_object, discovery_at, discovery_of, discoveries_of, name_or_default, deletion_sent, deletions_sent, objects_of, update_sent, interaction_sent, with_subscribed, with_object}
use Rattle.hla_machine.specs.Central.{Central, new_central}
use Rattle.hla_machine.specs.Callbacks.{IsNextDiscovery, after_delivery, after_constraint, after_pick}
use Rattle.hla_machine.specs.Sends.{after_message, after_messages}
use Rattle.hla_machine.specs.Machine.{MayAnswer, MayDo, MayEnd, after_leaving, after_subscribe, after_register, after_delete, after_enter, after_cease, after_call, after_carry, after_done, after}
use Rattle.hla_machine.specs.Runs.{Happening, IsRun}
use Rattle.hla_machine.specs.History.{GivesCallback, next_state}
use Rattle.hla_machine.specs.Discovered.{RegistersFor, IsRegisteredFor}
use Rattle.hla_base.proofs.Tables.{by_number, upd_same, upd_other, upd_each, upd2_each, upd_row_each}
use Rattle.hla_machine.proofs.Basics.Bags.{option_map-some}
use Rattle.hla_machine.proofs.Upkeep.Ahead.{given_of}

-- ---- what a step leaves of objects and discoveries
-- an object is as another one, and exists only where that does
record SameObject (x y : Object) : Type 0 where
  pub exists : x.exists ≡ true → y.exists ≡ true
  pub class : x.class ≡ y.class
  pub owner : x.owner ≡ y.owner
  pub name : x.name ≡ y.name

itself : (x : Object) → SameObject x x
itself x = record { exists = λ e. e; class = refl; owner = refl; name = refl }

-- these discoveries are those, or none, or all of them but the first
abbrev AreLeft : List Discovery → List Discovery → Type 0
AreLeft xs ys = (xs ≡ ys) ⊎ ((xs ≡ []) ⊎ (xs ≡ drop 1 ys))

-- nothing is registered, and nothing is to be discovered that was not before
record Leaves (c d : Central) : Type 0 where
  pub catalogue : d.directory.catalogue ≡ c.directory.catalogue
  pub objects : (h : ℕ) → SameObject (d.directory.object h) (c.directory.object h)
  pub discoveries : (g f : ℕ) → AreLeft (d.discoveries g f) (c.discoveries g f)

leaves_all : (c d : Central) → d.directory ≡ c.directory → d.discoveries ≡ c.discoveries → Leaves c d
leaves_all c d e e2 = record {
  catalogue = ap (λ (x : Directory). x.catalogue) e;
  objects = λ h. subst (λ (x : Directory). SameObject (x.object h) (c.directory.object h)) (sym e) (itself (c.directory.object h));
  discoveries = λ g f. inl (ap (λ (t : ℕ → ℕ → List Discovery). t g f) e2);
}

sent_directory_is : (c : Central) (f : ℕ) (stamp : Option ℕ) (outs : List Outgoing) → (after_messages c f stamp outs).directory ≡ c.directory
sent_directory_is c f stamp [] = refl
sent_directory_is c f stamp (out ∷ outs) = sent_directory_is (after_message c f stamp out) f stamp outs

left_leaves : (c b : Central) (a : ℕ) → b.directory ≡ c.directory → b.discoveries ≡ c.discoveries → Leaves c (after_leaving b a)
left_leaves c b a e e2 = record {
  catalogue = ap (λ (x : Directory). x.catalogue) e;
  objects = λ h. subst (λ (x : Directory). SameObject ((after_leaving b a).directory.object h) (x.object h)) e
      (record { exists = λ is. (and_parts (b.directory.object h).exists _ is).0; class = refl; owner = refl; name = refl });
  discoveries = λ g. by_number a _
      (inr (inl (upd_same (b.discoveries g) a [])))
      (λ f ne. inl (upd_other (b.discoveries g) a [] f ne ∙ ap (λ (t : ℕ → ℕ → List Discovery). t g f) e2));
}

sent_discoveries : (c : Central) (f : ℕ) (stamp : Option ℕ) (outs : List Outgoing) → (after_messages c f stamp outs).discoveries ≡ c.discoveries
sent_discoveries c f stamp [] = refl
sent_discoveries c f stamp (out ∷ outs) = sent_discoveries (after_message c f stamp out) f stamp outs

sent_leaves : (c : Central) (f : ℕ) (stamp : Option ℕ) (outs : List Outgoing) → Leaves c (after_messages c f stamp outs)
sent_leaves c f stamp outs = leaves_all c _ (sent_directory_is c f stamp outs) (sent_discoveries c f stamp outs)

deleted_leaves : (c : Central) (f h : ℕ) (stamp : Option ℕ) → Leaves c (after_delete c f h stamp)
deleted_leaves c f h stamp =
    let outs = deletion_sent c.directory h in
    let b = after_messages c f stamp outs in
    let l = sent_leaves c f stamp outs in
    record {
      catalogue = l.catalogue;
      objects = λ i. upd_each b.directory.object h (record (b.directory.object h) { exists = false }) (λ j (x : Object). SameObject x (c.directory.object j))
          (let s = l.objects h in record { exists = λ e. absurd (cc); class = s.class; owner = s.owner; name = s.name }) (λ j ne. l.objects j) i;
      discoveries = l.discoveries;
    }

-- ---- what a step does
data Disclosure (step : Step) (out : Outcome) (c d : Central) : Type 0 where
  Calm : Leaves c d → Disclosure step out c d
  Subscribed : (f class : ℕ) (attributes : Option (List ℕ)) → d ≡ after_subscribe c f class attributes → Disclosure step out c d
  Registered : (f class : ℕ) (asked : Option (List ℕ)) → step ≡ Call f (service.RegisterObjectInstance class asked)
      → out ≡ outcome.Done (answer.Registered c.directory.next_object (name_or_default c.directory.next_object asked)) → d ≡ after_register c f class (name_or_default c.directory.next_object asked) → Disclosure step out c d

quiet : (step : Step) (out : Outcome) (c d : Central) → d.directory ≡ c.directory → d.discoveries ≡ c.discoveries → Disclosure step out c d
quiet step out c d e e2 = Calm (leaves_all c d e e2)

changed : (step : Step) (out : Outcome) (c d : Central) → d.directory.catalogue ≡ c.directory.catalogue → d.directory.object ≡ c.directory.object → d.discoveries ≡ c.discoveries → Disclosure step out c d
changed step out c d e e2 e3 = Calm (record {
  catalogue = e;
  objects = λ h. subst (λ (t : ℕ → Object). SameObject (t h) (c.directory.object h)) (sym e2) (itself (c.directory.object h));
  discoveries = λ g f. inl (ap (λ (t : ℕ → ℕ → List Discovery). t g f) e3);
})

enter_discloses : (step : Step) (out : Outcome) (c : Central) (f lookahead : ℕ) (o : Choice) → Disclosure step out c (after_enter c f lookahead o)
enter_discloses step out c f lookahead choice.None = quiet step out c _ refl refl
enter_discloses step out c f lookahead (choice.Entry e) = quiet step out c _ refl refl
enter_discloses step out c f lookahead (choice.Moved events) = quiet step out c _ refl refl

cease_discloses : (step : Step) (out : Outcome) (c : Central) (f : ℕ) (o : Choice) → Disclosure step out c (after_cease c f o)
cease_discloses step out c f choice.None = quiet step out c _ refl refl
cease_discloses step out c f (choice.Entry e) = quiet step out c _ refl refl
cease_discloses step out c f (choice.Moved events) = quiet step out c _ refl refl

registered_so : (c : Central) (f class : ℕ) (asked : Option (List ℕ)) (a : Answer) (o : Choice) → MayAnswer c f (service.RegisterObjectInstance class asked) a o
    → outcome.Done a ≡ outcome.Done (answer.Registered c.directory.next_object (name_or_default c.directory.next_object asked))
registered_so c f class asked (answer.Registered object name) o may = ap outcome.Done (λ j. answer.Registered (may.0 j) (may.1 j))
registered_so c f class asked a o may = absurd may

call_discloses : (c : Central) (f : ℕ) (s : Service) (a : Answer) (o : Choice) → MayAnswer c f s a o → Disclosure (Call f s) (outcome.Done a) c (after_call c f s o)
call_discloses c f (service.Resign DeleteObjects) a o may = let outs = deletions_sent (objects_of c.directory f) in Calm (left_leaves c (after_messages c f None outs) f (sent_directory_is c f None outs) (sent_discoveries c f None outs))
call_discloses c f (service.Resign NoAction) a o may = Calm (left_leaves c c f refl refl)
call_discloses c f (service.SubscribeObjectClassAttributes class attributes) a o may = Subscribed f class (Some attributes) refl
call_discloses c f (service.RegisterObjectInstance class asked) a o may = Registered f class asked refl (registered_so c f class asked a o may) refl
call_discloses c f (service.UpdateAttributeValues object values stamp) a o may = Calm (sent_leaves c f stamp (update_sent c.directory object values))
call_discloses c f (service.SendInteraction class values stamp) a o may = Calm (sent_leaves c f stamp (interaction_sent c.directory f class values))
call_discloses c f (service.DeleteObjectInstance object stamp) a o may = Calm (deleted_leaves c f object stamp)
call_discloses c f (service.EnableTimeRegulation time lookahead) a o may = enter_discloses _ _ c f lookahead o
call_discloses c f service.DisableTimeConstrained a o may = cease_discloses _ _ c f o
call_discloses c f s a o may = changed _ _ c _ refl refl refl

carry_discloses : (step : Step) (out : Outcome) (c : Central) (g f : ℕ) (x : Carried) → Disclosure step out c (after_carry c g f x)
carry_discloses step out c g f (carried.Event e) = quiet step out c _ refl refl
carry_discloses step out c g f (carried.Removal e) = quiet step out c _ refl refl
carry_discloses step out c g f (carried.Retraction e) = quiet step out c _ refl refl
carry_discloses step out c g f x = quiet step out c _ refl refl

delivery_discloses : (step : Step) (out : Outcome) (c : Central) (f : ℕ) (e : EventHandle) (d : Delivery) → Disclosure step out c (after_delivery c f e d)
delivery_discloses step out c f e delivery.Receive = quiet step out c _ refl refl
delivery_discloses step out c f e (delivery.Demoted s) = quiet step out c _ refl refl
delivery_discloses step out c f e (delivery.TimeStamp s) = quiet step out c _ refl refl

constraint_discloses : (step : Step) (out : Outcome) (c : Central) (f : ℕ) (o : Choice) → Disclosure step out c (after_constraint c f o)
constraint_discloses step out c f choice.None = quiet step out c _ refl refl
constraint_discloses step out c f (choice.Entry e) = quiet step out c _ refl refl
constraint_discloses step out c f (choice.Moved events) = quiet step out c _ refl refl

-- the first of what waits is discovered
discovered_leaves : (c : Central) (g f : ℕ) → Leaves c (record c { discoveries = upd2 c.discoveries g f (drop 1 (c.discoveries g f)) })
discovered_leaves c g f = record {
  catalogue = refl;
  objects = λ h. itself (c.directory.object h);
  discoveries = upd2_each c.discoveries g f (drop 1 (c.discoveries g f)) (λ h k ds. AreLeft ds (c.discoveries h k)) (inr (inr refl)) (λ _ _. inl refl);
}

pick_discloses : (step : Step) (out : Outcome) (c : Central) (f : ℕ) (k : Callback) (o : Choice) → Disclosure step out c (after_pick c f k o)
pick_discloses step out c f (callback.DiscoverObjectInstance object class name) o = Calm (discovered_leaves c (c.directory.object object).owner f)
pick_discloses step out c f (callback.ReflectAttributeValues object values event d) o = delivery_discloses step out c f event d
pick_discloses step out c f (callback.ReceiveInteraction class values event d) o = delivery_discloses step out c f event d
pick_discloses step out c f (callback.RemoveObjectInstance object event d) o = delivery_discloses step out c f event d
pick_discloses step out c f (callback.TimeConstrainedEnabled time) o = constraint_discloses step out c f o
pick_discloses step out c f k o = changed step out c _ refl refl refl

done_discloses : (c : Central) (step : Step) (a : Answer) (o : Choice) → MayDo c step a o → Disclosure step (outcome.Done a) c (after_done c step a o)
done_discloses c (Join name) a o may = changed _ _ c _ refl refl refl
done_discloses c (Call f s) a o may = call_discloses c f s a o may
done_discloses c (Carry from to) (answer.Carried x) o may = carry_discloses _ _ c from to x
done_discloses c (Tick f) (answer.Ticked (Some k)) o may = pick_discloses _ _ c f k o
done_discloses c step a o may = quiet _ _ c c refl refl

step_discloses : (c : Central) (step : Step) (out : Outcome) (o : Choice) → MayEnd c step out o → Disclosure step out c (after c step out o)
step_discloses c step (outcome.Done a) o may = done_discloses c step a o may.1
step_discloses c (Tick f) (outcome.Failed k) o may = pick_discloses _ _ c f k o
step_discloses c step out o may = quiet step out c c refl refl

-- ---- what was registered among the happenings so far
-- the object was registered as it is
abbrev IsKnownAmong : List Happening → ℕ → Object → Type 0
IsKnownAmong [] h x = ⊥
IsKnownAmong (i ∷ is) h x = ((asked : Option (List ℕ)) × (i.step ≡ Call x.owner (service.RegisterObjectInstance x.class asked)) × (i.outcome ≡ outcome.Done (answer.Registered h x.name))) ⊎ IsKnownAmong is h x

known_on : (past more : List Happening) (h : ℕ) (x : Object) → IsKnownAmong past h x → IsKnownAmong (past ++ more) h x
known_on [] more h x known = absurd known
known_on (i ∷ is) more h x (inl here) = inl here
known_on (i ∷ is) more h x (inr there) = inr (known_on is more h x there)

known_last : (past : List Happening) (i : Happening) (h : ℕ) (x : Object) (asked : Option (List ℕ)) → i.step ≡ Call x.owner (service.RegisterObjectInstance x.class asked) → i.outcome ≡ outcome.Done (answer.Registered h x.name)
    → IsKnownAmong (past ++ (i ∷ [])) h x
known_last [] i h x asked step out = inl (asked, step, out)
known_last (y ∷ ys) i h x asked step out = inr (known_last ys i h x asked step out)

known_as : (past : List Happening) (h : ℕ) (x y : Object) → x.class ≡ y.class → x.owner ≡ y.owner → x.name ≡ y.name → IsKnownAmong past h y → IsKnownAmong past h x
known_as [] h x y e e2 e3 known = known
known_as (i ∷ is) h x y e e2 e3 (inl here) = inl (here.0, rw (e, e2) here.1, rw e3 here.2)
known_as (i ∷ is) h x y e e2 e3 (inr there) = inr (known_as is h x y e e2 e3 there)

known_for : (catalogue : CatalogueValue) (past : List Happening) (h : ℕ) (x : Object) (f class : ℕ) → x.owner ≢ f → contains_number class (object_lineage catalogue x.class) ≡ true → IsKnownAmong past h x
    → IsRegisteredFor catalogue past f h class x.name
known_for catalogue [] h x f class ne up known = known
known_for catalogue (i ∷ is) h x f class ne up (inl here) = inl (record { owner = x.owner; other = ne; registered = x.class; asked = here.0; step = here.1; outcome = here.2; derived = up })
known_for catalogue (i ∷ is) h x f class ne up (inr there) = inr (known_for catalogue is h x f class ne up there)

registered_on : (catalogue : CatalogueValue) (past more : List Happening) (f h class : ℕ) (name : List ℕ) → IsRegisteredFor catalogue past f h class name → IsRegisteredFor catalogue (past ++ more) f h class name
registered_on catalogue [] more f h class name is = absurd is
registered_on catalogue (i ∷ is) more f h class name (inl here) = inl here
registered_on catalogue (i ∷ is) more f h class name (inr there) = inr (registered_on catalogue is more f h class name there)

-- each of these discoveries, for f, is of what was registered so
abbrev AreRegistered : CatalogueValue → List Happening → ℕ → List Discovery → Type 0
AreRegistered catalogue past f [] = Unit {0}
AreRegistered catalogue past f (x ∷ xs) = IsRegisteredFor catalogue past f x.object x.class x.name × AreRegistered catalogue past f xs

module _ (catalogue : CatalogueValue) where
  are_on : (past more : List Happening) (f : ℕ) (xs : List Discovery) → AreRegistered catalogue past f xs → AreRegistered catalogue (past ++ more) f xs
  are_on past more f [] are = tt
  are_on past more f (x ∷ xs) are = (registered_on catalogue past more f x.object x.class x.name are.0, are_on past more f xs are.1)

  are_both : (past : List Happening) (f : ℕ) (xs ys : List Discovery) → AreRegistered catalogue past f xs → AreRegistered catalogue past f ys → AreRegistered catalogue past f (xs ++ ys)
  are_both past f [] ys a b = b
  are_both past f (x ∷ xs) ys a b = (a.0, are_both past f xs ys a.1 b)

  are_left : (past : List Happening) (f : ℕ) (xs ys : List Discovery) → AreLeft xs ys → AreRegistered catalogue past f ys → AreRegistered catalogue past f xs
  are_left past f xs ys (inl same) are = subst (AreRegistered catalogue past f) (sym same) are
  are_left past f xs ys (inr (inl none)) are = subst (AreRegistered catalogue past f) (sym none) tt
  are_left past f xs ys (inr (inr rest)) are = subst (AreRegistered catalogue past f) (sym rest) (behind ys are)
    where
      behind : (ys : List Discovery) → AreRegistered catalogue past f ys → AreRegistered catalogue past f (drop 1 ys)
      behind [] are = tt
      behind (y ∷ ys) are = are.1

  -- what is found in a list is in it
  found_there : (p : ℕ → Bool) (ns : List ℕ) (n : ℕ) → find p ns ≡ Some n → contains_number n ns ≡ true
  found_there p [] n is = absurd (cc)
  found_there p (k ∷ ks) n is = ⊎_elim
      (λ (y : p k ≡ true). let first : Some k ≡ Some n = rw y at is in let same : k ≡ n = cc in rw (eq-eqb k n same) refl)
      (λ (no : p k ≡ false). let rest : find p ks ≡ Some n = rw no at is in rw (found_there p ks n rest) (or_true (eqb k n)))
      (cases_Bool (p k))
    where
      or_true : (b : Bool) → (b || true) ≡ true
      or_true true = refl
      or_true false = refl

  when_is : {X : Type 0} (b : Bool) (o : Option X) (x : X) → when b o ≡ Some x → (b ≡ true) × (o ≡ Some x)
  when_is true o x is = (refl, is)
  when_is false o x is = absurd (cc)

  -- a discovery that is to be made is of an object of another, at one of its classes
  made_so : (past : List Happening) (d : Directory) (f h : ℕ) (x : Discovery) → d.catalogue ≡ catalogue → ((h : ℕ) → (d.object h).exists ≡ true → IsKnownAmong past h (d.object h)) → discovery_of d f h ≡ Some x
      → IsRegisteredFor catalogue past f x.object x.class x.name
  made_so past d f h x same all is =
      let w = when_is ((d.object h).exists && not (eqb (d.object h).owner f) && not (d.known h f)) (option_map (discovery_at d h) (served_object d f (d.object h).class)) x is in
      let p = and_parts _ _ w.0 in
      let q = and_parts _ _ p.0 in
      let m = option_map-some (discovery_at d h) (served_object d f (d.object h).class) x w.1 in
      let other : (d.object h).owner ≢ f = λ e. not_self (d.object h).owner f e q.1 in
      let up = subst (λ (c : CatalogueValue). contains_number m.0 (object_lineage c (d.object h).class) ≡ true) same (found_there _ (object_lineage d.catalogue (d.object h).class) m.0 m.1) in
      subst (λ (y : Discovery). IsRegisteredFor catalogue past f y.object y.class y.name) m.2 (known_for catalogue past h (d.object h) f m.0 other up (all h q.0))
    where
      not_self : (a b : ℕ) → a ≡ b → not (eqb a b) ≡ true → ⊥
      not_self a b e n = let y = eq-eqb a b e in let t : not true ≡ true = rw y at n in cc

  made_all : (past : List Happening) (f : ℕ) (q : ℕ → Option Discovery) → ((h : ℕ) (x : Discovery) → q h ≡ Some x → IsRegisteredFor catalogue past f x.object x.class x.name) → (ns : List ℕ)
      → AreRegistered catalogue past f (filter_map q ns)
  made_all past f q each [] = tt
  made_all past f q each (n ∷ ns) = one (q n) refl (made_all past f q each ns)
    where
      one : (o : Option Discovery) → q n ≡ o → AreRegistered catalogue past f (filter_map q ns) → AreRegistered catalogue past f (cons_option o (filter_map q ns))
      one None is rest = rest
      one (Some x) is rest = (each n x is, rest)

  all_made : (past : List Happening) (d : Directory) (g f : ℕ) → d.catalogue ≡ catalogue → ((h : ℕ) → (d.object h).exists ≡ true → IsKnownAmong past h (d.object h)) → AreRegistered catalogue past f (discoveries_of d g f)
  all_made past d g f same all = made_all past f (λ h. when (eqb (d.object h).owner g) (discovery_of d f h))
      (λ h x is. made_so past d f h x same all (when_is (eqb (d.object h).owner g) (discovery_of d f h) x is).1) (numbers_below d.next_object)

  -- ---- the invariant
  record AllRegistered (past : List Happening) (c : Central) : Type 0 where
    pub same : c.directory.catalogue ≡ catalogue
    pub objects : (h : ℕ) → (c.directory.object h).exists ≡ true → IsKnownAmong past h (c.directory.object h)
    pub waiting : (g f : ℕ) → AreRegistered catalogue past f (c.discoveries g f)

  module _ (past : List Happening) (i : Happening) (c : Central) (k : AllRegistered past c) where
    abbrev later : List Happening
    later = past ++ (i ∷ [])

    after_leaves : (d : Central) → Leaves c d → AllRegistered later d
    after_leaves d l = record {
      same = l.catalogue ∙ k.same;
      objects = λ h e. let s = l.objects h in known_on past (i ∷ []) h (d.directory.object h) (known_as past h (d.directory.object h) (c.directory.object h) s.class s.owner s.name (k.objects h (s.exists e)));
      waiting = λ g f. are_on past (i ∷ []) f (d.discoveries g f) (are_left past f (d.discoveries g f) (c.discoveries g f) (l.discoveries g f) (k.waiting g f));
    }

    after_subscribed : (f class : ℕ) (attributes : Option (List ℕ)) → AllRegistered later (after_subscribe c f class attributes)
    after_subscribed f class attributes = record {
      same = k.same;
      objects = λ h e. known_on past (i ∷ []) h (c.directory.object h) (k.objects h e);
      waiting = λ g. upd_each (c.discoveries g) f (c.discoveries g f ++ discoveries_of (with_subscribed c.directory f class attributes) g f) (λ l ds. AreRegistered catalogue later l ds)
          (are_on past (i ∷ []) f _ (are_both past f (c.discoveries g f) _ (k.waiting g f) (all_made past (with_subscribed c.directory f class attributes) g f k.same k.objects)))
          (λ l ne. are_on past (i ∷ []) l (c.discoveries g l) (k.waiting g l));
    }

    after_registered : (f class : ℕ) (asked : Option (List ℕ)) → i.step ≡ Call f (service.RegisterObjectInstance class asked)
        → i.outcome ≡ outcome.Done (answer.Registered c.directory.next_object (name_or_default c.directory.next_object asked)) → AllRegistered later (after_register c f class (name_or_default c.directory.next_object asked))
    after_registered f class asked step out =
        let name = name_or_default c.directory.next_object asked in
        let d = with_object c.directory f class name in
        let objects : (h : ℕ) → (d.object h).exists ≡ true → IsKnownAmong later h (d.object h) =
        upd_each c.directory.object c.directory.next_object _ (λ h (x : Object). x.exists ≡ true → IsKnownAmong later h x)
        (λ e. known_last past i c.directory.next_object _ asked step out) (λ h ne e. known_on past (i ∷ []) h (c.directory.object h) (k.objects h e)) in
        record {
          same = k.same;
          objects = objects;
          waiting = upd_row_each c.discoveries c.directory.joined f (λ g ds. ds ++ discoveries_of d f g) (λ g l ds. AreRegistered catalogue later l ds)
              (λ l _. are_both later l (c.discoveries f l) _ (are_on past (i ∷ []) l (c.discoveries f l) (k.waiting f l)) (all_made later d f l k.same objects))
              (λ g l. are_on past (i ∷ []) l (c.discoveries g l) (k.waiting g l));
        }

    after_disclosure : (d : Central) → Disclosure i.step i.outcome c d → AllRegistered later d
    after_disclosure d (Calm l) = after_leaves d l
    after_disclosure d (Subscribed f class attributes is) = subst (AllRegistered later) (sym is) (after_subscribed f class attributes)
    after_disclosure d (Registered f class asked step out is) = subst (AllRegistered later) (sym is) (after_registered f class asked step out)

  registered_run : (past : List Happening) (c : Central) (hs : List Happening) (d : Central) → IsRun c hs d → AllRegistered past c → AllRegistered (past ++ hs) d
  registered_run past c [] d run k = subst (λ (d : Central). AllRegistered (past ++ []) d) run (subst (λ (hs : List Happening). AllRegistered hs c) (sym (append-nil past)) k)
  registered_run past c (h ∷ hs) d run k =
      subst (λ (hs : List Happening). AllRegistered hs d) (append_assoc past (h ∷ []) hs)
      (registered_run (past ++ (h ∷ [])) (next_state c h) hs d run.1 (after_disclosure past h c k (next_state c h) (step_discloses c h.step h.outcome h.choice run.0.0)))

  first_registered : (past : List Happening) (f : ℕ) (ds : List Discovery) (x : Discovery) → IsNextDiscovery ds x → AreRegistered catalogue past f ds → IsRegisteredFor catalogue past f x.object x.class x.name
  first_registered past f [] x next are = absurd next
  first_registered past f (d ∷ ds) x next are = subst (λ (y : Discovery). IsRegisteredFor catalogue past f y.object y.class y.name) next are.0

-- ---- the law
pub discovered_as_registered : (catalogue : CatalogueValue) (earlier : List Happening) (now : Central) (h : Happening) (f object class : ℕ) (name : List ℕ) → IsRun (new_central catalogue) earlier now
    → MayEnd now h.step h.outcome h.choice → GivesCallback h.step h.outcome f (callback.DiscoverObjectInstance object class name) → IsRegisteredFor catalogue earlier f object class name
discovered_as_registered catalogue earlier now h f object class name run may gives =
    let k = registered_run catalogue [] (new_central catalogue) earlier now run (record { same = refl; objects = λ h e. absurd (cc); waiting = λ _ _. tt }) in
    let g = given_of now h f (callback.DiscoverObjectInstance object class name) may gives in
    first_registered catalogue earlier f _ (record { object = object; class = class; name = name }) g.may (k.waiting (now.directory.object object).owner f)
