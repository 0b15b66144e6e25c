-- The state after a federate has registered an object
use Rattle.std.proofs.Common.{◌≡◌, ◌≢◌, ◌⊎◌, inl, inr, ℕ, zero, suc, ◌+◌, ◌<◌, cond, eqb, ltb, not, ◌&&◌, true, false, Bool, List, [], ◌∷◌, map, Option, Some, None, option_map, is_some, refl, sym, ap, subst, ◌∙◌, arith, add-one, ⊎_elim}
use Rattle.std.specs.Prelude.{find}
use Rattle.std.specs.List.{filter_map, cons_option}
use Rattle.std.specs.Option.{option_map_or}
use Rattle.std.proofs.lemmas.Bool.{cases_Bool}
use Rattle.std.proofs.lemmas.Bool.Decides.{nat_tests}
use Rattle.std.proofs.lemmas.List.Elements.{filter_map-append}
use Rattle.std.proofs.Math.Path.{fun_ext}
use Rattle.hla_base.specs.Tables.{numbers_below, upd2, upd_row, when}
use Rattle.hla_base.specs.declared.content.Discovery.{Discovery}
use Rattle.hla_catalogue.specs.Lookup.{object_lineage}
use Rattle.hla_null_message.specs.declared.message.Message.{Message}
use Rattle.hla_null_message.specs.declared.message.Message.TheVariants as message
use Rattle.hla_null_message.specs.Wires.{put_all_behind}
use Rattle.hla_null_message.proofs.Wires.{put_all-no_null}
use Rattle.hla_synchronization.specs.Points.{Point}
use Rattle.hla_federation.proofs.Steps.NoNulls.{discoveries_no_null}
use Rattle.hla_declaration.specs.Declarations.{DeclarationsValue}
use Rattle.hla_declaration.specs.Receivers.{receivers_of}
use Rattle.hla_declaration.specs.Receivers as receivers
use Rattle.hla_object_registry.specs.Queries as registry
use Rattle.hla_machine.specs.Registered.{RegistryValue}
use Rattle.hla_catalogue.specs.CatalogueValue.{CatalogueValue}
use Rattle.hla_declaration.specs.declared.receiver.Receiver.{Receiver}
use Rattle.hla_declaration.proofs.ReceiverLemmas.{receiver_at}
use Rattle.hla_machine.specs.Directory.{Directory, Object, served_object, discovery_at, discovery_of, discoveries_of, with_object_discovered, with_object}
use Rattle.hla_members.specs.declared.direction.Direction.TheVariants.{From}
use Rattle.hla_federation.specs.Steps.Discovering.{with_known_among, discovery_to}
use Rattle.hla_components.specs.Invariant.{DirectoryInv}
use Rattle.hla_execution.specs.MemberValue.{MemberTables}
use Rattle.hla_members.specs.Members.{wires_posted_below, is_number}
use Rattle.hla_federation.specs.Steps.State.{state_from, directory_from}
use Rattle.hla_components.specs.Next.{put_discoveries, with_object_registered}
use Rattle.hla_federation.specs.Steps.Sending.{messages_among}
use Rattle.hla_base.proofs.Tables.{upd_same, upd_other, upd2_other}
use Rattle.hla_components.proofs.Services.Discoveries.{discovery_tells}
use Rattle.hla_federation.proofs.Steps.NewObjects.{known_by, among_by}

abbrev receiver_of : ℕ → ℕ → Receiver
receiver_of g k = record { federate = g; class = k }

receiver_named : (served : ℕ → Option ℕ) (f g : ℕ) (r : Receiver) → receiver_at served f g ≡ Some r → r.federate ≡ g
receiver_named served f g r is = named (not (eqb f g)) (served g) is
  where
    named : (b : Bool) (o : Option ℕ) → cond b (option_map (λ k. record { federate = g; class = k }) o) None ≡ Some r → r.federate ≡ g
    named true (Some k) is = let same : record { federate = g; class = k } ≡ r = cc in sym (ap (λ (x : Receiver). x.federate) same)
    named true None is = absurd (cc)
    named false o is = absurd (cc)

find_no : (p : ℕ → Bool) (xs : List ℕ) → ((x : ℕ) → p x ≡ false) → find p xs ≡ None
find_no p [] none = refl
find_no p (x ∷ xs) none = rw (none x) (find_no p xs none)

module _ (d : Directory) (f class : ℕ) (name : List ℕ) (federates : ℕ) (inv : DirectoryInv d) (next : federates + 1 ≡ d.next_federate)
    (silent : (g k : ℕ) → d.joined g ≡ false → d.subscribed g k ≡ None) (unknown : (g : ℕ) → d.known d.next_object g ≡ false) where
  abbrev e : Directory
  e = with_object d f class name

  abbrev n : ℕ
  n = d.next_object

  abbrev served : ℕ → Option ℕ
  served g = served_object d g class

  -- who is served has joined
  served_none : (g : ℕ) → d.joined g ≡ false → served_object d g class ≡ None
  served_none g out = find_no (λ k. is_some (d.subscribed g k)) (object_lineage d.catalogue class) (λ k. rw (silent g k out) refl)

  -- the discovery of the new object
  new_self : discovery_of (with_object d f class name) f d.next_object ≡ None
  new_self = rw upd_same (let self : eqb f f ≡ true = grind (arith, nat_tests) in rw self refl)

  new_other : (g : ℕ) → eqb f g ≡ false → discovery_of (with_object d f class name) g d.next_object ≡ option_map (discovery_at (with_object d f class name) d.next_object) (served_object d g class)
  new_other g other =
      let apart : (d.next_object ≢ d.next_object) ⊎ (f ≢ g) = inr (λ e. let y : eqb f g ≡ true = grind (arith, nat_tests) in cc) in
      let no : upd2 d.known d.next_object f true d.next_object g ≡ false = upd2_other d.known d.next_object f true d.next_object g apart ∙ unknown g in
      rw (upd_same, other, no) refl

  -- no other object is to be discovered
  old_none : (g h : ℕ) → d.joined g ≡ true → h < d.next_object → discovery_of (with_object d f class name) g h ≡ None
  old_none g h joined below = go (discovery_of (with_object d f class name) g h) refl
    where
      other : d.next_object ≢ h
      other same = absurd (omega (arith, same, below))

      go : (o : Option Discovery) → discovery_of (with_object d f class name) g h ≡ o → o ≡ None
      go None is = refl
      go (Some x) is = absurd (
          let t = discovery_tells (with_object d f class name) g h x is in
          let same : (with_object d f class name).object h ≡ d.object h = upd_other d.object d.next_object _ h other in
          let apart : (d.next_object ≢ h) ⊎ (f ≢ g) = inl other in
          let k : d.known h g ≡ false = sym (upd2_other d.known d.next_object f true h g apart) ∙ t.3 in
          let s1 : (d.object h).exists ≡ true = subst (λ (x : Object). x.exists ≡ true) same t.1 in
          let s2 : (d.object h).owner ≢ g = subst (λ (x : Object). x.owner ≢ g) same t.2 in
          let s4 : is_some (served_object d g (d.object h).class) ≡ true = subst (λ (x : Object). is_some (served_object d g x.class) ≡ true) same t.4 in
          let y : d.known h g ≡ true = inv.served g h joined s1 s2 s4 in cc)

  known_at : (g : ℕ) → (d.joined g && is_some (discovery_of (with_object d f class name) g d.next_object)) ≡ (ltb g (federates + 1) && is_some (receiver_at (λ k. served_object d k class) f g))
  known_at g = ⊎_elim
      (λ (y : eqb f g ≡ true).
      let is : f ≡ g = grind (arith, nat_tests) in
      let none : discovery_of (with_object d f class name) g d.next_object ≡ None = subst (λ k. discovery_of (with_object d f class name) k d.next_object ≡ None) is new_self in
      rw (none, y) (both (d.joined g) (ltb g (federates + 1))))
      (λ (z : eqb f g ≡ false). rw (new_other g z, z) (⊎_elim
      (λ (j : d.joined g ≡ true). let within : ltb g (federates + 1) ≡ true = (let below = inv.members g j in grind (arith, nat_tests)) in rw (j, within) (some_both (served_object d g class)))
      (λ (out : d.joined g ≡ false). rw (out, served_none g out) (last_announced (ltb g (federates + 1))))
      (cases_Bool (d.joined g))))
      (cases_Bool (eqb f g))
    where
      both : (a b : Bool) → (a && false) ≡ (b && false)
      both true true = refl
      both true false = refl
      both false true = refl
      both false false = refl

      last_announced : (b : Bool) → false ≡ (b && false)
      last_announced true = refl
      last_announced false = refl

      some_both : (o : Option ℕ) → is_some (option_map (discovery_at (with_object d f class name) d.next_object) o) ≡ is_some (option_map (receiver_of g) o)
      some_both None = refl
      some_both (Some k) = refl

  pub known_after : (with_object_discovered (with_object d f class name) d.next_object).known ≡ with_known_among (receivers_of (λ g. served_object d g class) federates f) d.next_object (upd2 d.known d.next_object f true)
  known_after = fun_ext (λ j. fun_ext (λ k. regroup _ (eqb d.next_object j) (d.joined k) _ _ (known_at k)))
      ∙ sym (known_by (receiver_at (λ g. served_object d g class) f) (receiver_named (λ g. served_object d g class) f) (federates + 1) d.next_object (upd2 d.known d.next_object f true))
    where
      regroup : (x a b c r : Bool) → (b && c) ≡ r → cond (a && b && c) true x ≡ cond (a && r) true x
      regroup x true b c r is = rw is refl
      regroup x false b c r is = refl

  -- what is put on the wires
  none_below : (p : ℕ → Option Discovery) (m : ℕ) → ((h : ℕ) → h < m → p h ≡ None) → filter_map p (numbers_below m) ≡ []
  unfolding numbers_below
  none_below p zero none = refl
  none_below p (suc m) none = filter_map-append p (numbers_below m) (m ∷ []) ∙ rw (none_below p m (λ h below. none h (omega (arith, below))), none m (omega arith)) refl

  made_for : (g : ℕ) → d.joined g ≡ true → discoveries_of (with_object d f class name) f g ≡ cons_option (discovery_of (with_object d f class name) g d.next_object) []
  unfolding numbers_below
  made_for g joined =
      let p : ℕ → Option Discovery = λ h. when (eqb ((with_object d f class name).object h).owner f) (discovery_of (with_object d f class name) g h) in
      let before : (h : ℕ) → h < d.next_object → p h ≡ None = λ h below. rw (old_none g h joined below) (when_no (eqb ((with_object d f class name).object h).owner f)) in
      let mine : eqb ((with_object d f class name).object d.next_object).owner f ≡ true = rw upd_same (grind (arith, nat_tests)) in
      rw (add-one d.next_object) (filter_map-append p (numbers_below d.next_object) (d.next_object ∷ []) ∙ rw (none_below p d.next_object before, mine) refl)
    where
      when_no : (b : Bool) → when {X = Discovery} b None ≡ None
      when_no true = refl
      when_no false = refl

  abbrev messages : ℕ → List Message
  messages g = messages_among (discovery_to d.next_object name) (receivers_of served federates f) g

  by_number : (g : ℕ) → messages g ≡ cond (ltb g (federates + 1)) (option_map_or (discovery_to d.next_object name) (receiver_at served f g) []) []
  by_number g = among_by (receiver_at served f) (receiver_named served f) (discovery_to d.next_object name) (federates + 1) g

  same_cond : (b : Bool) → cond {A = List Message} b [] [] ≡ []
  same_cond true = refl
  same_cond false = refl

  messages_self : messages f ≡ []
  messages_self = by_number f ∙ (let self : eqb f f ≡ true = grind (arith, nat_tests) in rw self (same_cond (ltb f (federates + 1))))

  messages_out : (g : ℕ) → d.joined g ≡ false → messages g ≡ []
  messages_out g out = by_number g ∙ rw (served_none g out) (at (not (eqb f g)) (ltb g (federates + 1)))
    where
      at : (a b : Bool) → cond b (option_map_or (discovery_to d.next_object name) (when a None) []) [] ≡ []
      at true true = refl
      at true false = refl
      at false true = refl
      at false false = refl

  made_of : (g : ℕ) (o : Option ℕ) → map message.Discovery (cons_option (option_map (discovery_at (with_object d f class name) d.next_object) o) []) ≡ option_map_or (discovery_to d.next_object name) (option_map (receiver_of g) o) []
  made_of g None = refl
  made_of g (Some k) = ap (λ (x : Object). message.Discovery (record { object = d.next_object; class = k; name = x.name }) ∷ []) (upd_same d.object d.next_object _)

  made_other : (g : ℕ) → d.joined g ≡ true → eqb f g ≡ false → map message.Discovery (discoveries_of (with_object d f class name) f g) ≡ messages g
  made_other g joined other =
      let within : ltb g (federates + 1) ≡ true = (let below = inv.members g joined in grind (arith, nat_tests)) in
      ap (map message.Discovery) (made_for g joined ∙ ap (λ (o : Option Discovery). cons_option o []) (new_other g other))
      ∙ made_of g (served g) ∙ sym (by_number g ∙ rw (within, other) refl)

  pub wires_after : (wire : ℕ → ℕ → List Message) (o : ℕ → List Message) (end : ℕ) → ((g : ℕ) → o g ≡ messages_among (discovery_to d.next_object name) (receivers_of (λ k. served_object d k class) federates f) g)
      → ((g : ℕ) → d.joined g ≡ true → is_number end g ≡ true)
      → upd_row wire d.joined f (λ g. put_discoveries (discoveries_of (with_object d f class name) f g)) ≡ wires_posted_below (From f) o end wire
  unfolding upd_row
  wires_after wire o end is numbers = fun_ext (λ k. fun_ext (λ l. ⊎_elim
      (λ (y : eqb f k ≡ true). rw y (⊎_elim
      (λ (z : eqb f l ≡ true).
      let same : f ≡ l = grind (arith, nat_tests) in
      let none : o l ≡ [] = is l ∙ ap messages (sym same) ∙ messages_self in
      rw (z, none) (sym (nothing (is_number end l) (wire k l))))
      (λ (z : eqb f l ≡ false). ⊎_elim
      (λ (j : d.joined l ≡ true). rw (z, j, numbers l j) (sym (put_all-no_null (map message.Discovery (discoveries_of (with_object d f class name) f l)) (wire k l) (discoveries_no_null (discoveries_of (with_object d f class name) f l))) ∙ ap (λ (ms : List Message). put_all_behind ms (wire k l)) (made_other l j z ∙ sym (is l))))
      (λ (out : d.joined l ≡ false). let none : o l ≡ [] = is l ∙ messages_out l out in rw (z, out, none) (sym (nothing (is_number end l) (wire k l))))
      (cases_Bool (d.joined l)))
      (cases_Bool (eqb f l))))
      (λ (n : eqb f k ≡ false). rw n refl)
      (cases_Bool (eqb f k))))
    where
      nothing : (b : Bool) (ms : List Message) → cond b (put_all_behind [] ms) ms ≡ ms
      nothing true ms = refl
      nothing false ms = refl

-- the state after it
module _ (c : CatalogueValue) (points : List Point) (dd : DeclarationsValue) (r : RegistryValue) (m : MemberTables) (f class : ℕ) (name : List ℕ) (o : ℕ → List Message) (inv : DirectoryInv (directory_from c points dd r m))
    (next : dd.federates + 1 ≡ m.next_federate) (silent : (g k : ℕ) → m.joined g ≡ false → dd.subscribed g k ≡ None) (unknown : (g : ℕ) → r.known r.next_object g ≡ false)
    (is : (g : ℕ) → o g ≡ messages_among (discovery_to r.next_object name) (receivers_of (λ k. receivers.object_class_served c dd.subscribed k class) dd.federates f) g)
    (numbers : (g : ℕ) → m.joined g ≡ true → is_number m.next_federate g ≡ true) where
  abbrev pub registry_after : RegistryValue
  registry_after = record (registry.with_registered r class name f (option_map_or (λ xs. xs) (dd.published f class) [])) {
    known = with_known_among (receivers_of (λ k. receivers.object_class_served c dd.subscribed k class) dd.federates f) r.next_object (upd2 r.known r.next_object f true);
  }

  abbrev pub members_after : MemberTables
  members_after = record m { wire = wires_posted_below (From f) o m.next_federate m.wire }

  pub registered_state : with_object_registered (state_from c points dd r m) f r.next_object (with_object (directory_from c points dd r m) f class name) ≡ state_from c points dd registry_after members_after
  registered_state = λ i. record (state_from c points dd registry_after members_after) {
    directory = record (state_from c points dd registry_after members_after).directory { known = known_after (directory_from c points dd r m) f class name dd.federates inv next silent unknown i };
    wire = wires_after (directory_from c points dd r m) f class name dd.federates inv next silent unknown m.wire o m.next_federate is numbers i;
  }
