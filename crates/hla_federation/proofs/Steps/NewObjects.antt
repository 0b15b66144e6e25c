-- The parts after a federate has registered an object
use Rattle.std.proofs.Common.{◌≡◌, ℕ, zero, suc, ◌<◌, ◌≤◌, cond, eqb, ltb, ◌&&◌, ◌||◌, true, false, Bool, List, [], ◌∷◌, ◌++◌, Option, Some, None, is_some, refl, sym, ap, subst, ◌∙◌, arith, ⊎_elim}
use Rattle.std.specs.List.{filter_map, cons_option}
use Rattle.std.specs.Option.{option_map_or}
use Rattle.std.proofs.lemmas.Bool.{cases_Bool}
use Rattle.std.proofs.lemmas.Bool.Decides.{nat_tests}
use Rattle.std.proofs.lemmas.List.{append-nil, append_assoc}
use Rattle.std.proofs.lemmas.List.Elements.{filter_map-append, All-weaker}
use Rattle.std.proofs.Math.Path.{fun_ext}
use Rattle.hla_base.specs.Tables.{numbers_below, upd2}
use Rattle.hla_catalogue.specs.CatalogueValue.{CatalogueValue}
use Rattle.hla_declaration.specs.Lists.{DeclarationLists}
use Rattle.hla_declaration.specs.Declarations.{declarations_of}
use Rattle.hla_declaration.specs.Receivers.{object_class_served, receivers_of, IsReceiver}
use Rattle.hla_declaration.proofs.ReceiverLemmas.{object_receivers}
use Rattle.hla_declaration.specs.declared.receiver.Receiver.{Receiver}
use Rattle.hla_null_message.specs.declared.message.Message.{Message}
use Rattle.hla_federation.specs.Steps.Discovering.{with_known_among, IsFederate, AreFederates}
use Rattle.hla_machine.specs.Directory.{default_name}
use Rattle.hla_machine.specs.Registered.{Registered, registry_of}
use Rattle.hla_federation.specs.FederationValue.{FederationValue}
use Rattle.hla_federation.specs.Steps.State.{AreWhole, IsWhole}
use Rattle.hla_execution.specs.MemberValue.{MemberValue}
use Rattle.hla_execution.specs.MemberValue as members
use Rattle.hla_federation.specs.Steps.Sending.{messages_among}

known_push : (rs : List Receiver) (r : Receiver) (n : ℕ) (known : ℕ → ℕ → Bool) → with_known_among (rs ++ r ∷ []) n known ≡ upd2 (with_known_among rs n known) n r.federate true
known_push [] r n known = refl
known_push (x ∷ rs) r n known = known_push rs r n (upd2 known n x.federate true)

among_push : (made : Receiver → List Message) (rs : List Receiver) (r : Receiver) (h : ℕ) → messages_among made (rs ++ r ∷ []) h ≡ messages_among made rs h ++ cond (eqb r.federate h) (made r) []
among_push made [] r h = append-nil _
among_push made (x ∷ rs) r h = ap (λ (ms : List Message). cond (eqb x.federate h) (made x) [] ++ ms) (among_push made rs r h) ∙ sym (append_assoc (cond (eqb x.federate h) (made x) []) (messages_among made rs h) _)

-- receivers by number
module _ (p : ℕ → Option Receiver) (named : (g : ℕ) (r : Receiver) → p g ≡ Some r → r.federate ≡ g) where
  known_so : ℕ → (ℕ → ℕ → Bool) → ℕ → ℕ → ℕ → Bool
  known_so n known m j k = cond (eqb n j && (ltb k m && is_some (p k))) true (known j k)

  known_one : (n m : ℕ) (known : ℕ → ℕ → Bool) (r : Receiver) → p m ≡ Some r → upd2 (known_so n known m) n r.federate true ≡ known_so n known (suc m)
  unfolding upd2 known_so
  known_one n m known r is = fun_ext (λ j. fun_ext (λ k. ⊎_elim
      (λ (y : eqb m k ≡ true).
      let e : m ≡ k = grind (arith, nat_tests) in
      let self : eqb m m ≡ true = grind (arith, nat_tests) in
      let now : ltb m (suc m) ≡ true = grind (arith, nat_tests) in
      let before : ltb m m ≡ false = grind (arith, nat_tests) in
      rw (← e, named m r is, is, self, now, before) (here (eqb n j) (known j m)))
      (λ (z : eqb m k ≡ false). let same : ltb k (suc m) ≡ ltb k m = grind (arith, nat_tests) in rw (named m r is, z, same) (there (eqb n j) _))
      (cases_Bool (eqb m k))))
    where
      here : (b x : Bool) → cond (b && true) true (cond (b && false) true x) ≡ cond (b && true) true x
      here true x = refl
      here false x = refl

      there : (b x : Bool) → cond (b && false) true x ≡ x
      there true x = refl
      there false x = refl

  known_rest : (n m : ℕ) (known : ℕ → ℕ → Bool) → p m ≡ None → known_so n known m ≡ known_so n known (suc m)
  unfolding known_so
  known_rest n m known is = fun_ext (λ j. fun_ext (λ k. ⊎_elim
      (λ (y : eqb m k ≡ true).
      let e : m ≡ k = grind (arith, nat_tests) in
      let now : ltb m (suc m) ≡ true = grind (arith, nat_tests) in
      let before : ltb m m ≡ false = grind (arith, nat_tests) in
      rw (← e, is, now, before) refl)
      (λ (z : eqb m k ≡ false). let same : ltb k (suc m) ≡ ltb k m = grind (arith, nat_tests) in rw same refl)
      (cases_Bool (eqb m k))))

  known_none : (n : ℕ) (known : ℕ → ℕ → Bool) → known ≡ known_so n known 0
  unfolding known_so
  known_none n known = fun_ext (λ j. fun_ext (λ k. let no : ltb k 0 ≡ false = grind (arith, nat_tests) in rw no (there (eqb n j) (known j k))))
    where
      there : (b x : Bool) → x ≡ cond (b && false) true x
      there true x = refl
      there false x = refl

  -- who knows the object once the receivers know it
  pub known_by : (m n : ℕ) (known : ℕ → ℕ → Bool) → with_known_among (filter_map p (numbers_below m)) n known ≡ (λ j k. cond (eqb n j && (ltb k m && is_some (p k))) true (known j k))
  unfolding numbers_below known_so
  known_by zero n known = known_none n known
  known_by (suc m) n known = ap (λ rs. with_known_among rs n known) (filter_map-append p (numbers_below m) (m ∷ [])) ∙ last_announced (known_by m n known) (p m) refl
    where
      last_announced : with_known_among (filter_map p (numbers_below m)) n known ≡ known_so n known m → (o : Option Receiver) → p m ≡ o → with_known_among (filter_map p (numbers_below m) ++ cons_option o []) n known ≡ known_so n known (suc m)
      last_announced before None is = ap (λ rs. with_known_among rs n known) (append-nil (filter_map p (numbers_below m))) ∙ before ∙ known_rest n m known is
      last_announced before (Some r) is = known_push (filter_map p (numbers_below m)) r n known ∙ ap (λ (t : ℕ → ℕ → Bool). upd2 t n r.federate true) before ∙ known_one n m known r is

  -- the messages for the receivers
  among_so : (Receiver → List Message) → ℕ → ℕ → List Message
  among_so made m h = cond (ltb h m) (option_map_or made (p h) []) []

  among_one : (made : Receiver → List Message) (m h : ℕ) (r : Receiver) → p m ≡ Some r → among_so made m h ++ cond (eqb r.federate h) (made r) [] ≡ among_so made (suc m) h
  unfolding among_so
  among_one made m h r is = ⊎_elim
      (λ (y : eqb m h ≡ true).
      let number : r.federate ≡ m = named m r is in
      let same_number : eqb r.federate m ≡ true = grind (arith, nat_tests) in
      let e : m ≡ h = grind (arith, nat_tests) in
      let now : ltb m (suc m) ≡ true = grind (arith, nat_tests) in
      let before : ltb m m ≡ false = grind (arith, nat_tests) in
      rw (← e, is, before, now, same_number) refl)
      (λ (z : eqb m h ≡ false). let same : ltb h (suc m) ≡ ltb h m = grind (arith, nat_tests) in rw (named m r is, z, same) (append-nil _))
      (cases_Bool (eqb m h))

  among_rest : (made : Receiver → List Message) (m h : ℕ) → p m ≡ None → among_so made m h ≡ among_so made (suc m) h
  unfolding among_so
  among_rest made m h is = ⊎_elim
      (λ (y : eqb m h ≡ true).
      let e : m ≡ h = grind (arith, nat_tests) in
      let now : ltb m (suc m) ≡ true = grind (arith, nat_tests) in
      let before : ltb m m ≡ false = grind (arith, nat_tests) in
      rw (← e, is, now, before) refl)
      (λ (z : eqb m h ≡ false). let same : ltb h (suc m) ≡ ltb h m = grind (arith, nat_tests) in rw same refl)
      (cases_Bool (eqb m h))

  pub among_by : (made : Receiver → List Message) (m h : ℕ) → messages_among made (filter_map p (numbers_below m)) h ≡ cond (ltb h m) (option_map_or made (p h) []) []
  unfolding numbers_below among_so
  among_by made zero h = let no : ltb h 0 ≡ false = grind (arith, nat_tests) in rw no refl
  among_by made (suc m) h = ap (λ rs. messages_among made rs h) (filter_map-append p (numbers_below m) (m ∷ [])) ∙ last_announced (among_by made m h) (p m) refl
    where
      last_announced : messages_among made (filter_map p (numbers_below m)) h ≡ among_so made m h → (o : Option Receiver) → p m ≡ o → messages_among made (filter_map p (numbers_below m) ++ cons_option o []) h ≡ among_so made (suc m) h
      last_announced before None is = ap (λ rs. messages_among made rs h) (append-nil (filter_map p (numbers_below m))) ∙ before ∙ among_rest made m h is
      last_announced before (Some r) is = among_push made (filter_map p (numbers_below m)) r h ∙ ap (λ (ms : List Message). ms ++ cond (eqb r.federate h) (made r) []) before ∙ among_one made m h r is

-- ---- what a registration may rely on
pub federates_all : (c : CatalogueValue) (d : DeclarationLists) (class sender : ℕ) → (declarations_of d).federates ≤ 16 → AreFederates (receivers_of (λ g. object_class_served c (declarations_of d).subscribed g class) (declarations_of d).federates sender)
federates_all c d class sender few = All-weaker (IsReceiver (declarations_of d).federates sender) IsFederate (λ r is. record { some = is.some; within = omega (arith, is.joined, few) }) _ (object_receivers c d class sender)

pub joined_some : (ms : List MemberValue) (f : ℕ) → (members.members_of ms).joined f ≡ true → 0 < f
joined_some ms zero joined = absurd (cc)
joined_some ms (suc f) joined = omega arith

pub or_first : (a b : Bool) → (a || b) ≡ false → a ≡ false
or_first true b is = absurd (cc)
or_first false b is = refl

pub registered_whole : (old : FederationValue) (r : List Registered) (m : List MemberValue) (w : ℕ → ℕ → List Message) (name : List ℕ) → IsWhole old
    → members.members_of m ≡ record (members.members_of old.members) { wire = w } → name ≡ default_name (registry_of r).next_object → IsWhole (record old { objects = r; members = m; next_name = name })
registered_whole old r m w name whole m_is name_is = record {
  parts = subst (λ (t : members.MemberTables). AreWhole old.catalogue (declarations_of old.declarations) t) (sym m_is) (record {
    few = whole.parts.few;
    federates = whole.parts.federates;
    object_classes = whole.parts.object_classes;
    interaction_classes = whole.parts.interaction_classes;
    silent = whole.parts.silent;
    unmet = whole.parts.unmet;
  });
  named = λ g joined. name_is;
}
