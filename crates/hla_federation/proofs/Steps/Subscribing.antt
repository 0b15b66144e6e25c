-- The parts after a federate has subscribed an object class
use Rattle.std.proofs.Common.{◌≡◌, ◌≢◌, ◌⊎◌, inl, ℕ, zero, suc, ◌<◌, ◌≤◌, cond, eqb, ltb, ◌&&◌, true, false, List, [], ◌∷◌, ◌++◌, map, Some, refl, sym, ap, subst, ◌∙◌, arith, ⊎_elim}
use Rattle.std.proofs.lemmas.Bool.{cases_Bool}
use Rattle.std.proofs.lemmas.Bool.Decides.{nat_tests}
use Rattle.std.proofs.lemmas.List.{append-nil}
use Rattle.std.proofs.Math.Path.{fun_ext}
use Rattle.hla_base.specs.Tables.{upd, upd2}
use Rattle.hla_base.specs.declared.content.Discovery.{Discovery}
use Rattle.hla_null_message.specs.declared.message.Message.{Message}
use Rattle.hla_null_message.specs.declared.message.Message.TheVariants as message
use Rattle.hla_null_message.specs.Wires.{put_all_behind}
use Rattle.hla_null_message.proofs.Wires.{HasNoNull, put_all-no_null}
use Rattle.hla_synchronization.specs.OpenPoints.{points_of}
use Rattle.hla_federation.proofs.Steps.NoNulls.{discoveries_no_null}
use Rattle.hla_declaration.specs.Declarations as declared
use Rattle.hla_declaration.specs.Declarations.{DeclarationsValue}
use Rattle.hla_declaration.specs.Lists.{DeclarationLists}
use Rattle.hla_machine.specs.Directory.{Directory, default_name, discoveries_of, with_discoveries_made, with_subscribed}
use Rattle.hla_machine.specs.Registered.{Registered, RegistryValue, registry_of}
use Rattle.hla_members.specs.declared.direction.Direction.TheVariants.{To}
use Rattle.hla_federation.specs.FederationValue.{FederationValue}
use Rattle.hla_components.specs.Invariant.{EachOf, DirectoryInv}
use Rattle.hla_execution.specs.MemberValue.{MemberValue, MemberTables, members_of}
use Rattle.hla_members.specs.Members.{wires_posted_below, is_number}
use Rattle.hla_components.specs.Next.{with_class_subscribed}
use Rattle.hla_federation.specs.Steps.State.{state_of, state_from, AreWhole, IsWhole}
use Rattle.hla_base.proofs.Tables.{upd2_other}
use Rattle.hla_components.proofs.Services.Discoveries.{each_discovery, discovery_tells}

none_of : (xs : List Discovery) → EachOf (λ (x : Discovery). ⊥) xs → xs ≡ []
none_of [] e = refl
none_of (x ∷ xs) e = absurd (e.0)

-- nobody discovers objects of a federate that has not joined
no_owner : (d : Directory) (g f : ℕ) → ((h : ℕ) → (d.object h).exists ≡ true → (d.object h).owner < d.next_federate) → d.next_federate ≤ g → discoveries_of d g f ≡ []
no_owner d g f owners above = none_of (discoveries_of d g f) (each_discovery d g f (λ x. ⊥) (λ h x owner is. let t = discovery_tells d f h x is in let below = owners h t.1 in absurd (omega (arith, below, owner, above))))

-- the wires to one federate
wires_to : (next f : ℕ) (o ds : ℕ → List Message) (wire : ℕ → ℕ → List Message) → ((g : ℕ) → o g ≡ ds g) → o 0 ≡ [] → ((g : ℕ) → next ≤ g → ds g ≡ []) → ((g : ℕ) → HasNoNull (ds g))
    → (λ g. upd (wire g) f (wire g f ++ ds g)) ≡ wires_posted_below (To f) o next wire
unfolding upd
wires_to next f o ds wire same nothing above plain = fun_ext (λ g. fun_ext (λ h. at g h))
  where
    outside : (g : ℕ) → is_number next g ≡ false → ds g ≡ []
    outside zero n = sym (same 0) ∙ nothing
    outside (suc k) n = above (suc k) (let z : eqb (suc k) 0 ≡ false = grind (arith, nat_tests) in let m : ltb (suc k) next ≡ false = rw z at n in grind (arith, nat_tests))

    at : (g h : ℕ) → cond (eqb f h) (wire g f ++ ds g) (wire g h) ≡ cond (eqb f h && is_number next g) (put_all_behind (o g) (wire g h)) (wire g h)
    at g h = ⊎_elim
        (λ (y : eqb f h ≡ true). let e : f ≡ h = grind (arith, nat_tests) in ⊎_elim
        (λ (in_range : is_number next g ≡ true). rw (y, in_range, e, same g) (sym (put_all-no_null (ds g) (wire g h) (plain g))))
        (λ (out : is_number next g ≡ false). rw (y, out, e, outside g out) (append-nil (wire g h)))
        (cases_Bool (is_number next g)))
        (λ (n : eqb f h ≡ false). rw n refl)
        (cases_Bool (eqb f h))

-- the tables afterwards
abbrev pub directory_after_subscribe : FederationValue → ℕ → ℕ → List ℕ → Directory
directory_after_subscribe old f class a = with_subscribed (state_of old).directory f class (Some a)

abbrev pub declarations_after : FederationValue → ℕ → ℕ → List ℕ → DeclarationsValue
declarations_after old f class a = record (declared.declarations_of old.declarations) { subscribed = upd2 (declared.declarations_of old.declarations).subscribed f class (Some a) }

abbrev pub objects_after : FederationValue → ℕ → ℕ → List ℕ → RegistryValue
objects_after old f class a = record (registry_of old.objects) { known = (with_discoveries_made (directory_after_subscribe old f class a) f).known }

abbrev pub members_after : FederationValue → ℕ → (ℕ → List Message) → MemberTables
members_after old f o = record (members_of old.members) { wire = wires_posted_below (To f) o (members_of old.members).next_federate (members_of old.members).wire }

module _ (old : FederationValue) (f class : ℕ) (a : List ℕ) (d : DeclarationLists) (r : List Registered) (m : List MemberValue) (o : ℕ → List Message) where
  pub subscribed_state : DirectoryInv (state_of old).directory → declared.declarations_of d ≡ declarations_after old f class a → registry_of r ≡ objects_after old f class a → members_of m ≡ members_after old f o
      → ((g : ℕ) → o g ≡ map message.Discovery (discoveries_of (directory_after_subscribe old f class a) g f)) → o 0 ≡ [] → with_class_subscribed (state_of old) f (directory_after_subscribe old f class a) ≡ state_of (record old { declarations = d; objects = r; members = m })
  subscribed_state inv d_is r_is m_is out nothing =
      ap (λ (w : ℕ → ℕ → List Message). record (state_of old) { directory = with_discoveries_made (directory_after_subscribe old f class a) f; wire = w })
      (wires_to (members_of old.members).next_federate f o (λ g. map message.Discovery (discoveries_of (directory_after_subscribe old f class a) g f)) (members_of old.members).wire out nothing
      (λ g above. ap (map message.Discovery) (no_owner (directory_after_subscribe old f class a) g f (λ h exists. (inv.owners h exists).0) above))
      (λ g. discoveries_no_null (discoveries_of (directory_after_subscribe old f class a) g f)))
      ∙ sym (λ i. state_from old.catalogue (points_of old.points) (d_is i) (r_is i) (m_is i))

  pub subscribed_whole : IsWhole old → (members_of old.members).joined f ≡ true → declared.declarations_of d ≡ declarations_after old f class a → registry_of r ≡ objects_after old f class a → members_of m ≡ members_after old f o → IsWhole (record old { declarations = d; objects = r; members = m })
  subscribed_whole whole joined d_is r_is m_is = record {
    parts = subst (λ (t : MemberTables). AreWhole old.catalogue (declared.declarations_of d) t) (sym m_is) (subst (λ (t : DeclarationsValue). AreWhole old.catalogue t (members_after old f o)) (sym d_is) (record {
      few = whole.parts.few;
      federates = whole.parts.federates;
      object_classes = whole.parts.object_classes;
      interaction_classes = whole.parts.interaction_classes;
      unmet = whole.parts.unmet;
      silent = λ g k out. record {
        objects = (let other : (f ≢ g) ⊎ (class ≢ k) = inl (λ e. let y : (members_of old.members).joined g ≡ true = subst (λ j. (members_of old.members).joined j ≡ true) e joined in cc) in
            upd2_other (declared.declarations_of old.declarations).subscribed f class (Some a) g k other ∙ (whole.parts.silent g k out).objects);
        interactions = (whole.parts.silent g k out).interactions;
      };
    }));
    named = subst (λ (t : MemberTables). (g : ℕ) → t.joined g ≡ true → old.next_name ≡ default_name (registry_of r).next_object) (sym m_is)
        (subst (λ (t : RegistryValue). (g : ℕ) → (members_of old.members).joined g ≡ true → old.next_name ≡ default_name t.next_object) (sym r_is) whole.named);
  }
