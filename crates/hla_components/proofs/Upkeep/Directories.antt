-- Members, objects and subscriptions, after each change of the directory
use Rattle.std.proofs.Common.{◌≡◌, ◌≢◌, ◌⊎◌, ℕ, ◌+◌, ◌≤◌, ◌<◌, cond, eqb, ◌&&◌, Bool, true, false, refl, subst, inl, inr, ⊎_elim, arith, eq-eqb, ne_eqb, is_some, List, [], ◌∷◌, Option, Some, None, option_map}
use Rattle.std.proofs.lemmas.Bool.{cond_both, cases_Bool, and_parts, and_from}
use Rattle.std.specs.List.{find}
use Rattle.hla_base.specs.Tables.{upd, upd2}
use Rattle.hla_catalogue.specs.CatalogueValue.{CatalogueValue}
use Rattle.hla_catalogue.specs.declared.declared.Order.{Order}
use Rattle.hla_catalogue.specs.Lookup.{object_lineage}
use Rattle.hla_synchronization.specs.Points.{Point}
use Rattle.hla_machine.specs.Directory.{Directory, Object, new_directory, served_object, discovery_at, discovery_of, with_discoveries_made, with_object_discovered, with_member, without_member, with_published, with_subscribed, with_published_interaction, with_subscribed_interaction, with_object, without_object, with_attribute_orders, with_interaction_order, with_points}
use Rattle.hla_components.specs.Invariant.{DirectoryInv}
use Rattle.hla_base.proofs.Tables.{upd_each, by_number, upd_same, upd_other, upd2_other, upd2_each}
use Rattle.hla_components.proofs.Upkeep.Objects.{KeepsOwners}

-- a laxer test finds as much
find_more : (p q : ℕ → Bool) (xs : List ℕ) → ((k : ℕ) → p k ≡ true → q k ≡ true) → is_some (find p xs) ≡ true → is_some (find q xs) ≡ true
find_more p q [] h s = absurd (cc)
find_more p q (x ∷ xs) h s = cond_both (q x) (Some x) (find q xs) (λ o. is_some o ≡ true) (λ _. refl)
    (λ n. find_more p q xs h (⊎_elim (λ (y : p x ≡ true). absurd (let z : q x ≡ true = h x y in cc)) (λ (m : p x ≡ false). rw m at s) (cases_Bool (p x))))

pub find_nothing : (p : ℕ → Bool) (xs : List ℕ) → ((k : ℕ) → p k ≡ false) → is_some (find p xs) ≡ false
find_nothing p [] h = refl
find_nothing p (x ∷ xs) h = rw (h x) (find_nothing p xs h)

-- fewer subscriptions serve no more
pub served_more : (d e : Directory) (f class : ℕ) → d.catalogue ≡ e.catalogue → ((k : ℕ) → is_some (d.subscribed f k) ≡ true → is_some (e.subscribed f k) ≡ true)
    → is_some (served_object d f class) ≡ true → is_some (served_object e f class) ≡ true
served_more d e f class same more s = find_more (λ k. is_some (d.subscribed f k)) (λ k. is_some (e.subscribed f k)) (object_lineage e.catalogue class) more
    (subst (λ (c : CatalogueValue). is_some (find (λ k. is_some (d.subscribed f k)) (object_lineage c class)) ≡ true) same s)

pub directory_start : (catalogue : CatalogueValue) → DirectoryInv (new_directory catalogue)
directory_start catalogue = record {
  members = λ f e. absurd (cc);
  owners = λ h e. absurd (cc);
  served = λ f h j e. absurd (cc);
  declared = λ f class new. refl;
}

-- ---- publications and interactions
pub directory_published : (d : Directory) (f class : ℕ) (o : Option (List ℕ)) → DirectoryInv d → DirectoryInv (with_published d f class o)
directory_published d f class o inv = record { members = inv.members; owners = inv.owners; served = inv.served; declared = inv.declared }

pub directory_published_interaction : (d : Directory) (f class : ℕ) (b : Bool) → DirectoryInv d → DirectoryInv (with_published_interaction d f class b)
directory_published_interaction d f class b inv = record { members = inv.members; owners = inv.owners; served = inv.served; declared = inv.declared }

pub directory_ordered : (d : Directory) (f class : ℕ) (order : Order) → DirectoryInv d → DirectoryInv (with_interaction_order d f class order)
directory_ordered d f class order inv = record { members = inv.members; owners = inv.owners; served = inv.served; declared = inv.declared }

pub directory_reordered : (d : Directory) (h : ℕ) (attributes : List ℕ) (order : Order) → DirectoryInv d → DirectoryInv (with_attribute_orders d h attributes order)
directory_reordered d h attributes order inv = record { members = inv.members; owners = inv.owners; served = inv.served; declared = inv.declared }

pub directory_subscribed_interaction : (d : Directory) (f class : ℕ) (b : Bool) → DirectoryInv d → DirectoryInv (with_subscribed_interaction d f class b)
directory_subscribed_interaction d f class b inv = record { members = inv.members; owners = inv.owners; served = inv.served; declared = inv.declared }

-- ---- subscriptions of object classes
-- only a member declares
declared_by : (d : Directory) (f class : ℕ) (o : Option (List ℕ)) → DirectoryInv d → d.joined f ≡ true → (g k : ℕ) → d.next_federate ≤ g → upd2 d.subscribed f class o g k ≡ None
declared_by d f class o inv member = upd2_each d.subscribed f class o (λ g k x. d.next_federate ≤ g → x ≡ None) (λ l. let m = inv.members f member in absurd (omega arith)) inv.declared

pub directory_unsubscribed : (d : Directory) (f class : ℕ) → DirectoryInv d → d.joined f ≡ true → DirectoryInv (with_subscribed d f class None)
directory_unsubscribed d f class inv member = record {
  members = inv.members;
  owners = inv.owners;
  served = λ g h j e other s. inv.served g h j e other (served_more (with_subscribed d f class None) d g (d.object h).class refl
      (λ k. upd2_each d.subscribed f class None (λ g k x. is_some x ≡ true → is_some (d.subscribed g k) ≡ true) (λ i. absurd (cc)) (λ _ _ i. i) g k) s);
  declared = declared_by d f class None inv member;
}

-- a discovery is made where there is one to make
made_discovery : (d : Directory) (f h : ℕ) → (d.object h).exists ≡ true → (d.object h).owner ≢ f → is_some (served_object d f (d.object h).class) ≡ true → d.known h f ≡ false → is_some (discovery_of d f h) ≡ true
made_discovery d f h exists other served unknown = rw (exists, ne_eqb (d.object h).owner f other, unknown) (some (served_object d f (d.object h).class) served)
  where
    some : (o : Option ℕ) → is_some o ≡ true → is_some (option_map (discovery_at d h) o) ≡ true
    some None s = absurd (cc)
    some (Some k) s = refl

pub directory_subscribed : (d : Directory) (f class : ℕ) (o : Option (List ℕ)) → DirectoryInv d → d.joined f ≡ true → DirectoryInv (with_discoveries_made (with_subscribed d f class o) f)
directory_subscribed d f class o inv member = record {
  members = inv.members;
  owners = inv.owners;
  served = by_number f _ here there;
  declared = declared_by d f class o inv member;
}
  where
    here : (h : ℕ) → d.joined f ≡ true → (d.object h).exists ≡ true → (d.object h).owner ≢ f → is_some (served_object (with_subscribed d f class o) f (d.object h).class) ≡ true
        → cond (eqb f f && is_some (discovery_of (with_subscribed d f class o) f h)) true (d.known h f) ≡ true
    here h j x other s = ⊎_elim
        (λ (y : d.known h f ≡ true). cond_both (eqb f f && is_some (discovery_of (with_subscribed d f class o) f h)) true (d.known h f) (λ b. b ≡ true) (λ _. refl) (λ _. y))
        (λ (n : d.known h f ≡ false). rw (and_from _ _ (eq-eqb f f refl) (made_discovery (with_subscribed d f class o) f h x other s n)) refl)
        (cases_Bool (d.known h f))

    there : (g : ℕ) → f ≢ g → (h : ℕ) → d.joined g ≡ true → (d.object h).exists ≡ true → (d.object h).owner ≢ g → is_some (served_object (with_subscribed d f class o) g (d.object h).class) ≡ true
        → cond (eqb f g && is_some (discovery_of (with_subscribed d f class o) f h)) true (d.known h g) ≡ true
    there g ne h j x other s = rw (ne_eqb f g ne) (inv.served g h j x other (served_more (with_subscribed d f class o) d g (d.object h).class refl
        (λ k i. let w : (f ≢ g) ⊎ (class ≢ k) = inl ne in rw upd2_other at i) s))

pub grows_subscribed : (d : Directory) (f class : ℕ) (o : Option (List ℕ)) → KeepsOwners d (with_discoveries_made (with_subscribed d f class o) f)
grows_subscribed d f class o = record {
  same_owner = λ _ _. refl;
  same_known = λ h g k. cond_both (eqb f g && is_some (discovery_of (with_subscribed d f class o) f h)) true (d.known h g) (λ b. b ≡ true) (λ _. refl) (λ _. k);
  more = omega arith;
}

-- ---- objects
pub directory_deleted : (d : Directory) (h : ℕ) → DirectoryInv d → DirectoryInv (without_object d h)
directory_deleted d h inv = record {
  members = inv.members;
  owners = upd_each d.object h (record (d.object h) { exists = false }) (λ k x. x.exists ≡ true → (x.owner < d.next_federate) × (k < d.next_object)) (λ e. absurd (cc)) (λ k _. inv.owners k);
  served = λ f. upd_each d.object h (record (d.object h) { exists = false }) (λ k (x : Object). d.joined f ≡ true → x.exists ≡ true → x.owner ≢ f → is_some (served_object d f x.class) ≡ true → d.known k f ≡ true) (λ _ e. absurd (cc)) (λ k _. inv.served f k);
  declared = inv.declared;
}

pub grows_deleted : (d : Directory) (h : ℕ) → KeepsOwners d (without_object d h)
grows_deleted d h = record {
  same_owner = λ k _. upd_each d.object h (record (d.object h) { exists = false }) (λ k (x : Object). x.owner ≡ (d.object k).owner) refl (λ _ _. refl) k;
  same_known = λ _ _ k. k;
  more = omega arith;
}

pub directory_registered : (d : Directory) (f class : ℕ) (name : List ℕ) → DirectoryInv d → d.joined f ≡ true → DirectoryInv (with_object_discovered (with_object d f class name) d.next_object)
directory_registered d f class name inv member = record {
  members = inv.members;
  owners = upd_each d.object d.next_object _ (λ k (x : Object). x.exists ≡ true → (x.owner < d.next_federate) × (k < d.next_object + 1)) (λ _. (inv.members f member, omega arith)) (λ k _ e. let p = inv.owners k e in (p.0, omega (arith, p.1)));
  served = λ g. by_number d.next_object _ (here g) (there g);
  declared = inv.declared;
}
  where
    told : (g h : ℕ) → ((with_object d f class name).known h g ≡ true) ⊎ ((eqb d.next_object h && d.joined g && is_some (discovery_of (with_object d f class name) g d.next_object)) ≡ true)
        → cond (eqb d.next_object h && d.joined g && is_some (discovery_of (with_object d f class name) g d.next_object)) true ((with_object d f class name).known h g) ≡ true
    told g h (inl k) = cond_both (eqb d.next_object h && d.joined g && is_some (discovery_of (with_object d f class name) g d.next_object)) true ((with_object d f class name).known h g) (λ b. b ≡ true) (λ _. refl) (λ _. k)
    told g h (inr y) = rw y refl

    here : (g : ℕ) → d.joined g ≡ true → ((with_object d f class name).object d.next_object).exists ≡ true → ((with_object d f class name).object d.next_object).owner ≢ g
        → is_some (served_object (with_object d f class name) g ((with_object d f class name).object d.next_object).class) ≡ true
        → cond (eqb d.next_object d.next_object && d.joined g && is_some (discovery_of (with_object d f class name) g d.next_object)) true ((with_object d f class name).known d.next_object g) ≡ true
    here g j x other s = told g d.next_object (⊎_elim
        (λ (y : (with_object d f class name).known d.next_object g ≡ true). inl y)
        (λ (n : (with_object d f class name).known d.next_object g ≡ false). inr (and_from _ _ (and_from _ _ (eq-eqb d.next_object d.next_object refl) j) (made_discovery (with_object d f class name) g d.next_object x other s n)))
        (cases_Bool ((with_object d f class name).known d.next_object g)))

    there : (g h : ℕ) → d.next_object ≢ h → d.joined g ≡ true → ((with_object d f class name).object h).exists ≡ true → ((with_object d f class name).object h).owner ≢ g
        → is_some (served_object (with_object d f class name) g ((with_object d f class name).object h).class) ≡ true
        → cond (eqb d.next_object h && d.joined g && is_some (discovery_of (with_object d f class name) g d.next_object)) true ((with_object d f class name).known h g) ≡ true
    there g h ne = rw upd_other (λ j x other s. told g h (inl (let w : (d.next_object ≢ h) ⊎ (f ≢ g) = inl ne in rw upd2_other (inv.served g h j x other s))))

pub grows_registered : (d : Directory) (f class : ℕ) (name : List ℕ) → KeepsOwners d (with_object_discovered (with_object d f class name) d.next_object)
grows_registered d f class name = record {
  same_owner = λ h l. let ne : d.next_object ≢ h = λ (e : d.next_object ≡ h). omega arith in rw upd_other refl;
  same_known = λ h g k. cond_both (eqb d.next_object h && d.joined g && is_some (discovery_of (with_object d f class name) g d.next_object)) true (upd2 d.known d.next_object f true h g) (λ b. b ≡ true) (λ _. refl)
      (λ _. upd2_each d.known d.next_object f true (λ h g x. d.known h g ≡ true → x ≡ true) (λ _. refl) (λ _ _ k. k) h g k);
  more = omega arith;
}

-- ---- synchronization points
pub directory_pointed : (d : Directory) (points : List Point) → DirectoryInv d → DirectoryInv (with_points d points)
directory_pointed d points inv = record { members = inv.members; owners = inv.owners; served = inv.served; declared = inv.declared }

pub grows_pointed : (d : Directory) (points : List Point) → KeepsOwners d (with_points d points)
grows_pointed d points = record { same_owner = λ _ _. refl; same_known = λ _ _ k. k; more = omega arith }

-- ---- members
pub directory_joined : (d : Directory) (name : List ℕ) → DirectoryInv d → DirectoryInv (with_member d name)
directory_joined d name inv = record {
  members = upd_each d.joined d.next_federate true (λ f x. x ≡ true → f < d.next_federate + 1) (λ _. omega arith) (λ f _ e. let l = inv.members f e in omega arith);
  owners = λ h e. let p = inv.owners h e in (omega (arith, p.0), p.1);
  served = by_number d.next_federate _
      (λ h j e other s. let none : is_some (served_object d d.next_federate (d.object h).class) ≡ false = find_nothing (λ k. is_some (d.subscribed d.next_federate k)) (object_lineage d.catalogue (d.object h).class)
      (λ k. rw (inv.declared d.next_federate k (omega arith)) refl) in absurd (cc))
      (λ f ne h j e other s. inv.served f h (rw upd_other at j) e other s);
  declared = λ f class l. inv.declared f class (omega arith);
}

pub grows_joined : (d : Directory) (name : List ℕ) → KeepsOwners d (with_member d name)
grows_joined d name = record { same_owner = λ _ _. refl; same_known = λ _ _ k. k; more = omega arith }

pub directory_left : (d : Directory) (f : ℕ) → DirectoryInv d → DirectoryInv (without_member d f)
directory_left d f inv = record {
  members = upd_each d.joined f false (λ g x. x ≡ true → g < d.next_federate) (λ e. absurd (cc)) (λ g _. inv.members g);
  owners = λ h e. inv.owners h (and_parts _ _ e).0;
  served = by_number f _
      (λ h j e other s. let no : upd d.joined f false f ≡ false = upd_same d.joined f false in absurd (cc))
      (λ g ne h j e other s. inv.served g h (rw upd_other at j) (and_parts _ _ e).0 other (served_more (without_member d f) d g (d.object h).class refl (λ k i. rw upd_other at i) s));
  declared = λ g class l. upd_each d.subscribed f (λ _. None) (λ g (t : ℕ → Option (List ℕ)). d.next_federate ≤ g → t class ≡ None) (λ _. refl) (λ g _ l. inv.declared g class l) g l;
}

pub grows_left : (d : Directory) (f : ℕ) → KeepsOwners d (without_member d f)
grows_left d f = record { same_owner = λ _ _. refl; same_known = λ _ _ k. k; more = omega arith }
