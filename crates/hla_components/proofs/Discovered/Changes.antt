-- What was discovered and what waits to be, after each kind of change
use Rattle.std.proofs.Common.{◌≡◌, ◌≢◌, ◌⊎◌, ⊎_elim, ℕ, ◌+◌, ◌≤◌, ◌<◌, eqb, ◌&&◌, Bool, true, false, refl, sym, subst, ap, ◌∙◌, inl, inr, arith, eq-eqb, eqb-true, ne_eqb, is_some, List, [], ◌∷◌, ◌++◌, Option, Some, None, drop}
use Rattle.std.proofs.lemmas.Bool.{cond_both, and_parts, and_from, not_from_false}
use Rattle.hla_base.specs.Tables.{upd, upd2, upd_row, is_other, when}
use Rattle.hla_base.specs.declared.content.Discovery.{Discovery}
use Rattle.hla_base.proofs.Tables.{by_number, by_pair, upd_same, upd_other, upd_each, upd2_same, upd2_other, upd2_each, upd_row_each, upd_row_here}
use Rattle.hla_machine.specs.Directory.{Directory, Object, Outgoing, discovery_of, discoveries_of, with_subscribed, with_object, without_object}
use Rattle.hla_machine.specs.Central.{Central}
use Rattle.hla_machine.specs.Callbacks.{IsNextDiscovery}
use Rattle.hla_machine.specs.Sends.{after_message, after_messages}
use Rattle.hla_machine.specs.Machine.{after_leaving, after_subscribe, after_register, after_join}
use Rattle.hla_components.specs.Invariant.{EachOf, IsKnownOf}
use Rattle.hla_components.proofs.Basics.Each.{EachOf-append, EachOf-weaker}
use Rattle.hla_components.proofs.Upkeep.Directories.{grows_subscribed, grows_registered}
use Rattle.hla_components.proofs.Services.Discoveries.{discovery_tells, each_discovery, when_some}
use Rattle.hla_components.proofs.Services.Registrations.{still_known}
use Rattle.hla_components.proofs.Discovered.Lists.{Among, NotAmong, IsEachOnce, among_front, among_back, each_drop, apart_drop, apart_append, made_apart, made_among}
use Rattle.hla_components.proofs.Discovered.Told.{Informed}

-- P says which discoveries were given: each that was to be made was given or waits, and never both, nor twice
pub record Discovering (P : ℕ → ℕ → Type 0) (c : Central) : Type 0 where
  pub heard : (f o : ℕ) → c.directory.joined f ≡ true → c.directory.known o f ≡ true → (c.directory.object o).owner ≢ f → ((g : ℕ) × Among o (c.discoveries g f)) ⊎ P f o
  pub fresh : (f o : ℕ) → P f o → c.directory.known o f ≡ true
  pub gone : (f o g : ℕ) → P f o → NotAmong o (c.discoveries g f)
  pub apart : (g f : ℕ) → IsEachOnce (c.discoveries g f)
  -- who has not joined knows nothing, and nobody knows what is not registered
  pub unknown : (f o : ℕ) → (c.directory.next_federate ≤ f) ⊎ (c.directory.next_object ≤ o) → c.directory.known o f ≡ false

pub in_other_words : (P Q : ℕ → ℕ → Type 0) (c : Central) → ((f o : ℕ) → P f o → Q f o) → ((f o : ℕ) → Q f o → P f o) → Discovering P c → Discovering Q c
in_other_words P Q c to back k = record {
  heard = λ f o j known other. ⊎_elim (λ (w : (g : ℕ) × Among o (c.discoveries g f)). inl w) (λ (p : P f o). inr (to f o p)) (k.heard f o j known other);
  fresh = λ f o q. k.fresh f o (back f o q);
  gone = λ f o g q. k.gone f o g (back f o q);
  apart = k.apart;
  unknown = k.unknown;
}

-- ---- what changes no discovery
pub record IsQuiet (c d : Central) : Type 0 where
  pub next : d.directory.next_federate ≡ c.directory.next_federate
  pub objects : d.directory.next_object ≡ c.directory.next_object
  pub joined : (f : ℕ) → d.directory.joined f ≡ true → c.directory.joined f ≡ true
  pub known : d.directory.known ≡ c.directory.known
  pub owner : (o : ℕ) → (d.directory.object o).owner ≡ (c.directory.object o).owner
  pub discoveries : (g f : ℕ) → (d.discoveries g f ≡ c.discoveries g f) ⊎ ((d.discoveries g f ≡ []) × (d.directory.joined f ≡ false))

pub quiet_same : (c : Central) → IsQuiet c c
quiet_same c = record { next = refl; objects = refl; joined = λ f j. j; known = refl; owner = λ o. refl; discoveries = λ g f. inl refl }

pub quiet_sent : (c : Central) (f : ℕ) (stamp : Option ℕ) (outs : List Outgoing) → IsQuiet c (after_messages c f stamp outs)
quiet_sent c f stamp [] = quiet_same c
quiet_sent c f stamp (out ∷ outs) =
    let rest = quiet_sent (after_message c f stamp out) f stamp outs in
    record { next = rest.next; objects = rest.objects; joined = rest.joined; known = rest.known; owner = rest.owner; discoveries = rest.discoveries }

pub quiet_left : (c d : Central) (f : ℕ) → IsQuiet c d → IsQuiet c (after_leaving d f)
quiet_left c d f q = record {
  next = q.next;
  objects = q.objects;
  joined = upd_each d.directory.joined f false (λ g b. b ≡ true → c.directory.joined g ≡ true) (λ e. absurd (cc)) (λ g _ j. q.joined g j);
  known = q.known;
  owner = q.owner;
  discoveries = λ g. by_number f _
      (inr (upd_same (d.discoveries g) f [], upd_same d.directory.joined f false))
      (λ l ne. ⊎_elim
      (λ (same : d.discoveries g l ≡ c.discoveries g l). inl (upd_other (d.discoveries g) f [] l ne ∙ same))
      (λ (out : (d.discoveries g l ≡ []) × (d.directory.joined l ≡ false)). inr (upd_other (d.discoveries g) f [] l ne ∙ out.0, upd_other d.directory.joined f false l ne ∙ out.1))
      (q.discoveries g l));
}

pub quiet_deleted : (c d : Central) (h : ℕ) → IsQuiet c d → IsQuiet c (record d { directory = without_object d.directory h })
quiet_deleted c d h q = record {
  next = q.next;
  objects = q.objects;
  joined = q.joined;
  known = q.known;
  owner = λ o. upd_each d.directory.object h (record (d.directory.object h) { exists = false }) (λ i (x : Object). x.owner ≡ (d.directory.object i).owner) refl (λ i ne. refl) o ∙ q.owner o;
  discoveries = q.discoveries;
}

module _ (P : ℕ → ℕ → Type 0) (c : Central) (k : Discovering P c) where
  pub quiet_discovers : (d : Central) → IsQuiet c d → Discovering P d
  quiet_discovers d q = record {
    heard = λ f o j known other. ⊎_elim
        (λ (w : (g : ℕ) × Among o (c.discoveries g f)). inl (w.0, still w.0 f o j w.1))
        (λ (p : P f o). inr p)
        (k.heard f o (q.joined f j) (ap (λ (t : ℕ → ℕ → Bool). t o f) (sym q.known) ∙ known) (λ e. other (q.owner o ∙ e)));
    fresh = λ f o p. ap (λ (t : ℕ → ℕ → Bool). t o f) q.known ∙ k.fresh f o p;
    gone = λ f o g p. fewer (NotAmong o) g f (k.gone f o g p) tt;
    apart = λ g f. fewer IsEachOnce g f (k.apart g f) tt;
    unknown = λ f o high. ap (λ (t : ℕ → ℕ → Bool). t o f) q.known ∙ k.unknown f o (⊎_elim
        (λ (l : d.directory.next_federate ≤ f). inl (omega (arith, l, q.next)))
        (λ (l : d.directory.next_object ≤ o). inr (omega (arith, l, q.objects)))
        high);
  }
    where
      still : (g f o : ℕ) → d.directory.joined f ≡ true → Among o (c.discoveries g f) → Among o (d.discoveries g f)
      still g f o j a = ⊎_elim
          (λ (same : d.discoveries g f ≡ c.discoveries g f). subst (Among o) (sym same) a)
          (λ (out : (d.discoveries g f ≡ []) × (d.directory.joined f ≡ false)). absurd (let both : true ≡ false = sym j ∙ out.1 in cc))
          (q.discoveries g f)

      fewer : (R : List Discovery → Type 0) (g f : ℕ) → R (c.discoveries g f) → R [] → R (d.discoveries g f)
      fewer R g f r nil = ⊎_elim
          (λ (same : d.discoveries g f ≡ c.discoveries g f). subst R (sym same) r)
          (λ (out : (d.discoveries g f ≡ []) × (d.directory.joined f ≡ false)). subst R (sym out.0) nil)
          (q.discoveries g f)

  -- ---- a federate joins
  pub join_discovers : (name : List ℕ) → Discovering P (after_join c name)
  join_discovers name = let n = c.directory.next_federate in record {
    heard = by_number n _
        (λ o j known other. absurd (let none = k.unknown n o (inl (omega arith)) in let both : true ≡ false = sym known ∙ none in cc))
        (λ f ne o j known other. k.heard f o (sym (upd_other c.directory.joined n true f ne) ∙ j) known other);
    fresh = k.fresh;
    gone = k.gone;
    apart = k.apart;
    unknown = λ f o high. k.unknown f o (⊎_elim (λ (l : n + 1 ≤ f). inl (omega (arith, l))) (λ (l : c.directory.next_object ≤ o). inr l) high);
  }

  -- ---- a discovery is given
  pub discover_discovers : (Q : ℕ → ℕ → Type 0) (f object g : ℕ) (d : Discovery) → Informed c → (c.directory.object object).owner ≡ g → d.object ≡ object → IsNextDiscovery (c.discoveries g f) d
      → ((l o : ℕ) → P l o → Q l o) → Q f object → ((l o : ℕ) → Q l o → P l o ⊎ ((l ≡ f) × (o ≡ object)))
      → Discovering Q (record c { discoveries = upd2 c.discoveries g f (drop 1 (c.discoveries g f)) })
  discover_discovers Q f object g d told owner is first to now back = record {
    heard = λ l o j known other. ⊎_elim
        (λ (w : (h : ℕ) × Among o (c.discoveries h l)). waits o w.0 l w.1)
        (λ (p : P l o). inr (to l o p))
        (k.heard l o j known other);
    fresh = λ l o q. ⊎_elim
        (λ (p : P l o). k.fresh l o p)
        (λ (s : (l ≡ f) × (o ≡ object)). subst (λ (l : ℕ). c.directory.known o l ≡ true) (sym s.0) (subst (λ (o : ℕ). c.directory.known o f ≡ true) (sym s.1) known_now))
        (back l o q);
    gone = λ l o h q. ⊎_elim
        (λ (p : P l o). upd2_each c.discoveries g f (drop 1 (c.discoveries g f)) (λ h l ds. P l o → NotAmong o ds) (λ p. each_drop _ (c.discoveries g f) (k.gone f o g p)) (λ h l p. k.gone l o h p) h l p)
        (λ (s : (l ≡ f) × (o ≡ object)). subst (λ (l : ℕ). NotAmong o (upd2 c.discoveries g f (drop 1 (c.discoveries g f)) h l)) (sym s.0)
        (subst (λ (o : ℕ). NotAmong o (upd2 c.discoveries g f (drop 1 (c.discoveries g f)) h f)) (sym s.1) (no_more h)))
        (back l o q);
    apart = upd2_each c.discoveries g f (drop 1 (c.discoveries g f)) (λ h l ds. IsEachOnce ds) (apart_drop (c.discoveries g f) (k.apart g f)) k.apart;
    unknown = k.unknown;
  }
    where
      rest_waits : (o : ℕ) (ds : List Discovery) → IsNextDiscovery ds d → Among o ds → (o ≡ object) ⊎ Among o (drop 1 ds)
      rest_waits o [] next a = absurd a
      rest_waits o (x ∷ xs) next (inl e) = inl (sym e ∙ ap (λ (d : Discovery). d.object) next ∙ is)
      rest_waits o (x ∷ xs) next (inr a) = inr a

      waits : (o h l : ℕ) → Among o (c.discoveries h l) → ((h : ℕ) × Among o (upd2 c.discoveries g f (drop 1 (c.discoveries g f)) h l)) ⊎ Q l o
      waits o = by_pair g f _
          (λ a. ⊎_elim
          (λ (e : o ≡ object). inr (subst (λ (o : ℕ). Q f o) (sym e) now))
          (λ (a : Among o (drop 1 (c.discoveries g f))). inl (g, subst (Among o) (sym (upd2_same c.discoveries g f (drop 1 (c.discoveries g f)))) a))
          (rest_waits o (c.discoveries g f) first a))
          (λ h l apart a. inl (h, subst (Among o) (sym (upd2_other c.discoveries g f (drop 1 (c.discoveries g f)) h l apart)) a))

      front_known : (ds : List Discovery) → IsNextDiscovery ds d → EachOf (λ (x : Discovery). IsKnownOf c.directory g f x.object) ds → c.directory.known object f ≡ true
      front_known [] next e = absurd next
      front_known (x ∷ xs) next e = subst (λ (o : ℕ). c.directory.known o f ≡ true) (ap (λ (d : Discovery). d.object) next ∙ is) e.0.known

      known_now : c.directory.known object f ≡ true
      known_now = front_known (c.discoveries g f) first (told.waits g f)

      rest_apart : (ds : List Discovery) → IsNextDiscovery ds d → IsEachOnce ds → NotAmong object (drop 1 ds)
      rest_apart [] next a = tt
      rest_apart (x ∷ xs) next a = subst (λ (o : ℕ). NotAmong o xs) (ap (λ (d : Discovery). d.object) next ∙ is) a.0

      -- it waited on the wire from its owner alone
      no_more : (h : ℕ) → NotAmong object (upd2 c.discoveries g f (drop 1 (c.discoveries g f)) h f)
      no_more = by_number g _
          (subst (NotAmong object) (sym (upd2_same c.discoveries g f (drop 1 (c.discoveries g f)))) (rest_apart (c.discoveries g f) first (k.apart g f)))
          (λ h ne. subst (NotAmong object) (sym (upd2_other c.discoveries g f (drop 1 (c.discoveries g f)) h f (inl ne)))
          (EachOf-weaker _ _ (c.discoveries h f) (λ (x : Discovery) (w : IsKnownOf c.directory h f x.object) (e : x.object ≡ object). ne (sym owner ∙ subst (λ (o : ℕ). (c.directory.object o).owner ≡ h) e w.owner)) (told.waits h f)))

-- ---- those that are made
is_there : {X : Type 0} (o : Option X) → is_some o ≡ true → (x : X) × (o ≡ Some x)
is_there None e = absurd (cc)
is_there (Some x) e = (x, refl)

module _ (d : Directory) (g f : ℕ) where
  made_names : (n : ℕ) (x : Discovery) → when (eqb (d.object n).owner g) (discovery_of d f n) ≡ Some x → x.object ≡ n
  made_names n x is = (discovery_tells d f n x (when_some (eqb (d.object n).owner g) (discovery_of d f n) x is).1).0

  all_apart : IsEachOnce (discoveries_of d g f)
  all_apart = made_apart (λ h. when (eqb (d.object h).owner g) (discovery_of d f h)) made_names d.next_object

  made_now : (h : ℕ) → (d.object h).owner ≡ g → h < d.next_object → is_some (discovery_of d f h) ≡ true → Among h (discoveries_of d g f)
  made_now h owner low some =
      let w = is_there (discovery_of d f h) some in
      made_among (λ h. when (eqb (d.object h).owner g) (discovery_of d f h)) made_names d.next_object h w.0 low
      (ap (λ (b : Bool). when b (discovery_of d f h)) (eq-eqb (d.object h).owner g owner) ∙ w.1)

known_waits : (c : Central) → Informed c → (g f : ℕ) → EachOf (λ (x : Discovery). c.directory.known x.object f ≡ true) (c.discoveries g f)
known_waits c told g f = EachOf-weaker _ _ (c.discoveries g f) (λ (x : Discovery) (w : IsKnownOf c.directory g f x.object). w.known) (told.waits g f)

never_both : (b : Bool) → b ≡ true → b ≡ false → ⊥
never_both b y n = let both : true ≡ false = sym y ∙ n in cc

module _ (P : ℕ → ℕ → Type 0) (c : Central) (k : Discovering P c) (told : Informed c) (f : ℕ) (member : c.directory.joined f ≡ true) where
  -- what was given is not among those that are made
  not_made : (d : Directory) (g l o : ℕ) → ((h : ℕ) → d.known h l ≡ false → c.directory.known h l ≡ false) → P l o → NotAmong o (discoveries_of d g l)
  not_made d g l o new p = each_discovery d g l (λ (x : Discovery). x.object ≢ o) (λ h x owner is same.
      let t = discovery_tells d l h x is in
      never_both (c.directory.known o l) (k.fresh l o p) (subst (λ (i : ℕ). c.directory.known i l ≡ false) (sym t.0 ∙ same) (new h t.3)))

  more_apart : (d : Directory) (g l : ℕ) → ((h : ℕ) → d.known h l ≡ false → c.directory.known h l ≡ false) → IsEachOnce (c.discoveries g l ++ discoveries_of d g l)
  more_apart d g l new = apart_append (λ o. c.directory.known o l ≡ true) (λ o. c.directory.known o l ≡ false) (c.discoveries g l) (discoveries_of d g l) (λ o y n. never_both (c.directory.known o l) y n)
      (known_waits c told g l)
      (each_discovery d g l (λ (x : Discovery). c.directory.known x.object l ≡ false) (λ h x owner is. let t = discovery_tells d l h x is in subst (λ (i : ℕ). c.directory.known i l ≡ false) (sym t.0) (new h t.3)))
      (k.apart g l) (all_apart d g l)

  -- o was discovered by l, or is to be
  abbrev IsHeard : (ℕ → ℕ → List Discovery) → ℕ → ℕ → Type 0
  IsHeard waits l o = ((g : ℕ) × Among o (waits g l)) ⊎ P l o

  -- ---- f subscribes
  module _ (class : ℕ) (attributes : Option (List ℕ)) where
    abbrev subscribed : Directory
    subscribed = with_subscribed c.directory f class attributes

    abbrev subscribed_waits : ℕ → ℕ → List Discovery
    subscribed_waits g = upd (c.discoveries g) f (c.discoveries g f ++ discoveries_of subscribed g f)

    subscribed_grows : (g l o : ℕ) → Among o (c.discoveries g l) → Among o (subscribed_waits g l)
    subscribed_grows g l o a = upd_each (c.discoveries g) f (c.discoveries g f ++ discoveries_of subscribed g f) (λ l ds. Among o (c.discoveries g l) → Among o ds)
        (λ a. among_front o (c.discoveries g f) (discoveries_of subscribed g f) a) (λ l _ a. a) l a

    old_heard : (l o : ℕ) → c.directory.joined l ≡ true → c.directory.known o l ≡ true → (c.directory.object o).owner ≢ l → IsHeard subscribed_waits l o
    old_heard l o j known other = ⊎_elim
        (λ (w : (g : ℕ) × Among o (c.discoveries g l)). inl (w.0, subscribed_grows w.0 l o w.1))
        (λ (p : P l o). inr p)
        (k.heard l o j known other)

    exists_low : (o : ℕ) → is_some (discovery_of subscribed f o) ≡ true → o < c.directory.next_object
    exists_low o some = let w = is_there (discovery_of subscribed f o) some in (told.directory.owners o (discovery_tells subscribed f o w.0 w.1).1).1

    new_heard : (o : ℕ) → is_some (discovery_of subscribed f o) ≡ true → IsHeard subscribed_waits f o
    new_heard o some =
        let g = (c.directory.object o).owner in
        inl (
          g,
          subst (Among o) (sym (upd_same (c.discoveries g) f (c.discoveries g f ++ discoveries_of subscribed g f)))
              (among_back o (c.discoveries g f) (discoveries_of subscribed g f) (made_now subscribed g f o refl (exists_low o some) some)),
        )

    pub subscribe_discovers : Discovering P (after_subscribe c f class attributes)
    subscribe_discovers = record {
      heard = by_number f _
          (λ o j known other. cond_both (eqb f f && is_some (discovery_of subscribed f o)) true (c.directory.known o f) (λ v. v ≡ true → IsHeard subscribed_waits f o)
          (λ y _. new_heard o (and_parts _ _ y).1) (λ _ known. old_heard f o j known other) known)
          (λ l ne o j known other. cond_both (eqb f l && is_some (discovery_of subscribed f o)) true (c.directory.known o l) (λ v. v ≡ true → IsHeard subscribed_waits l o)
          (λ y _. absurd (ne (eqb-true f l (and_parts _ _ y).0))) (λ _ known. old_heard l o j known other) known);
      fresh = λ l o p. (grows_subscribed c.directory f class attributes).same_known o l (k.fresh l o p);
      gone = λ l o g p. upd_each (c.discoveries g) f (c.discoveries g f ++ discoveries_of subscribed g f) (λ l ds. P l o → NotAmong o ds)
          (λ p. EachOf-append _ (c.discoveries g f) (discoveries_of subscribed g f) (k.gone f o g p) (not_made subscribed g f o (λ h n. n) p)) (λ l _ p. k.gone l o g p) l p;
      apart = λ g. upd_each (c.discoveries g) f (c.discoveries g f ++ discoveries_of subscribed g f) (λ l ds. IsEachOnce ds) (more_apart subscribed g f (λ h n. n)) (λ l _. k.apart g l);
      unknown = λ l o high. cond_both (eqb f l && is_some (discovery_of subscribed f o)) true (c.directory.known o l) (λ v. v ≡ false)
          (λ y. absurd (let p = and_parts _ _ y in too_high l o (eqb-true f l p.0) (exists_low o p.1) high)) (λ _. k.unknown l o high);
    }
      where
        too_high : (l o : ℕ) → f ≡ l → o < c.directory.next_object → (c.directory.next_federate ≤ l) ⊎ (c.directory.next_object ≤ o) → ⊥
        too_high l o same low (inl h) = absurd (omega (arith, same, told.directory.members f member, h))
        too_high l o same low (inr h) = absurd (omega (arith, low, h))

  -- ---- f registers an object
  module _ (class : ℕ) (name : List ℕ) where
    abbrev registered : Directory
    registered = with_object c.directory f class name

    abbrev next : ℕ
    next = c.directory.next_object

    abbrev registered_waits : ℕ → ℕ → List Discovery
    registered_waits = upd_row c.discoveries c.directory.joined f (λ g ds. ds ++ discoveries_of registered f g)

    own : (registered.object next).owner ≡ f
    own = ap (λ (x : Object). x.owner) (upd_same c.directory.object next _)

    registered_grows : (g l o : ℕ) → Among o (c.discoveries g l) → Among o (registered_waits g l)
    registered_grows g l o a = upd_row_each c.discoveries c.directory.joined f (λ g ds. ds ++ discoveries_of registered f g) (λ g l ds. Among o (c.discoveries g l) → Among o ds)
        (λ l _ a. among_front o (c.discoveries f l) (discoveries_of registered f l) a) (λ g l a. a) g l a

    made_heard : (l : ℕ) → c.directory.joined l ≡ true → is_some (discovery_of registered l next) ≡ true → IsHeard registered_waits l next
    made_heard l j some =
        let w = is_there (discovery_of registered l next) some in
        let t = discovery_tells registered l next w.0 w.1 in
        let ne : f ≢ l = λ e. t.2 (own ∙ e) in
        let other : is_other c.directory.joined f l ≡ true = and_from _ _ (not_from_false _ (ne_eqb f l ne)) j in
        inl (
          f,
          subst (Among next) (sym (upd_row_here c.discoveries c.directory.joined f (λ g ds. ds ++ discoveries_of registered f g) l other))
              (among_back next (c.discoveries f l) (discoveries_of registered f l) (made_now registered f l next own (omega arith) some)),
        )

    still_heard : (l o : ℕ) → c.directory.joined l ≡ true → c.directory.known o l ≡ true → (registered.object o).owner ≢ l → IsHeard registered_waits l o
    still_heard l o j known other =
        let ne : next ≢ o = λ e. never_both (c.directory.known o l) known (k.unknown l o (inr (omega (arith, e)))) in
        ⊎_elim
        (λ (w : (g : ℕ) × Among o (c.discoveries g l)). inl (w.0, registered_grows w.0 l o w.1))
        (λ (p : P l o). inr p)
        (k.heard l o j known (λ e. other (ap (λ (x : Object). x.owner) (upd_other c.directory.object next _ o ne) ∙ e)))

    pub register_discovers : Discovering P (after_register c f class name)
    register_discovers = record {
      heard = λ l o j known other. cond_both (eqb next o && c.directory.joined l && is_some (discovery_of registered l next)) true (registered.known o l) (λ v. v ≡ true → IsHeard registered_waits l o)
          (λ y _. let p = and_parts _ _ y in let q = and_parts _ _ p.0 in subst (IsHeard registered_waits l) (eqb-true next o q.0) (made_heard l q.1 p.1))
          (λ _ known. upd2_each c.directory.known next f true (λ o l v. v ≡ true → c.directory.joined l ≡ true → (registered.object o).owner ≢ l → IsHeard registered_waits l o)
          (λ _ _ other. absurd (other own)) (λ o l known j other. still_heard l o j known other) o l known j other)
          known;
      fresh = λ l o p. (grows_registered c.directory f class name).same_known o l (k.fresh l o p);
      gone = λ l o g p. upd_row_each c.discoveries c.directory.joined f (λ g ds. ds ++ discoveries_of registered f g) (λ g l ds. P l o → NotAmong o ds)
          (λ l _ p. EachOf-append _ (c.discoveries f l) (discoveries_of registered f l) (k.gone l o f p) (not_made registered f l o (λ h n. still_known c.directory f class name h l n) p))
          (λ g l p. k.gone l o g p) g l p;
      apart = upd_row_each c.discoveries c.directory.joined f (λ g ds. ds ++ discoveries_of registered f g) (λ g l ds. IsEachOnce ds)
          (λ l _. more_apart registered f l (λ h n. still_known c.directory f class name h l n)) k.apart;
      unknown = λ l o high. cond_both (eqb next o && c.directory.joined l && is_some (discovery_of registered l next)) true (registered.known o l) (λ v. v ≡ false)
          (λ y. absurd (let p = and_parts _ _ y in let q = and_parts _ _ p.0 in too_high l o (eqb-true next o q.0) (told.directory.members l q.1) high))
          (λ _. upd2_each c.directory.known next f true (λ o l v. (c.directory.next_federate ≤ l) ⊎ (next + 1 ≤ o) → v ≡ false)
          (λ high. absurd (too_high f next refl (told.directory.members f member) high))
          (λ o l high. k.unknown l o (⊎_elim (λ (h : c.directory.next_federate ≤ l). inl h) (λ (h : next + 1 ≤ o). inr (omega (arith, h))) high)) o l high);
    }
      where
        too_high : (l o : ℕ) → next ≡ o → l < c.directory.next_federate → (c.directory.next_federate ≤ l) ⊎ (next + 1 ≤ o) → ⊥
        too_high l o same low (inl h) = absurd (omega (arith, low, h))
        too_high l o same low (inr h) = absurd (omega (arith, same, h))
