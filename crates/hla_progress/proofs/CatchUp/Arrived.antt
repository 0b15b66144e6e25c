-- Once no event is on its way to a federate, what waits for it is all that there is, and none of it is retracted
use Rattle.std.proofs.Common.{◌≡◌, ◌≢◌, ℕ, ◌≤◌, true, false, refl, sym, ◌∙◌, le_trans, subst, ⊎_elim, arith, List, [], ◌∷◌, Some}
use Rattle.std.proofs.lemmas.Bool.{cases_eq, cases_Bool}
use Rattle.hla_base.specs.declared.content.Event.{Event}
use Rattle.hla_base.specs.Tables.{forever}
use Rattle.hla_null_message.specs.declared.message.Message.{Message}
use Rattle.hla_null_message.specs.declared.message.Message.TheVariants as message
use Rattle.hla_null_message.specs.Wires.{events, retractions}
use Rattle.hla_component_rules.specs.Queues.{find_event, first_stamp}
use Rattle.hla_machine.specs.Central.{BelowAllTso}
use Rattle.hla_components.specs.Components.{Components}
use Rattle.hla_components.specs.CentralOf.{central, bag_of, wire_copy, tso_copy, ro_copy}
use Rattle.hla_components.specs.Invariant.{Inv, stamps}
use Rattle.hla_components.specs.Headline.{IsLedTo}
use Rattle.hla_components.proofs.Wiring.Bags.{copy_tso, find_first}
use Rattle.hla_components.proofs.Wiring.Carries.{Carries-find, Carries-retraction}
use Rattle.hla_components.proofs.Wiring.Queues.{find-first_stamp}
use Rattle.hla_components.proofs.Wiring.Wires.{retractions-nil, retractions-null}
use Rattle.hla_components.proofs.Upkeep.Bounds.{copy_cases, tso_of_copy, not_ro_copy}
use Rattle.hla_components.proofs.Refinement.LedTo.{led_inv}
use Rattle.hla_progress.proofs.Keeping.Own.{own_led}
use Rattle.hla_progress.proofs.CatchUp.Nulls.{AreNulls, NullsAlone, none_found}

no_retractions : (m : ℕ) (ms : List Message) → AreNulls ms → retractions m ms ≡ 0
no_retractions m [] n = retractions-nil m
no_retractions m (message.Event e ∷ ms) n = absurd n
no_retractions m (message.Null k v ∷ ms) n = retractions-null k v m ms ∙ no_retractions m ms n
no_retractions m (message.Retraction j ∷ ms) n = absurd n
no_retractions m (message.Discovery d ∷ ms) n = absurd n

module _ (s : Components) (f : ℕ) (is : IsLedTo s) (nulls : NullsAlone s f) where
  inv : Inv s
  inv = led_inv s is

  -- the bound of nobody is FOREVER
  nobody_top : (g : ℕ) → g ≡ 0 → s.bound f g ≡ forever
  nobody_top g z = subst (λ g. s.bound f g ≡ forever) (sym z) ((own_led s is).nobody f)

  from_nobody : (g m x : ℕ) → x ≤ forever → g ≡ 0 → (e : Event) → find_event g m (events (s.wire g f)) ≡ Some e → e.ordered ≡ true → x ≤ e.stamp
  from_nobody g m x cap z e there o =
      let high = Carries-find _ (s.last_announced g) (s.known_epoch f g) g (stamps s g) (s.serial g) (s.wire g f) (s.bound f g) m e (inv.kept.time.wires g f) there o in
      omega (arith, cap, nobody_top g z)

  -- what is at most the first stamp is at most each
  pub all_waits : (x : ℕ) → x ≤ forever → x ≤ first_stamp (s.tso f) → BelowAllTso (central s) f x
  all_waits x cap low g m c found live tso = ⊎_elim
      (λ (v : (e : Event) × (find_event g m (events (s.wire g f)) ≡ Some e) × (wire_copy e ≡ c)). ⊎_elim
      (λ (z : g ≡ 0). rw (← v.2) (from_nobody g m x cap z v.0 v.1 (tso_of_copy v.0 (rw (← v.2) at tso))))
      (λ (z : g ≢ 0). absurd (none_found g m v.0 (s.wire g f) (nulls g z) v.1))
      (cases_eq g 0))
      (⊎_elim
      (λ (v : (e : Event) × (find_event g m (s.tso f) ≡ Some e) × (tso_copy e ≡ c)). rw (← v.2) (le_trans low (find-first_stamp g m v.0 (s.tso f) (inv.kept.time.queues f) v.1)))
      (λ (v : (e : Event) × (find_event g m (s.ro f) ≡ Some e) × (ro_copy e ≡ c)). absurd (not_ro_copy v.0 (rw (← v.2) at tso))))
      (copy_cases g m (s.wire g f) (s.tso f) (s.ro f) c found)

  -- and what is at most each is at most the first stamp
  head_counts : (x : ℕ) → x ≤ forever → BelowAllTso (central s) f x → (e : Event) (rest : List Event) → s.tso f ≡ e ∷ rest → x ≤ e.stamp
  head_counts x cap below e rest front = ⊎_elim
      (λ (y : (s.sent e.sender e.serial).retracted ≡ true).
      let owed = inv.laws.followed e.sender e.serial f (tso_copy e) here y in
      let same = inv.laws.stamped e.sender e.serial f (tso_copy e) here (inv.laws.marked e.sender e.serial y) refl in
      ⊎_elim
      (λ (z : e.sender ≡ 0). let high = Carries-retraction _ (s.last_announced e.sender) (s.known_epoch f e.sender) e.sender (stamps s e.sender) (s.serial e.sender) (s.wire e.sender f) (s.bound f e.sender) e.serial (inv.kept.time.wires e.sender f) owed in
      omega (arith, cap, high, same, nobody_top e.sender z))
      (λ (z : e.sender ≢ 0). absurd (omega (arith, owed, no_retractions e.serial (s.wire e.sender f) (nulls e.sender z))))
      (cases_eq e.sender 0))
      (λ (n : (s.sent e.sender e.serial).retracted ≡ false). below e.sender e.serial (tso_copy e) here n refl)
      (cases_Bool (s.sent e.sender e.serial).retracted)
    where
      here : bag_of s e.sender e.serial f ≡ Some (tso_copy e)
      here = copy_tso s inv.kept.copies e.sender e.serial f e (find_first e (s.tso f) rest front)

  pub first_counts : (x : ℕ) → x ≤ forever → BelowAllTso (central s) f x → x ≤ first_stamp (s.tso f)
  first_counts x cap below = by_queue (s.tso f) refl
    where
      by_queue : (es : List Event) → s.tso f ≡ es → x ≤ first_stamp es
      by_queue [] front = cap
      by_queue (e ∷ es) front = head_counts x cap below e es front
