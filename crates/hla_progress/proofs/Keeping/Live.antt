-- What waits first at or below the bound is not retracted
use Rattle.std.proofs.Common.{◌≡◌, ℕ, ◌≤◌, ◌<◌, min, true, false, refl, ⊎_elim, arith, List, [], ◌∷◌, Some}
use Rattle.std.proofs.lemmas.Bool.{cases_Bool, cases_lt}
use Rattle.hla_base.specs.declared.content.Event.{Event}
use Rattle.hla_base.proofs.Tables.{least_le, least_le-forever}
use Rattle.hla_null_message.specs.Wires.{retractions}
use Rattle.hla_component_rules.specs.Queues.{first_stamp}
use Rattle.hla_machine.specs.Central.{BelowAllTso}
use Rattle.hla_components.specs.Components.{Components}
use Rattle.hla_components.specs.Component.{local_bound}
use Rattle.hla_components.specs.CentralOf.{central, bag_of, tso_copy}
use Rattle.hla_components.specs.Invariant.{Inv, is_wire, stamps}
use Rattle.hla_components.proofs.Wiring.Bags.{copy_tso, find_first}
use Rattle.hla_components.proofs.Wiring.Carries.{Carries-retraction}
use Rattle.hla_components.proofs.Wiring.Wires.{retractions-nil}
use Rattle.hla_components.proofs.Upkeep.Bounds.{wire_from}

module _ (s : Components) (f : ℕ) (inv : Inv s) where
  module _ (e : Event) (rest : List Event) (front : s.tso f ≡ e ∷ rest) where
    lies_here : bag_of s e.sender e.serial f ≡ Some (tso_copy e)
    lies_here = copy_tso s inv.kept.copies e.sender e.serial f e (find_first e (s.tso f) rest front)

    -- a wire with a retraction comes from one that joined once
    owed_from : 1 ≤ retractions e.serial (s.wire e.sender f) → e.sender < s.directory.next_federate
    owed_from owed = ⊎_elim
        (λ (y : is_wire s.directory e.sender f ≡ true). wire_from s e.sender f y)
        (λ (n : is_wire s.directory e.sender f ≡ false). let o : 1 ≤ 0 = rw (inv.kept.wired e.sender f n, retractions-nil) at owed in absurd (omega arith))
        (cases_Bool (is_wire s.directory e.sender f))

    -- its retraction would lie on a wire above the bound
    pub head_live : e.stamp ≤ local_bound s f → (s.sent e.sender e.serial).retracted ≡ false
    head_live low = ⊎_elim
        (λ (y : (s.sent e.sender e.serial).retracted ≡ true).
        let owed = inv.laws.followed e.sender e.serial f (tso_copy e) lies_here y in
        let high = Carries-retraction _ (s.last_announced e.sender) (s.known_epoch f e.sender) e.sender (stamps s e.sender) (s.serial e.sender) (s.wire e.sender f) (s.bound f e.sender) e.serial (inv.kept.time.wires e.sender f) owed in
        let same = inv.laws.stamped e.sender e.serial f (tso_copy e) lies_here (inv.laws.marked e.sender e.serial y) refl in
        absurd (omega (arith, low, high, least_le s.directory.next_federate (s.bound f) e.sender (owed_from owed), same)))
        (λ n. n)
        (cases_Bool (s.sent e.sender e.serial).retracted)

    head_above : (x : ℕ) → BelowAllTso (central s) f x → min x (local_bound s f) ≤ e.stamp
    head_above x below = ⊎_elim
        (λ (l : local_bound s f < e.stamp). omega arith)
        (λ (l : e.stamp ≤ local_bound s f). omega (arith, below e.sender e.serial (tso_copy e) lies_here (head_live l) refl))
        (cases_lt (local_bound s f) e.stamp)

  -- what is at most each stamp that waits unretracted, and at most the bound, is at most the first stamp
  pub first_above : (x : ℕ) → BelowAllTso (central s) f x → min x (local_bound s f) ≤ first_stamp (s.tso f)
  first_above x below = by_queue (s.tso f) refl
    where
      by_queue : (es : List Event) → s.tso f ≡ es → min x (local_bound s f) ≤ first_stamp es
      by_queue [] front = omega (arith, least_le-forever s.directory.next_federate (s.bound f))
      by_queue (e ∷ es) front = head_above e es front x below
