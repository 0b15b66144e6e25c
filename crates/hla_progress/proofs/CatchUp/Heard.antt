-- After the announcements and the carries of a round everyone knows what the others promised
use Rattle.std.proofs.Common.{◌≡◌, ◌≢◌, ℕ, ◌+◌, ◌≤◌, ◌<◌, true, false, sym, ◌∙◌, ap, subst, ⊎_elim, arith, le_trans, [], length}
use Rattle.std.proofs.lemmas.Bool.{cases_eq, cases_Bool, and_parts, ltb-true}
use Rattle.std.proofs.lemmas.Bool.Decides.{nat_tests}
use Rattle.hla_base.specs.Rows.{is_regulator}
use Rattle.hla_base.specs.Tables.{forever, is_other}
use Rattle.hla_base.proofs.Tables.{le_least}
use Rattle.hla_components.specs.Components.{Components}
use Rattle.hla_components.specs.Component.{local_bound, promise}
use Rattle.hla_components.specs.Invariant.{is_wire}
use Rattle.hla_components.specs.Headline.{IsLedTo, state_after}
use Rattle.hla_components.proofs.Upkeep.Bounds.{other_from}
use Rattle.hla_components.proofs.Refinement.LedTo.{led_inv, led_after}
use Rattle.hla_progress.specs.Promises.{bound_after}
use Rattle.hla_progress.specs.Rounds.{announcements, carries_to}
use Rattle.hla_progress.proofs.Keeping.Members.{other_than}
use Rattle.hla_progress.proofs.Keeping.Steps.{led_keeps}
use Rattle.hla_progress.proofs.Keeping.Numbers.{joined_from_one}
use Rattle.hla_progress.proofs.Keeping.Own.{own_led}
use Rattle.hla_progress.proofs.CatchUp.Announced.{HaveAnnounced, after_announcements}
use Rattle.hla_progress.proofs.CatchUp.Carried.{IsOpen, IsCarriedOn, all_on, carried_away, to_often, to_are}
use Rattle.hla_progress.proofs.CatchUp.Nulls.{AreNulls, NullsAlone}

module _ (s : Components) (n m : ℕ) where
  -- everyone has announced
  abbrev pub said : Components
  said = state_after s (announcements n)

  -- and every wire has been carried
  abbrev pub carried : Components
  carried = state_after said (carries_to n (m + 1) n)

  pub heard : IsCarriedOn said carried
  heard = all_on said (carries_to n (m + 1) n) (to_are (m + 1) n n)

  pub announced : HaveAnnounced s said n
  announced = after_announcements s n

  pub led_said : IsLedTo s → IsLedTo said
  led_said is = led_after s (announcements n) is

  pub led_carried : IsLedTo s → IsLedTo carried
  led_carried is = led_after said (carries_to n (m + 1) n) (led_said is)

  pub same_directory : carried.directory ≡ s.directory
  same_directory = heard.directory ∙ announced.directory

  module _ (is : IsLedTo s) (few : s.directory.next_federate ≤ n + 1) where
    -- what a joined regulator announced last is its promise or more
    pub promise_said : (g : ℕ) → s.directory.joined g ≡ true → is_regulator (s.row g) ≡ true → promise s g ≤ carried.last_announced g
    promise_said g member reg =
        let low = joined_from_one s g is member in
        let high : g < s.directory.next_federate = (led_inv s is).kept.directory.members g member in
        let last : carried.last_announced g ≡ said.last_announced g = ap (λ (t : ℕ → ℕ). t g) heard.last in
        omega (arith, announced.said g low (omega arith) member reg, last)

    module _ (f : ℕ) (member : s.directory.joined f ≡ true) (short : (g : ℕ) → g ≢ 0 → length (s.wire g f) ≤ m) where
      f_counts : (1 ≤ f) × (f ≤ n)
      f_counts = let l : f < s.directory.next_federate = (led_inv s is).kept.directory.members f member in (joined_from_one s f is member, omega arith)

      is_open : (g : ℕ) → g ≢ f → g ≢ 0 → g < s.directory.next_federate → IsOpen said g f
      is_open g ne z l = record { other = ne; numbered = z; below = rw announced.directory (grind (arith, nat_tests)); member = rw announced.directory member }

      empty_wire : (g : ℕ) → g ≢ f → g ≢ 0 → g < s.directory.next_federate → carried.wire g f ≡ []
      empty_wire g ne z l = carried_away said g f (carries_to n (m + 1) n) (is_open g ne z l) (to_are (m + 1) n n)
          (le_trans (let b = announced.wires g f in let c = short g z in let d : length (said.wire g f) ≤ m + 1 = omega arith in d) (to_often (m + 1) g f n n (omega arith) (omega arith) f_counts.0 f_counts.1 ne))

      pub all_empty : (g : ℕ) → g ≢ 0 → carried.wire g f ≡ []
      all_empty g z = ⊎_elim
          (λ (y : is_wire carried.directory g f ≡ true).
          let p = and_parts _ _ y in
          let l : g < carried.directory.next_federate = ltb-true _ _ p.0 in
          let ne = other_than carried.directory.joined g f p.1 in
          empty_wire g ne z (subst (λ d. g < d.next_federate) same_directory l))
          (λ (e : is_wire carried.directory g f ≡ false). (led_inv carried (led_carried is)).kept.wired g f e)
          (cases_Bool (is_wire carried.directory g f))

      pub nulls_alone : NullsAlone carried f
      nulls_alone g z = subst AreNulls (sym (all_empty g z)) tt

      module _ (x : ℕ) (cap : x ≤ forever) (promised : (g : ℕ) → g ≢ f → s.directory.joined g ≡ true → is_regulator (s.row g) ≡ true → x ≤ promise s g) where
        last_above : (g : ℕ) → g ≢ f → g ≢ 0 → g < s.directory.next_federate → x ≤ carried.last_announced g
        last_above g ne z l = ⊎_elim
            (λ (y : is_regulator (s.row g) ≡ true).
            let j : s.directory.joined g ≡ true = (led_inv s is).kept.time.regulators g y in
            omega (arith, promised g ne j y, promise_said g j y))
            (λ (e : is_regulator (s.row g) ≡ false).
            let off : is_regulator (carried.row g) ≡ false = rw (heard.row, announced.row) e in
            omega (arith, (led_keeps carried (led_carried is)).silent g off, cap))
            (cases_Bool (is_regulator (s.row g)))

        other_bound : (g : ℕ) → g ≢ f → g ≢ 0 → g < s.directory.next_federate → x ≤ carried.bound f g
        other_bound g ne z l =
            let o : is_other carried.directory.joined g f ≡ true = rw same_directory (other_from s.directory.joined g f ne member) in
            let ends : bound_after (carried.known_epoch f g) (carried.bound f g) (carried.wire g f) ≡ carried.last_announced g = (led_keeps carried (led_carried is)).wires g f o in
            let is_last : carried.bound f g ≡ carried.last_announced g = rw (empty_wire g ne z l) at ends in
            omega (arith, last_above g ne z l, is_last)

        each_bound : (g : ℕ) → g < s.directory.next_federate → x ≤ carried.bound f g
        each_bound g l = ⊎_elim
            (λ (e : g ≡ f). rw e (omega (arith, (own_led carried (led_carried is)).own f, cap)))
            (λ (ne : g ≢ f). ⊎_elim
            (λ (e : g ≡ 0). rw e (omega (arith, (own_led carried (led_carried is)).nobody f, cap)))
            (λ (z : g ≢ 0). other_bound g ne z l)
            (cases_eq g 0))
            (cases_eq g f)

        pub all_heard : x ≤ local_bound carried f
        all_heard = rw same_directory (le_least s.directory.next_federate (carried.bound f) x cap each_bound)
