-- What a whole round leaves
use Rattle.std.proofs.Common.{◌≡◌, ◌≢◌, ℕ, zero, suc, ◌+◌, ◌≤◌, ltb, not, eqb, ◌&&◌, Bool, true, false, refl, sym, ◌∙◌, ap, subst, ⊎_elim, arith, List, [], ◌∷◌, ◌++◌, length, Option, Some, None}
use Rattle.std.proofs.lemmas.Bool.{cases_Bool}
use Rattle.std.proofs.lemmas.Bool.Decides.{nat_tests}
use Rattle.hla_base.specs.declared.fault.Fault.{Fault}
use Rattle.hla_base.specs.Tables.{forever}
use Rattle.hla_base.specs.Rows.{is_regulator}
use Rattle.hla_null_message.specs.declared.message.Message.{Message}
use Rattle.hla_component_rules.specs.declared.control.Control.TheVariants.{ToDiscover, ToRetract, ToTell}
use Rattle.hla_component_rules.specs.Picking.{Pick, NoPick, PickControl, PickRo, PickRegulates, PickConstrains, PickTso, PickGrant}
use Rattle.hla_machine.specs.declared.step.Step.TheVariants.{Tick}
use Rattle.hla_machine.specs.Central.{BelowAllTso, BelowOut}
use Rattle.hla_machine.specs.Directory.{Directory}
use Rattle.hla_machine.specs.Refusals.{refusal}
use Rattle.hla_components.specs.Components.{Components}
use Rattle.hla_components.specs.Component.{local_bound, promise}
use Rattle.hla_components.specs.CentralOf.{central}
use Rattle.hla_components.specs.Next.{Outcomes, next, pick_outcome, tick_outcome, unless_refused, components_seen}
use Rattle.hla_components.specs.Headline.{IsLedTo, state_after}
use Rattle.hla_components.proofs.Refinement.LedTo.{led_inv, led_after, state_appended}
use Rattle.hla_progress.specs.Rounds.{announcements, carries_to, ticks, round}
use Rattle.hla_progress.specs.CatchingUp.{IsSlow}
use Rattle.hla_progress.specs.Creeping.{EachPairIsWide}
use Rattle.hla_progress.proofs.Moving.Outs.{SameRequest}
use Rattle.hla_progress.proofs.Moving.Led.{list_out, list_role, list_request}
use Rattle.hla_progress.proofs.Waiting.Lists.{round_of}
use Rattle.hla_progress.proofs.CatchUp.Heard.{carried, same_directory, promise_said, all_empty, all_heard}

-- ---- ticks
pub record IsTickedOn (t u : Components) : Type 0 where
  pub joined : u.directory.joined ≡ t.directory.joined
  pub numbers : u.directory.next_federate ≡ t.directory.next_federate
  pub bound : u.bound ≡ t.bound
  pub wire : u.wire ≡ t.wire
  pub last : u.last_announced ≡ t.last_announced

pick_on : (t : Components) (h : ℕ) (p : Pick) → IsTickedOn t (pick_outcome t h p).state
pick_on t h NoPick = record { joined = refl; numbers = refl; bound = refl; wire = refl; last = refl }
pick_on t h (PickControl (ToDiscover from d) rest) = record { joined = refl; numbers = refl; bound = refl; wire = refl; last = refl }
pick_on t h (PickControl (ToRetract e) rest) = record { joined = refl; numbers = refl; bound = refl; wire = refl; last = refl }
pick_on t h (PickControl (ToTell n) rest) = record { joined = refl; numbers = refl; bound = refl; wire = refl; last = refl }
pick_on t h (PickRo e rest) = record { joined = refl; numbers = refl; bound = refl; wire = refl; last = refl }
pick_on t h PickRegulates = record { joined = refl; numbers = refl; bound = refl; wire = refl; last = refl }
pick_on t h PickConstrains = record { joined = refl; numbers = refl; bound = refl; wire = refl; last = refl }
pick_on t h (PickTso q e rest) = record { joined = refl; numbers = refl; bound = refl; wire = refl; last = refl }
pick_on t h (PickGrant q x) = record { joined = refl; numbers = refl; bound = refl; wire = refl; last = refl }

unless_on : (t : Components) (o : Option Fault) (x : Outcomes) → IsTickedOn t x.state → IsTickedOn t (unless_refused o t x).state
unless_on t None x on = on
unless_on t (Some e) x on = record { joined = refl; numbers = refl; bound = refl; wire = refl; last = refl }

all_ticked : (t : Components) (n : ℕ) → IsTickedOn t (state_after t (ticks n))
unfolding ticks
all_ticked t zero = record { joined = refl; numbers = refl; bound = refl; wire = refl; last = refl }
all_ticked t (suc n) = let u = state_after t (ticks n) in let a = all_ticked t n in
    let b : IsTickedOn u (next u (Tick (suc n))).state = unless_on u (refusal (components_seen u) (Tick (suc n))) (tick_outcome u (suc n)) (pick_on u (suc n) _) in
    subst (λ (x : Components). IsTickedOn t x) (sym (state_appended t (ticks n) (Tick (suc n) ∷ [])))
    (record { joined = b.joined ∙ a.joined; numbers = b.numbers ∙ a.numbers; bound = b.bound ∙ a.bound; wire = b.wire ∙ a.wire; last = b.last ∙ a.last })

-- ---- the round
-- nobody who regulates may send anything below x, and no wire is longer than m
pub record StandsAbove (x n m : ℕ) (s : Components) : Type 0 where
  pub led : IsLedTo s
  pub few : s.directory.next_federate ≤ n + 1
  pub short : (g h : ℕ) → g ≢ 0 → length (s.wire g h) ≤ m
  pub cap : x ≤ forever
  pub outs : (g : ℕ) → s.directory.joined g ≡ true → is_regulator (s.row g) ≡ true → BelowOut (BelowAllTso (central s) g) (s.row g) x

abbrev pub round_after : ℕ → ℕ → Components → Components
round_after n m s = state_after s (round n m)

not_a_wire : (joined : Bool) (g f next : ℕ) → joined ≡ false → (ltb g next && (not (eqb g f) && joined)) ≡ false
not_a_wire joined g f next e = grind (arith, nat_tests)

module _ (x n m : ℕ) (s : Components) (st : StandsAbove x n m s) where
  abbrev t : Components
  t = round_after n m s

  ticked : IsTickedOn (carried s n m) t
  ticked = subst (λ (u : Components). IsTickedOn (carried s n m) u)
      (sym (state_appended s (announcements n) (carries_to n (m + 1) n ++ ticks n) ∙ state_appended (state_after s (announcements n)) (carries_to n (m + 1) n) (ticks n)))
      (all_ticked (carried s n m) n)

  led_round_after : IsLedTo t
  led_round_after = led_after s (round n m) st.led

  members_same : t.directory.joined ≡ s.directory.joined
  members_same = ticked.joined ∙ ap (λ (d : Directory). d.joined) (same_directory s n m)

  numbers_same : t.directory.next_federate ≡ s.directory.next_federate
  numbers_same = ticked.numbers ∙ ap (λ (d : Directory). d.next_federate) (same_directory s n m)

  pub round_role : (g : ℕ) → is_regulator (t.row g) ≡ is_regulator (s.row g)
  round_role g = list_role s (round n m) st.led (round_of n m) g

  pub round_request : (g : ℕ) → SameRequest (s.row g) (t.row g)
  round_request g = list_request s (round n m) st.led (round_of n m) g

  round_joined : (g : ℕ) → t.directory.joined g ≡ true → s.directory.joined g ≡ true
  round_joined g j = subst (λ (members : ℕ → Bool). members g ≡ true) members_same j

  -- promises do not fall
  pub promise_grows : (g : ℕ) → is_regulator (s.row g) ≡ true → promise s g ≤ promise t g
  promise_grows g reg =
      let member = (led_inv s st.led).kept.time.regulators g reg in
      let last : t.last_announced g ≡ (carried s n m).last_announced g = ap (λ (l : ℕ → ℕ). l g) ticked.last in
      omega (arith, promise_said s n m st.led st.few g member reg, last, (led_inv t led_round_after).kept.time.promised g (round_role g ∙ reg))

  round_short : (g h : ℕ) → g ≢ 0 → length (t.wire g h) ≤ m
  round_short g h z = ⊎_elim
      (λ (j : s.directory.joined h ≡ true). let e : t.wire g h ≡ [] = ap (λ (w : ℕ → ℕ → List Message). w g h) ticked.wire ∙ all_empty s n m st.led st.few h j (λ g z. st.short g h z) g z in rw e (omega arith))
      (λ (o : s.directory.joined h ≡ false). let off : t.directory.joined h ≡ false = rw members_same o in
      let e : t.wire g h ≡ [] = (led_inv t led_round_after).kept.wired g h (not_a_wire (t.directory.joined h) g h t.directory.next_federate off) in rw e (omega arith))
      (cases_Bool (s.directory.joined h))

  pub stands_on : StandsAbove x n m t
  stands_on = record {
    led = led_round_after;
    few = subst (λ (next : ℕ). next ≤ n + 1) (sym numbers_same) st.few;
    short = round_short;
    cap = st.cap;
    outs = λ g j reg. list_out s (round n m) st.led (round_of n m) g x (st.outs g (round_joined g j) (sym (round_role g) ∙ reg));
  }

  -- everyone knows what the others promised
  pub round_heard : (h v : ℕ) → s.directory.joined h ≡ true → v ≤ forever → ((g : ℕ) → g ≢ h → s.directory.joined g ≡ true → is_regulator (s.row g) ≡ true → v ≤ promise s g) → v ≤ local_bound t h
  round_heard h v member cap promised = rw (ticked.numbers, ticked.bound) (all_heard s n m st.led st.few h member (λ g z. st.short g h z) v cap promised)

  -- who is slow after the round was slow before it, with the same width
  abbrev pub slow_since : (g : ℕ) → IsSlow t x g → IsSlow s x g
  slow_since g a = let reg : is_regulator (s.row g) ≡ true = sym (round_role g) ∙ a.regulates in
      record { regulates = reg; request = a.request; waits = (round_request g a.request a.waits).0; low = omega (arith, promise_grows g reg, a.low) }

  pub slow_width : (g : ℕ) (a : IsSlow t x g) → (t.row g).lookahead ≡ (s.row g).lookahead
  slow_width g a = (round_request g a.request a.waits).1

  pub wide_on : (w : ℕ) → EachPairIsWide s x w → EachPairIsWide t x w
  wide_on w wide g h ne a b = rw (slow_width g a, slow_width h b) (wide g h ne (slow_since g a) (slow_since h b))
