-- One that is to be constrained is, after what rounds bring
use Rattle.std.proofs.Common.{◌≡◌, ◌≢◌, ℕ, ◌+◌, ◌*◌, ◌≤◌, true, false, refl, sym, subst, inl, ⊎_elim, arith, List, length}
use Rattle.std.proofs.lemmas.Bool.{cases_eq, cases_Bool}
use Rattle.hla_base.specs.Tables.{one_if}
use Rattle.hla_base.specs.Rows.{is_regulator, is_pending}
use Rattle.hla_machine.specs.declared.step.Step.{Step}
use Rattle.hla_machine.specs.Central.{BelowAllTso, BelowOut, BelowBound}
use Rattle.hla_components.specs.Components.{Components}
use Rattle.hla_components.specs.CentralOf.{central}
use Rattle.hla_components.specs.Headline.{IsLedTo, happenings, state_after}
use Rattle.hla_progress.specs.Rounds.{rounds, IsGivenIn}
use Rattle.hla_progress.specs.AtOnce.{asked_time, due_before}
use Rattle.hla_progress.specs.CatchingUp.{NobodyIsSlow, coming_time}
use Rattle.hla_progress.specs.Creeping.{EachIsConstrained}
use Rattle.hla_progress.proofs.Moving.Led.{led_sound}
use Rattle.hla_progress.proofs.Waiting.Lists.{rounds_of}
use Rattle.hla_progress.proofs.CatchUp.Constraining.{IsConstrainedAt, ToConstrain, due_first, list_goes_on, constrained_in}
use Rattle.hla_progress.proofs.Creep.OneRound.{StandsAbove}
use Rattle.hla_progress.proofs.Creep.TwoRounds.{says_promised, many_rounds}
use Rattle.hla_progress.proofs.Creep.Granted.{given_in_front, given_behind, given_at_last, rounds_append}

-- a regulator's floor is not below the time from which it is constrained
floor_comes : (s : Components) (f : ℕ) → IsLedTo s → is_regulator (s.row f) ≡ true → coming_time (s.row f) ≤ (s.row f).floor
floor_comes s f is reg = let law = (led_sound s is).kept.rows f in ⊎_elim
    (λ (y : is_pending (s.row f).regulating ≡ true). rw y (law.entered y))
    (λ (n : is_pending (s.row f).regulating ≡ false). rw n (law.floored reg))
    (cases_Bool (is_pending (s.row f).regulating))

stands_for : (s : Components) (f n m : ℕ) → IsLedTo s → s.directory.next_federate ≤ n + 1 → ((g h : ℕ) → length (s.wire g h) ≤ m) → BelowBound (central s) f (coming_time (s.row f)) → StandsAbove (coming_time (s.row f)) n m s
stands_for s f n m is few short below = record {
  led = is;
  few = few;
  short = λ g h z. short g h;
  cap = below.0;
  outs = λ g j reg. ⊎_elim
      (λ (e : g ≡ f). subst (λ h. BelowOut (BelowAllTso (central s) h) (s.row h) (coming_time (s.row f))) (sym e) (inl (floor_comes s f is (subst (λ h. is_regulator (s.row h) ≡ true) e reg))))
      (λ (ne : g ≢ f). below.1 g j ne reg)
      (cases_eq g f);
}

module _ (s : Components) (f n m i limit u : ℕ) (c : ToConstrain f u s) (is : IsLedTo s) (on : StandsAbove u n m (state_after s (rounds i n m))) (quick : NobodyIsSlow (state_after s (rounds i n m)) f u) where
  abbrev later : Components
  later = state_after s (rounds i n m)

  abbrev d : ℕ
  d = due_first s f limit

  constrained_after : IsGivenIn (happenings s (rounds (i + (1 + d)) n m)) f (IsConstrainedAt u)
  constrained_after = subst (λ (steps : List Step). IsGivenIn (happenings s steps) f (IsConstrainedAt u)) (sym (rounds_append i (1 + d) n m)) (⊎_elim
      (λ (g : IsGivenIn (happenings s (rounds i n m)) f (IsConstrainedAt u)). given_in_front s (rounds i n m) (rounds (1 + d) n m) f (IsConstrainedAt u) g)
      (λ (v : ToConstrain f u later × (due_first later f limit ≤ d)). given_behind s (rounds i n m) (rounds (1 + d) n m) f (IsConstrainedAt u)
      (given_at_last later (rounds (1 + d) n m) f (IsConstrainedAt u)
      (constrained_in f limit u later n m d on.led on.few (λ g z. on.short g f z) v.0 (on.cap, λ g j ne reg. on.outs g j reg) quick v.1)))
      (list_goes_on f limit u s (rounds i n m) is (rounds_of i n m) c))

pub is_constrained_creeping : EachIsConstrained
is_constrained_creeping s f n m k y w is few short member was below promised wide near =
    let u = coming_time (s.row f) in
    let limit = asked_time (s.row f).advance in
    let st = stands_for s f n m is few short below in
    let many = many_rounds u n m w k y s st wide (says_promised u n m s st y promised) in
    let quick : NobodyIsSlow (state_after s (rounds (2 * k) n m)) f u = λ g j ne a. (let l = many.says g a.regulates in let low = a.low in omega arith) in
    let order : 2 * k + (1 + due_first s f limit) ≡ 1 + 2 * k + (due_before s f + one_if (is_pending (s.row f).regulating)) = omega arith in
    subst (λ j. IsGivenIn (happenings s (rounds j n m)) f (IsConstrainedAt u)) order
    (constrained_after s f n m (2 * k) limit u (record { joined = member; was = was; coming = refl }) is many.stands quick)
