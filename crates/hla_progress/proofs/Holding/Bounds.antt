-- Who may still send something below a goal holds it
use Rattle.std.proofs.Common.{◌≡◌, ℕ, true, ◌∙◌}
use Rattle.hla_base.specs.Rows.{is_regulator, reach}
use Rattle.hla_machine.specs.declared.step.Step.{Step}
use Rattle.hla_machine.specs.Central.{BelowAllTso, BelowOut}
use Rattle.hla_components.specs.Components.{Components}
use Rattle.hla_components.specs.CentralOf.{central}
use Rattle.hla_components.specs.Next.{next}
use Rattle.hla_components.specs.Headline.{IsLedTo}
use Rattle.hla_components.proofs.Upkeep.Bounds.{below_bound}
use Rattle.hla_components.proofs.Refinement.LedTo.{led_inv}
use Rattle.hla_progress.specs.Rounds.{IsOfRounds}
use Rattle.hla_progress.specs.Holding.{TheBoundHolds}
use Rattle.hla_progress.proofs.Keeping.Steps.{led_keeps}
use Rattle.hla_progress.proofs.Moving.Outs.{role_stays}
use Rattle.hla_progress.proofs.Moving.Back.{IsInNoLateFlush, out_back, calm_stays}
use Rattle.hla_progress.proofs.Moving.Led.{led_sound, led_round}
use Rattle.hla_progress.proofs.Holding.Denied.{never_in_list}

-- g may send something below x
pub record MaySendBelow (x g : ℕ) (s : Components) : Type 0 where
  pub regulates : is_regulator (s.row g) ≡ true
  pub below : BelowOut (BelowAllTso (central s) g) (s.row g) x → ⊥
  pub calm : IsInNoLateFlush (s.row g)

still_below : (x g : ℕ) (s : Components) (step : Step) → IsLedTo s → IsOfRounds step → MaySendBelow x g s → MaySendBelow x g (next s step).state
still_below x g s step is of c =
    let kept = (led_sound s is).kept in
    let r = led_round s step is of in
    record {
      regulates = role_stays (central s) kept (central (next s step).state) r g ∙ c.regulates;
      below = λ out. c.below (out_back (central s) kept g x (central (next s step).state) r ((led_keeps s is).raised g) c.calm out);
      calm = calm_stays (central s) kept g x (central (next s step).state) r c.calm;
    }

pub bound_holds : TheBoundHolds
bound_holds s f g q t steps is w ne reg below calm of v = never_in_list f q t (MaySendBelow (reach q.kind t) g)
    (λ s is w c l. c.below ((below_bound s f (reach q.kind t) (led_inv s is).kept w.joined l).1 g ((led_inv s is).kept.time.regulators g c.regulates) ne c.regulates))
    (λ s step is of c. still_below (reach q.kind t) g s step is of c)
    s steps is w (record { regulates = reg; below = below; calm = calm }) of v
