-- What the machine's state keeps over lists of steps, for a state to which steps of the components led
use Rattle.std.proofs.Common.{◌≡◌, ◌⊎◌, ℕ, true, false, refl, sym, ◌∙◌, subst, List, [], ◌∷◌, Some, None}
use Rattle.hla_base.specs.declared.row.AdvanceRequest.{AdvanceRequest}
use Rattle.hla_base.specs.Rows.{is_flush, is_regulator, is_constrained}
use Rattle.hla_machine.specs.declared.step.Step.{Step}
use Rattle.hla_machine.specs.Central.{Central, BelowAllTso, BelowOut, new_central}
use Rattle.hla_machine.specs.Runs.{Happening, IsRun}
use Rattle.hla_machine.specs.History.{next_state}
use Rattle.hla_machine.proofs.Upkeep.Keeps.{IsCentralKept}
use Rattle.hla_machine.proofs.Upkeep.Runs.{step_keeps, start_keeps}
use Rattle.hla_machine.proofs.Copies.Retractions.{AreRetractionsSound, step_onward, sound_start}
use Rattle.hla_components.specs.Components.{Components}
use Rattle.hla_components.specs.CentralOf.{central}
use Rattle.hla_components.specs.Invariant.{EachOf}
use Rattle.hla_components.specs.Next.{next}
use Rattle.hla_components.specs.Headline.{IsLedTo, state_after}
use Rattle.hla_components.proofs.Refinement.Runs.{each_step}
use Rattle.hla_components.proofs.Refinement.LedTo.{led_inv, led_next, led_history}
use Rattle.hla_progress.specs.Rounds.{IsOfRounds}
use Rattle.hla_progress.specs.CatchingUp.{IsTarget}
use Rattle.hla_progress.proofs.Moving.Rounds.{RoundStep, round_step, NoneGoes, IsNoTick, none_goes}
use Rattle.hla_progress.proofs.Moving.Outs.{SameRequest, out_stays, role_stays, request_stays}
use Rattle.hla_progress.proofs.Moving.Targets.{target_stays}

pub record Sound (c : Central) : Type 0 where
  pub kept : IsCentralKept c
  pub sound : AreRetractionsSound c

sound_run : (c : Central) (hs : List Happening) (d : Central) → IsRun c hs d → Sound c → Sound d
sound_run c [] d run w = subst Sound run w
sound_run c (h ∷ hs) d run w = sound_run (next_state c h) hs d run.1 (record { kept = step_keeps c h.step h.outcome h.choice run.0.0 w.kept; sound = (step_onward c h.step h.outcome h.choice run.0.0 w.sound).kept })

pub led_sound : (s : Components) → IsLedTo s → Sound (central s)
led_sound s is = let h = led_history s is in sound_run (new_central h.catalogue) h.before (central s) h.run (record { kept = start_keeps h.catalogue; sound = sound_start h.catalogue })

pub led_round : (s : Components) (step : Step) → IsLedTo s → IsOfRounds step → RoundStep (central s) (central (next s step).state)
led_round s step is of = let one = each_step s step (led_inv s is) in subst (λ (d : Central). RoundStep (central s) d) (sym one.machine.follows)
    (round_step (central s) step (next s step).outcome (next s step).choice (led_sound s is).sound.owes of one.machine.allowed.0)

-- no unretracted copy for a constrained federate goes in announcements and carries
pub led_goes : (s : Components) (step : Step) (f : ℕ) → IsLedTo s → IsNoTick step → is_constrained (s.row f) ≡ true → NoneGoes (central s) (central (next s step).state).bag f
led_goes s step f is of con = let one = each_step s step (led_inv s is) in subst (λ (d : Central). NoneGoes (central s) d.bag f) (sym one.machine.follows)
    (none_goes (central s) step (next s step).outcome (next s step).choice (led_sound s is).sound.owes of one.machine.allowed.0 f con)

-- ---- one step
module _ (s : Components) (step : Step) (is : IsLedTo s) (of : IsOfRounds step) where
  pub next_target : (f : ℕ) (q : AdvanceRequest) (t : ℕ) → (s.row f).advance ≡ Some q → is_constrained (s.row f) ≡ true → is_flush q.kind ≡ false → IsTarget (central s) f q t
      → IsTarget (central (next s step).state) f q t ⊎ (((next s step).state.row f).advance ≡ None)
  next_target f q t asks con fl w = target_stays (central s) (led_sound s is).kept f q t asks con fl (central (next s step).state) (led_round s step is of) w

-- ---- lists
pub list_out : (s : Components) (steps : List Step) → IsLedTo s → EachOf IsOfRounds steps → (g v : ℕ) → BelowOut (BelowAllTso (central s) g) (s.row g) v → BelowOut (BelowAllTso (central (state_after s steps)) g) ((state_after s steps).row g) v
list_out s [] is of g v b = b
list_out s (step ∷ steps) is of g v b = list_out (next s step).state steps (led_next s step is) of.1 g v (out_stays (central s) (led_sound s is).kept (central (next s step).state) (led_round s step is of.0) g v b)

pub list_role : (s : Components) (steps : List Step) → IsLedTo s → EachOf IsOfRounds steps → (g : ℕ) → is_regulator ((state_after s steps).row g) ≡ is_regulator (s.row g)
list_role s [] is of g = refl
list_role s (step ∷ steps) is of g = list_role (next s step).state steps (led_next s step is) of.1 g ∙ role_stays (central s) (led_sound s is).kept (central (next s step).state) (led_round s step is of.0) g

pub list_request : (s : Components) (steps : List Step) → IsLedTo s → EachOf IsOfRounds steps → (g : ℕ) → SameRequest (s.row g) ((state_after s steps).row g)
list_request s [] is of g = λ q e. (e, refl)
list_request s (step ∷ steps) is of g = λ q e.
    let b = list_request (next s step).state steps (led_next s step is) of.1 g q e in
    let a = request_stays (central s) (led_sound s is).kept (central (next s step).state) (led_round s step is of.0) g q b.0 in
    (a.0, b.1 ∙ a.1)
