-- Who waits in vain: where two requests hold each other, and where somebody may still send below the goal
use Rattle.std.specs.Prelude.{ℕ, ◌≡◌, ◌≢◌, ◌<◌, true, false, Some, List}
use Rattle.hla_base.specs.declared.row.AdvanceRequest.{AdvanceRequest}
use Rattle.hla_base.specs.Rows.{is_flush, is_regulator, is_constrained, reach}
use Rattle.hla_callbacks.specs.declared.callback.Callback.TheVariants as callback
use Rattle.hla_machine.specs.declared.step.Step.{Step}
use Rattle.hla_machine.specs.Central.{BelowAllTso, BelowOut}
use Rattle.hla_components.specs.Components.{Components}
use Rattle.hla_components.specs.Component.{promise}
use Rattle.hla_components.specs.CentralOf.{central}
use Rattle.hla_components.specs.Invariant.{EachOf}
use Rattle.hla_components.specs.Headline.{IsLedTo, happenings}
use Rattle.hla_progress.specs.Rounds.{IsOfRounds, IsGivenIn}
use Rattle.hla_progress.specs.CatchingUp.{IsWaitingFor}
use Rattle.hla_progress.specs.GettingOn.{IsOfNoWidth}

-- no list of announcements, carries and ticks, in whatever order, holds a grant to f, while two others, or f and another, regulate in next-event
-- requests of width 0 and have promised less than its goal
abbrev pub TwoHoldEachOther : Type 0
TwoHoldEachOther = (s : Components) (f g h : ℕ) (q : AdvanceRequest) (t : ℕ) (steps : List Step) → IsLedTo s → IsWaitingFor s f q t →
    g ≢ h → IsOfNoWidth s g → IsOfNoWidth s h → promise s g < reach q.kind t → promise s h < reach q.kind t →
    EachOf IsOfRounds steps → IsGivenIn (happenings s steps) f (λ k. (u : ℕ) × (k ≡ callback.TimeAdvanceGrant u)) → ⊥

-- nor while another regulator may still send something below its goal, and is in no flush as a constrained federate
abbrev pub TheBoundHolds : Type 0
TheBoundHolds = (s : Components) (f g : ℕ) (q : AdvanceRequest) (t : ℕ) (steps : List Step) → IsLedTo s → IsWaitingFor s f q t →
    g ≢ f → is_regulator (s.row g) ≡ true → (BelowOut (BelowAllTso (central s) g) (s.row g) (reach q.kind t) → ⊥) →
    ((p : AdvanceRequest) → (s.row g).advance ≡ Some p → is_flush p.kind ≡ true → is_constrained (s.row g) ≡ false) →
    EachOf IsOfRounds steps → IsGivenIn (happenings s steps) f (λ k. (u : ℕ) × (k ≡ callback.TimeAdvanceGrant u)) → ⊥
