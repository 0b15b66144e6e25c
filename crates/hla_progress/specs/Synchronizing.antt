-- What ticks bring of synchronization points, and when a point closes
use Rattle.std.specs.Prelude.{ℕ, ◌≡◌, ◌≤◌, ◌<◌, ◌⊎◌, true, false, Some, List, [], ◌∷◌, ◌++◌, length}
use Rattle.hla_base.specs.declared.notice.Notice.{Notice}
use Rattle.hla_synchronization.specs.Points.{Point, point_labelled, is_open}
use Rattle.hla_callbacks.specs.declared.callback.Callback.TheVariants as callback
use Rattle.hla_component_rules.specs.declared.control.Control.{Control}
use Rattle.hla_component_rules.specs.declared.control.Control.TheVariants.{ToTell}
use Rattle.hla_machine.specs.declared.step.Step.{Step}
use Rattle.hla_machine.specs.declared.step.Step.TheVariants.{Join, Call, Carry, Announce, Tick}
use Rattle.hla_components.specs.Components.{Components}
use Rattle.hla_components.specs.Next.{next, notice_callback}
use Rattle.hla_components.specs.Invariant.{EachOf}
use Rattle.hla_components.specs.Headline.{IsLedTo, happenings, state_after}
use Rattle.hla_progress.specs.Rounds.{ticks_of, IsGivenIn}

-- f is joined before and after each of the steps
abbrev pub IsMemberThroughout : Components → List Step → ℕ → Type 0
IsMemberThroughout s [] f = s.directory.joined f ≡ true
IsMemberThroughout s (step ∷ steps) f = (s.directory.joined f ≡ true) × IsMemberThroughout (next s step).state steps f

abbrev pub IsNoJoin : Step → Type 0
IsNoJoin (Join name) = ⊥
IsNoJoin (Call f service) = Unit {0}
IsNoJoin (Carry from to) = Unit {0}
IsNoJoin (Announce f) = Unit {0}
IsNoJoin (Tick f) = Unit {0}

-- after one of the steps no point of that label is open
abbrev pub ClosesIn : Components → List Step → List ℕ → Type 0
ClosesIn s [] label = ⊥
ClosesIn s (step ∷ steps) label = (is_open label (next s step).state.directory.points ≡ false) ⊎ ClosesIn (next s step).state steps label

-- if f was told of the point that is open, it has achieved it
abbrev pub AchievesIfTold : Components → List ℕ → ℕ → Type 0
AchievesIfTold s label f = (p : Point) → point_labelled label s.directory.points ≡ Some p → p.announced f ≡ true → p.achieved f ≡ true

-- ---- the theorems
-- a tick gives the first of the controls: so a notice is told by the tick 1 + what waits ahead of it among them, whatever steps are done
-- beside these ticks, as long as the federate is joined
abbrev pub EachNoticeIsTold : Type 0
EachNoticeIsTold = (s : Components) (steps : List Step) (f : ℕ) (ahead behind : List Control) (n : Notice) → IsMemberThroughout s steps f →
    s.controls f ≡ ahead ++ (ToTell n ∷ behind) → length ahead < ticks_of f steps → IsGivenIn (happenings s steps) f (λ k. k ≡ notice_callback n.kind n.label)

-- an open point closes in steps in which nobody joins, whatever else is done: where each federate that is joined at their end has ticked as
-- often as controls waited for it at their beginning, and has achieved the point if it was told of it
abbrev pub EachPointCloses : Type 0
EachPointCloses = (s : Components) (steps : List Step) (label : List ℕ) → IsLedTo s → EachOf IsNoJoin steps → is_open label s.directory.points ≡ true →
    ((f : ℕ) → (state_after s steps).directory.joined f ≡ true → (length (s.controls f) ≤ ticks_of f steps) × AchievesIfTold (state_after s steps) label f) → ClosesIn s steps label

-- and when a point closes at a step, each federate that is joined from then on is told so once it has ticked as often as controls wait for it
-- then
abbrev pub EachMemberIsSynchronized : Type 0
EachMemberIsSynchronized = (s : Components) (step : Step) (steps : List Step) (label : List ℕ) (f : ℕ) → IsLedTo s →
    is_open label s.directory.points ≡ true → is_open label (next s step).state.directory.points ≡ false → IsMemberThroughout (next s step).state steps f →
    length ((next s step).state.controls f) ≤ ticks_of f steps → IsGivenIn (happenings (next s step).state steps) f (λ k. k ≡ callback.FederationSynchronized label)
