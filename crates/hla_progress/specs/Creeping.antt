-- Where others are slow, rounds bring on what they promise, by the widths of two of them in each two rounds
use Rattle.std.specs.Prelude.{ℕ, ◌+◌, ◌*◌, ◌≡◌, ◌≢◌, ◌≤◌, true, length}
use Rattle.hla_base.specs.declared.row.AdvanceRequest.{AdvanceRequest}
use Rattle.hla_base.specs.Tables.{one_if}
use Rattle.hla_base.specs.Rows.{is_pending, width, reach}
use Rattle.hla_callbacks.specs.declared.callback.Callback.TheVariants as callback
use Rattle.hla_machine.specs.Central.{BelowBound}
use Rattle.hla_components.specs.Components.{Components}
use Rattle.hla_components.specs.Component.{promise}
use Rattle.hla_components.specs.CentralOf.{central}
use Rattle.hla_components.specs.Headline.{IsLedTo, happenings}
use Rattle.hla_progress.specs.Rounds.{rounds, IsGivenIn}
use Rattle.hla_progress.specs.AtOnce.{due_up_to, due_before}
use Rattle.hla_progress.specs.CatchingUp.{IsWaitingFor, IsSlow, coming_time}

-- the widths of each two that are slow for x are w or more together
abbrev pub EachPairIsWide : Components → ℕ → ℕ → Type 0
EachPairIsWide s x w = (g h : ℕ) → g ≢ h → (a : IsSlow s x g) (b : IsSlow s x h) → w ≤ width (s.row g).lookahead a.request.kind + width (s.row h).lookahead b.request.kind

-- those that are slow for x promise y or more
abbrev pub EachSlowPromises : Components → ℕ → ℕ → Type 0
EachSlowPromises s x y = (g : ℕ) → IsSlow s x g → y ≤ promise s g

-- two that are slow for x are one
abbrev pub OneIsSlow : Components → ℕ → Type 0
OneIsSlow s x = (g h : ℕ) → IsSlow s x g → IsSlow s x h → g ≡ h

-- ---- the theorems
-- f, whose goal is at most the machine's bound, is granted exactly its target by the round 1 + 2 k + what is due before it, where the goal is
-- at most k times w above the least promise of those that are slow for it (f too, if it is), and w is at most the widths of each two of
-- them together; n is at least the number of the last federate that joined, and no wire is longer than m
abbrev pub EachCatchesUp : Type 0
EachCatchesUp = (s : Components) (f n m k y w : ℕ) (q : AdvanceRequest) (t : ℕ) → IsLedTo s → s.directory.next_federate ≤ n + 1 → ((g h : ℕ) → length (s.wire g h) ≤ m) →
    IsWaitingFor s f q t → BelowBound (central s) f (reach q.kind t) →
    EachSlowPromises s (reach q.kind t) y → EachPairIsWide s (reach q.kind t) w → reach q.kind t ≤ y + k * w →
    IsGivenIn (happenings s (rounds (1 + 2 * k + due_up_to s f t) n m)) f (λ k. k ≡ callback.TimeAdvanceGrant t)

-- and by the round 2 + what is due before it, whatever the gap, where one alone is slow for its goal
abbrev pub EachFollowsOne : Type 0
EachFollowsOne = (s : Components) (f n m : ℕ) (q : AdvanceRequest) (t : ℕ) → IsLedTo s → s.directory.next_federate ≤ n + 1 → ((g h : ℕ) → length (s.wire g h) ≤ m) →
    IsWaitingFor s f q t → BelowBound (central s) f (reach q.kind t) → OneIsSlow s (reach q.kind t) →
    IsGivenIn (happenings s (rounds (2 + due_up_to s f t) n m)) f (λ k. k ≡ callback.TimeAdvanceGrant t)

-- likewise one that is to be constrained
abbrev pub EachIsConstrained : Type 0
EachIsConstrained = (s : Components) (f n m k y w : ℕ) → IsLedTo s → s.directory.next_federate ≤ n + 1 → ((g h : ℕ) → length (s.wire g h) ≤ m) →
    s.directory.joined f ≡ true → is_pending (s.row f).constrained ≡ true → BelowBound (central s) f (coming_time (s.row f)) →
    EachSlowPromises s (coming_time (s.row f)) y → EachPairIsWide s (coming_time (s.row f)) w → coming_time (s.row f) ≤ y + k * w →
    IsGivenIn (happenings s (rounds (1 + 2 * k + (due_before s f + one_if (is_pending (s.row f).regulating))) n m)) f (λ k. k ≡ callback.TimeConstrainedEnabled (coming_time (s.row f)))
