-- No federation locks up whose regulators all advance, unless two requests hold each other; and who is granted next
use Rattle.std.specs.Prelude.{ℕ, ◌+◌, ◌*◌, ◌≡◌, ◌≢◌, ◌≤◌, true, Some, length}
use Rattle.hla_base.specs.declared.row.AdvanceRequest.{AdvanceRequest}
use Rattle.hla_base.specs.Rows.{is_regulator, is_advancing, next_request, width, reach}
use Rattle.hla_callbacks.specs.declared.callback.Callback.TheVariants as callback
use Rattle.hla_components.specs.Components.{Components}
use Rattle.hla_components.specs.Headline.{IsLedTo, happenings}
use Rattle.hla_progress.specs.Rounds.{rounds, IsGivenIn}
use Rattle.hla_progress.specs.AtOnce.{IsAwaited, asked_time, due_up_to, due_before}
use Rattle.hla_progress.specs.CatchingUp.{IsWaitingFor}
use Rattle.hla_progress.specs.Creeping.{EachPairIsWide}

-- ---- who is next
-- each other joined regulator waits too (constrained, in an advance that is no flush), and its goal is x or more
abbrev pub NobodyIsBefore : Components → ℕ → ℕ → Type 0
NobodyIsBefore s f x = (g : ℕ) → s.directory.joined g ≡ true → g ≢ f → is_regulator (s.row g) ≡ true → (p : AdvanceRequest) × (u : ℕ) × IsWaitingFor s g p u × (x ≤ reach p.kind u)

-- f, whose goal is the least, is granted exactly its target, where no two that are slow for its goal have both the width 0; n is at least
-- the number of the last federate that joined, and no wire is longer than m
abbrev pub EachLeastIsGranted : Type 0
EachLeastIsGranted = (s : Components) (f n m : ℕ) (q : AdvanceRequest) (t : ℕ) → IsLedTo s → s.directory.next_federate ≤ n + 1 → ((g h : ℕ) → length (s.wire g h) ≤ m) →
    IsWaitingFor s f q t → NobodyIsBefore s f (reach q.kind t) → EachPairIsWide s (reach q.kind t) 1 →
    IsGivenIn (happenings s (rounds (1 + 2 * reach q.kind t + due_up_to s f t) n m)) f (λ k. k ≡ callback.TimeAdvanceGrant t)

-- ---- nobody locks up
abbrev pub EachRegulatorAdvances : Components → Type 0
EachRegulatorAdvances s = (g : ℕ) → s.directory.joined g ≡ true → is_regulator (s.row g) ≡ true → is_advancing (s.row g) ≡ true

-- a regulating constrained federate in a next-event request of width 0: that is Next Event Request Available with the lookahead 0
pub record IsOfNoWidth (s : Components) (g : ℕ) : Type 0 where
  pub regulates : is_regulator (s.row g) ≡ true
  pub request : AdvanceRequest
  pub waits : next_request (s.row g) ≡ Some request
  pub narrow : width (s.row g).lookahead request.kind ≡ 0

-- there are not two of those, which might hold each other
abbrev pub NoTwoHold : Components → Type 0
NoTwoHold s = (g h : ℕ) → g ≢ h → IsOfNoWidth s g → IsOfNoWidth s h → ⊥

-- each request of a regulator has a width: its lookahead is positive, or the request is strict
abbrev pub EachHasWidth : Components → Type 0
EachHasWidth s = (g : ℕ) (p : AdvanceRequest) → s.directory.joined g ≡ true → is_regulator (s.row g) ≡ true → (s.row g).advance ≡ Some p → 1 ≤ width (s.row g).lookahead p.kind

-- some joined federate that is in an advance is given the grant for which it waits, by the round 1 + twice what the time that it asked
-- for reaches to at most + what is due before it
pub record SomebodyIsGranted (s : Components) (n m : ℕ) : Type 0 where
  pub federate : ℕ
  pub joined : s.directory.joined federate ≡ true
  pub advances : is_advancing (s.row federate) ≡ true
  pub count : ℕ
  pub soon : count ≤ 1 + 2 * (asked_time (s.row federate).advance + 1) + due_before s federate
  pub given : IsGivenIn (happenings s (rounds count n m)) federate (IsAwaited (s.row federate))

-- where somebody is in an advance, and every regulator is, somebody is granted, unless two requests hold each other
abbrev pub NobodyLocksUp : Type 0
NobodyLocksUp = (s : Components) (f n m : ℕ) → IsLedTo s → s.directory.next_federate ≤ n + 1 → ((g h : ℕ) → length (s.wire g h) ≤ m) →
    s.directory.joined f ≡ true → is_advancing (s.row f) ≡ true → EachRegulatorAdvances s → NoTwoHold s → SomebodyIsGranted s n m

-- so with every lookahead positive, or strict requests alone, a federation never locks up
abbrev pub NobodyLocksUpWithWidths : Type 0
NobodyLocksUpWithWidths = (s : Components) (f n m : ℕ) → IsLedTo s → s.directory.next_federate ≤ n + 1 → ((g h : ℕ) → length (s.wire g h) ≤ m) →
    s.directory.joined f ≡ true → is_advancing (s.row f) ≡ true → EachRegulatorAdvances s → EachHasWidth s → SomebodyIsGranted s n m
