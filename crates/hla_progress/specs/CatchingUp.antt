-- What the machine's own bound lets a federate have, rounds give it
use Rattle.std.specs.Prelude.{ℕ, ◌+◌, ◌≡◌, ◌≢◌, ◌≤◌, ◌<◌, cond, true, false, Some, length}
use Rattle.hla_base.specs.declared.row.AdvanceRequest.{AdvanceRequest}
use Rattle.hla_base.specs.declared.row.TimeRow.{TimeRow}
use Rattle.hla_base.specs.Tables.{one_if}
use Rattle.hla_base.specs.Rows.{is_next, is_flush, is_regulator, is_constrained, is_pending, next_request, reach}
use Rattle.hla_callbacks.specs.declared.callback.Callback.TheVariants as callback
use Rattle.hla_machine.specs.Central.{Central, BelowAllTso, BelowWake, BelowBound}
use Rattle.hla_components.specs.Components.{Components}
use Rattle.hla_components.specs.Component.{promise}
use Rattle.hla_components.specs.CentralOf.{central}
use Rattle.hla_components.specs.Headline.{IsLedTo, happenings}
use Rattle.hla_progress.specs.Rounds.{rounds, IsGivenAtLast}
use Rattle.hla_progress.specs.AtOnce.{due_up_to, due_before}

-- ---- what a federate waits for
-- the wake of a next-event request: its first pick, or else the lesser of the asked time and the least stamp of what is to be given in
-- time-stamp order, waiting or under way, and is not retracted
abbrev pub IsWake : Central → ℕ → AdvanceRequest → ℕ → Type 0
IsWake c f q t = BelowWake (BelowAllTso c f) q (c.row f).first_pick t × ((x : ℕ) → BelowWake (BelowAllTso c f) q (c.row f).first_pick x → x ≤ t)

-- the time that is to be granted: of a next-event request its wake, else the time that was asked for
abbrev pub IsTarget : Central → ℕ → AdvanceRequest → ℕ → Type 0
IsTarget c f q t = (is_next q.kind ≡ false → t ≡ q.asked) × (is_next q.kind ≡ true → IsWake c f q t)

-- f is constrained, and waits in an advance that is no flush, to be granted t; its goal is what t reaches to: t, or for a strict request t + 1
pub record IsWaitingFor (s : Components) (f : ℕ) (q : AdvanceRequest) (t : ℕ) : Type 0 where
  pub joined : s.directory.joined f ≡ true
  pub constrained : is_constrained (s.row f) ≡ true
  pub asks : (s.row f).advance ≡ Some q
  pub unflushed : is_flush q.kind ≡ false
  pub target : IsTarget (central s) f q t

-- ---- who holds others up
-- a regulating constrained federate in a next-event request is slow for x where its promise is below x
pub record IsSlow (s : Components) (x g : ℕ) : Type 0 where
  pub regulates : is_regulator (s.row g) ≡ true
  pub request : AdvanceRequest
  pub waits : next_request (s.row g) ≡ Some request
  pub low : promise s g < x

-- no other joined federate is slow for x
abbrev pub NobodyIsSlow : Components → ℕ → ℕ → Type 0
NobodyIsSlow s f x = (g : ℕ) → s.directory.joined g ≡ true → g ≢ f → IsSlow s x g → ⊥

-- ---- the theorems
-- f, whose goal is at most the machine's bound, is granted exactly its target by the round 1 + what is due before it, whatever the gap, where
-- no other is slow for its goal; n is at least the number of the last federate that joined, and no wire to it is longer than m
abbrev pub EachCatchesUpInARound : Type 0
EachCatchesUpInARound = (s : Components) (f n m : ℕ) (q : AdvanceRequest) (t : ℕ) → IsLedTo s → s.directory.next_federate ≤ n + 1 → ((g : ℕ) → length (s.wire g f) ≤ m) →
    IsWaitingFor s f q t → BelowBound (central s) f (reach q.kind t) → NobodyIsSlow s f (reach q.kind t) →
    IsGivenAtLast (happenings s (rounds (1 + due_up_to s f t) n m)) f (λ k. k ≡ callback.TimeAdvanceGrant t)

-- the time from which a federate is constrained that is to be: its own, or while it waits for its regulation the time that comes with that
abbrev pub coming_time : TimeRow → ℕ
coming_time r = cond (is_pending r.regulating) r.regulation_time r.time

-- likewise one that is to be constrained, once that time is at most the machine's bound; its own regulation, if it waits for that, is
-- one callback more
abbrev pub EachIsConstrainedInARound : Type 0
EachIsConstrainedInARound = (s : Components) (f n m : ℕ) → IsLedTo s → s.directory.next_federate ≤ n + 1 → ((g : ℕ) → length (s.wire g f) ≤ m) →
    s.directory.joined f ≡ true → is_pending (s.row f).constrained ≡ true → BelowBound (central s) f (coming_time (s.row f)) → NobodyIsSlow s f (coming_time (s.row f)) →
    IsGivenAtLast (happenings s (rounds (1 + (due_before s f + one_if (is_pending (s.row f).regulating))) n m)) f (λ k. k ≡ callback.TimeConstrainedEnabled (coming_time (s.row f)))
