use Rattle.std.proofs.Common.{◌≡◌, ℕ, ◌≤◌, false, subst, List}
use Rattle.std.specs.Prelude.{IfErr, vec_len}
use Rattle.hla_history.specs.Closing.{Replays}
use Rattle.hla_callers.specs.Callers.{Leaver}
use Rattle.hla_callers.specs.Close.{AllKnown, DiffersFirst, IsUnknownAt, KnownBefore}
use Rattle.hla_callers.specs.declared.closing.CloseFault.TheVariants as close_fault
use Rattle.hla_callers.specs.Locked.{LockedValue}
use Rattle.hla_callers.proofs.Known.{when_ok, when_differs, differs_at, untold_at, first_at}
use Rattle.hla_callers.proofs.locked.Locked.settle.Goals as goal

pub returns-then-is_ok-clause-known : goal.returns-then-is_ok-clause-known
returns-then-is_ok-clause-known g c =
    when_ok c.settle-settled.result
    (subst (λ (ls : List Leaver). AllKnown c.args.self.now.held.history ls c.args.seat) c.as_slice.ensures.value c.in_default.ensures.none)

pub returns-else-is_ok-clause-compared : goal.returns-else-is_ok-clause-compared
returns-else-is_ok-clause-compared g c =
    when_differs (λ u. u.fault) c.settle-settled.result
    (subst (λ (ls : List Leaver). AllKnown c.args.self.now.held.history ls c.args.seat) c.as_slice.ensures.value c.in_default.ensures.none)

pub returns-else-is_ok-clause-differs : goal.returns-else-is_ok-clause-differs
returns-else-is_ok-clause-differs g c =
    subst (λ (l : LockedValue). IfErr c.settle-settled.result (λ u. (k : ℕ) → u.fault ≡ close_fault.Transcript k → DiffersFirst l.held.history c.args.lefts.items c.args.seat k)) c.self.view_is
    (differs_at (λ u. u.fault) (λ k. DiffersFirst (g.H.History.value c.self.inside.shared).history c.args.lefts.items c.args.seat k) c.settle-settled.result c.settle-settled.ensures.differs)

pub returns-in-Some-clause-first : goal.returns-in-Some-clause-first
returns-in-Some-clause-first g c =
    first_at c.in-Some.place (KnownBefore c.args.self.now.held.history c.args.lefts.items)
    (subst (λ (ls : List Leaver). KnownBefore c.args.self.now.held.history ls c.in-Some.place) c.as_slice.ensures.value c.in-Some.ensures.first)

pub returns-in-Some-clause-replays : goal.returns-in-Some-clause-replays
returns-in-Some-clause-replays g c = subst (λ (l : LockedValue). Replays l.held.history) c.self.view_is (_, c.kept.ensures.replays)

pub returns-else-is_ok-clause-replays : goal.returns-else-is_ok-clause-replays
returns-else-is_ok-clause-replays g c = subst (λ (l : LockedValue). Replays l.held.history) c.self.view_is (_, c.kept.ensures.replays)

pub returns-in-Some-clause-unknown : goal.returns-in-Some-clause-unknown
returns-in-Some-clause-unknown g c =
    untold_at c.in-Some.place (vec_len c.args.lefts) (λ (k : ℕ). c.args.self.now.ended ≡ false → IsUnknownAt c.args.self.now.posted.shown c.args.lefts.items c.args.seat k) (
      subst (λ (n : ℕ). c.in-Some.place ≤ n) c.as_slice.ensures.len c.in-Some.ensures.some.0,
      subst (λ (ls : List Leaver). c.args.self.now.ended ≡ false → IsUnknownAt c.args.self.now.posted.shown ls c.args.seat c.in-Some.place) c.as_slice.ensures.value c.in-Some.ensures.some.1,
    )
