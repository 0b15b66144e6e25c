-- When a service of time management is refused for the caller's row alone, and with which fault: the first of its list that applies
use Rattle.std.specs.Prelude.{ℕ, ◌+◌, cond, eqb, ltb, not, ◌&&◌, ◌||◌, Bool, Option, Some, None, List, [], ◌∷◌}
use Rattle.hla_base.specs.Limits.{max_enablings, max_time}
use Rattle.hla_base.specs.declared.fault.Fault.{Fault}
use Rattle.hla_base.specs.declared.fault.Fault.TheVariants as fault
use Rattle.hla_base.specs.declared.row.TimeRow.{TimeRow}
use Rattle.hla_base.specs.Rows.{is_enabled, is_pending, is_constrained, is_advancing}

-- a test, and the fault that it gives
pub record Test : Type 0 where
  pub applies : Bool
  pub fault : Fault

abbrev pub test_for : Fault → Bool → Test
test_for e b = record { applies = b; fault = e }

abbrev pub first_fault : List Test → Option Fault
first_fault [] = None
first_fault (t ∷ ts) = cond t.applies (Some t.fault) (first_fault ts)

-- ---- the tests of each service, in their order
-- the five requests to advance, to the time a
abbrev pub request_tests : TimeRow → ℕ → List Test
request_tests r a =
    test_for fault.TimeAdvanceAlreadyInProgress (is_advancing r)
    ∷ test_for fault.EnableTimeRegulationPending (is_pending r.regulating)
    ∷ test_for fault.EnableTimeConstrainedPending (is_pending r.constrained)
    ∷ test_for fault.InvalidFederationTime (ltb max_time a)
    ∷ test_for fault.FederationTimeAlreadyPassed (ltb a r.time)
    ∷ []

-- Enable Time Regulation at the time t, where `low` is the least entry that all bars allow
abbrev pub regulation_tests : TimeRow → ℕ → ℕ → ℕ → List Test
regulation_tests r low t lookahead =
    test_for fault.TimeAdvanceAlreadyInProgress (is_advancing r)
    ∷ test_for fault.TimeRegulationAlreadyEnabled (is_enabled r.regulating)
    ∷ test_for fault.EnableTimeRegulationPending (is_pending r.regulating)
    ∷ test_for fault.InvalidFederationTime (ltb max_time t || cond (is_constrained r) (not (eqb t r.time)) (ltb t r.time))
    ∷ test_for fault.InvalidLookahead (ltb max_time lookahead)
    ∷ test_for fault.InvalidFederationTime (not (is_constrained r) && eqb lookahead 0 && eqb low (max_time + 1))
    ∷ test_for fault.LimitReached (not (ltb r.enablings max_enablings))
    ∷ []

-- Disable Time Regulation
abbrev pub unregulate_tests : TimeRow → List Test
unregulate_tests r =
    test_for fault.TimeRegulationWasNotEnabled (not (is_enabled r.regulating)) ∷ []

-- Enable Time Constrained
abbrev pub constrain_tests : TimeRow → List Test
constrain_tests r =
    test_for fault.TimeAdvanceAlreadyInProgress (is_advancing r)
    ∷ test_for fault.TimeConstrainedAlreadyEnabled (is_enabled r.constrained)
    ∷ test_for fault.EnableTimeConstrainedPending (is_pending r.constrained)
    ∷ []

-- Disable Time Constrained
abbrev pub unconstrain_tests : TimeRow → List Test
unconstrain_tests r =
    test_for fault.TimeAdvanceAlreadyInProgress (is_advancing r)
    ∷ test_for fault.TimeConstrainedWasNotEnabled (not (is_enabled r.constrained))
    ∷ []

-- Modify Lookahead
abbrev pub lookahead_tests : TimeRow → ℕ → List Test
lookahead_tests r lookahead =
    test_for fault.TimeRegulationWasNotEnabled (not (is_enabled r.regulating))
    ∷ test_for fault.TimeAdvanceAlreadyInProgress (is_advancing r)
    ∷ test_for fault.InvalidLookahead (ltb max_time lookahead)
    ∷ []

-- Enable and Disable Asynchronous Delivery
abbrev pub asynchronous_on_tests : TimeRow → List Test
asynchronous_on_tests r =
    test_for fault.AsynchronousDeliveryAlreadyEnabled r.asynchronous ∷ []

abbrev pub asynchronous_off_tests : TimeRow → List Test
asynchronous_off_tests r =
    test_for fault.AsynchronousDeliveryAlreadyDisabled (not r.asynchronous) ∷ []
