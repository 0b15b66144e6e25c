-- What is seen of the callers of one run-time infrastructure
use Rattle.std.specs.Prelude.{◌≡◌, ℕ, ◌+◌, ◌⊎◌, Option, None, Some, IfSome, List, [], ◌∷◌, ◌++◌, Result, Ok, Err}
use mathlib.Core.List.{IsPrefix}
use Rattle.hla_base.specs.declared.fault.Fault.{Fault}
use Rattle.hla_base.specs.declared.fault.Fault.TheVariants as fault
use Rattle.hla_callbacks.specs.declared.callback.Callback.{Callback}
use Rattle.hla_machine.specs.declared.service.Service.{Service}
use Rattle.hla_machine.specs.declared.step.Step.TheVariants.{Call}
use Rattle.hla_machine.specs.declared.step.Act.{Act}
use Rattle.hla_machine.specs.declared.step.Act.TheVariants as act
use Rattle.hla_machine.specs.declared.step.Answer.{Answer}
use Rattle.hla_machine.specs.declared.step.Answer.TheVariants as answer
use Rattle.hla_machine.specs.declared.step.Outcome.{Outcome}
use Rattle.hla_machine.specs.declared.step.Outcome.TheVariants as outcome
use Rattle.hla_machine.specs.declared.step.Choice.{Choice}
use Rattle.hla_machine.specs.declared.step.Record.{Record}
use Rattle.hla_history.specs.Closing.{Replays}
use Rattle.hla_history.specs.Heard.{heard_by}

-- a caller's number, the records of its own acts in order, its share of the ledger, and the history up to its last act, where that
-- is known
pub record Caller : Type 0 where
  pub number : ℕ
  pub transcript : List Record
  pub share : ℕ
  pub until : Option (List Record)

-- a caller that has done nothing yet
abbrev pub new_caller : ℕ → Caller
new_caller number = record { number = number; transcript = []; share = 0; until = None }

-- a caller with one more record of its own, and what is known of the history behind it
abbrev pub with_own : Caller → Record → Option (List Record) → Caller
with_own c r until = record { number = c.number; transcript = c.transcript ++ r ∷ []; share = c.share + 1; until = until }

-- ---- what an act leads to
-- a history ends with a record
abbrev pub EndsWith : Record → List Record → Type 0
EndsWith r history = (before : List Record) × (history ≡ before ++ r ∷ [])

-- some history that replays ends with the record: an act may come to this, by all the definitions
abbrev pub HasHappened : Record → Type 0
HasHappened r = (history : List Record) × Replays history × EndsWith r history

-- the history that is known behind an act: it replays, it ends with the act's record, and it begins with what was known before
abbrev pub IsKnownBehind : Option (List Record) → Record → List Record → Type 0
IsKnownBehind before r history = Replays history × EndsWith r history × IfSome before (λ h. IsPrefix h history)

-- the record of a caller's act
abbrev pub act_record : Caller → List ℕ → Act → Outcome → Choice → Record
act_record c name a out chosen = record { actor = c.number; execution = name; act = a; outcome = out; choice = chosen }

-- the caller's act ended so: its transcript has grown by the record, and its share by one; the record is one that a history that
-- replays ends with, and where the history up to it is known, that one does
abbrev pub HasActed : Caller → List ℕ → Act → Outcome → Caller → Type 0
HasActed old name a out new =
    (chosen : Choice)
    × (new ≡ with_own old (act_record old name a out chosen) new.until)
    × HasHappened (act_record old name a out chosen)
    × IfSome new.until (IsKnownBehind old.until (act_record old name a out chosen))

-- no act was recorded, as the history is full or memory ran out, and the caller is as before
abbrev pub HasNotActed : Caller → Fault → Caller → Type 0
HasNotActed old e new = ((e ≡ fault.HistoryFull) ⊎ (e ≡ fault.OutOfMemory)) × (new ≡ old)

-- what an outcome answers the caller
abbrev pub answer_given : Outcome → Result Answer Fault
answer_given (outcome.Done a) = Ok a
answer_given (outcome.Refused e) = Err e
answer_given (outcome.Failed k) = Err fault.FederateInternalError

-- a call's own answer, as its record says it
abbrev pub said : {T : Type 0} → (T → Answer) → Result T Fault → Result Answer Fault
said answer_of (Ok x) = Ok (answer_of x)
said answer_of (Err e) = Err e

-- a call that answers nothing
abbrev pub nothing : Unit {0} → Answer
nothing _ = answer.Done

-- a caller's act answers what its record says; or nothing was recorded, and it answers why
abbrev pub HasAnswered : Caller → List ℕ → Act → Result Answer Fault → Caller → Type 0
HasAnswered old name a result new =
    ((out : Outcome) × (result ≡ answer_given out) × HasActed old name a out new)
    ⊎ ((e : Fault) × (result ≡ Err e) × HasNotActed old e new)

-- a resigning was done
abbrev pub HasResigned : Caller → List ℕ → Act → Caller → Type 0
HasResigned old name a new = HasActed old name a (outcome.Done answer.Done) new

-- a federate of an execution, as a caller
pub record FederateCaller : Type 0 where
  pub execution : List ℕ
  pub federate : ℕ
  pub caller : Caller

-- a federate's call of a service
unfoldable pub IsServed : FederateCaller → Service → Result Answer Fault → FederateCaller → Type 0
IsServed old service result new =
    (new.execution ≡ old.execution)
    × (new.federate ≡ old.federate)
    × HasAnswered old.caller old.execution (act.Step (Call old.federate service)) result new.caller

-- what a caller leaves behind: itself, and what the ambassador that goes out with it has heard, if one does
pub record Leaver : Type 0 where
  pub caller : Caller
  pub heard : Option (List Callback)

-- a history ends with the last record of a transcript
abbrev pub EndsAlike : List Record → List Record → Type 0
EndsAlike transcript history =
    (before : List Record) × (r : Record) × (front : List Record) × (transcript ≡ before ++ r ∷ []) × (history ≡ front ++ r ∷ [])

-- an ambassador has heard just the callbacks that a history says federate f of an execution was given since it joined, in order; and
-- the history ends with the last record of the transcript
abbrev pub IsHeardUntil : List ℕ → ℕ → List Callback → List Record → List Record → Type 0
IsHeardUntil execution f ks transcript history = (ks ≡ heard_by execution f history) × EndsAlike transcript history

-- so has that which a federate leaves behind that resigned, where the history up to there is known
abbrev pub HeardAll : List ℕ → ℕ → Leaver → Type 0
HeardAll execution f l =
    IfSome l.caller.until (λ h. (ks : List Callback) × (l.heard ≡ Some ks) × IsHeardUntil execution f ks l.caller.transcript h)

-- what is seen of the infrastructure: how many callers it has handed out, how many of them are couriers, and itself as a caller
pub record Office : Type 0 where
  pub handed : ℕ
  pub couriers : ℕ
  pub own : Caller
