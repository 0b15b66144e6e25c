-- What the records of a history say of each federate's ambassador
use Rattle.std.specs.Prelude.{ℕ, cond, eqb, List, [], ◌∷◌, ◌++◌, Option, None, Some, fold}
use Rattle.std.specs.Str.{bytes_eq}
use Rattle.hla_callbacks.specs.declared.callback.Callback.{Callback}
use Rattle.hla_machine.specs.declared.step.Step.{Step}
use Rattle.hla_machine.specs.declared.step.Step.TheVariants.{Join, Tick}
use Rattle.hla_machine.specs.declared.step.Act.{Act}
use Rattle.hla_machine.specs.declared.step.Act.TheVariants as act
use Rattle.hla_machine.specs.declared.step.Answer.TheVariants as answer
use Rattle.hla_machine.specs.declared.step.Outcome.{Outcome}
use Rattle.hla_machine.specs.declared.step.Outcome.TheVariants as outcome
use Rattle.hla_machine.specs.declared.step.Record.{Record}

-- an outcome as the next-state function gives it, which knows nothing of an ambassador's failure
abbrev pub given_outcome : Outcome → Outcome
given_outcome (outcome.Done a) = outcome.Done a
given_outcome (outcome.Refused e) = outcome.Refused e
given_outcome (outcome.Failed k) = outcome.Done (answer.Ticked (Some k))

abbrev pub given_record : Record → Record
given_record r = record { actor = r.actor; execution = r.execution; act = r.act; outcome = given_outcome r.outcome; choice = r.choice }

-- the outcome of a tick in whose callback the ambassador failed
abbrev pub failed_outcome : Outcome → Outcome
failed_outcome (outcome.Done (answer.Ticked (Some k))) = outcome.Failed k
failed_outcome out = out

-- the callback in an outcome, if there is one
abbrev pub callback_in : Outcome → Option Callback
callback_in (outcome.Done (answer.Ticked told)) = told
callback_in (outcome.Failed k) = Some k
callback_in out = None

abbrev pub with_heard : List Callback → Option Callback → List Callback
with_heard ks None = ks
with_heard ks (Some k) = ks ++ k ∷ []

-- what federate f has heard after a step: nothing at its joining, and one callback more at a tick that gave one
abbrev pub heard_then : ℕ → List Callback → Step → Outcome → List Callback
heard_then f ks (Join name) (outcome.Done (answer.Federate n)) = cond (eqb n f) [] ks
heard_then f ks (Tick g) out = cond (eqb g f) (with_heard ks (callback_in out)) ks
heard_then f ks step out = ks

abbrev pub heard_after_act : ℕ → List Callback → Act → Outcome → List Callback
heard_after_act f ks (act.Step step) out = heard_then f ks step out
heard_after_act f ks a out = ks

abbrev pub heard_after : List ℕ → ℕ → List Callback → Record → List Callback
heard_after name f ks r = cond (bytes_eq r.execution name) (heard_after_act f ks r.act r.outcome) ks

-- the callbacks of the ticks of federate f of an execution since it joined, in order
unfoldable pub heard_by : List ℕ → ℕ → List Record → List Callback
heard_by name f rs = fold (heard_after name f) [] rs
