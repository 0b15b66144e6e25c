-- What a call of a session does
use Rattle.std.specs.Prelude.{◌≡◌, ◌⊎◌, ℕ, Result, Ok, Err}
use Rattle.hla_base.specs.declared.fault.Fault.{Fault}
use Rattle.hla_base.specs.declared.fault.Fault.TheVariants as fault
use Rattle.hla_machine.specs.declared.service.Service.{Service}
use Rattle.hla_machine.specs.declared.step.Step.{Step}
use Rattle.hla_machine.specs.declared.step.Step.TheVariants.{Call}
use Rattle.hla_machine.specs.declared.step.Answer.{Answer}
use Rattle.hla_machine.specs.declared.step.Answer.TheVariants as answer
use Rattle.hla_machine.specs.declared.step.Outcome.TheVariants as outcome
use Rattle.hla_machine.specs.Runs.{IsMachineStep}
use Rattle.hla_components.specs.CentralOf.{central}
use Rattle.hla_components.specs.Headline.{happening}
use Rattle.hla_components.specs.Next.{next}
use Rattle.hla_federation.specs.Steps.State.{state_of}
use Rattle.hla_federation.specs.Steps.Memory.{IsRefusedWith}
use Rattle.hla_session.specs.declared.session.Session.{Session}

-- the execution takes the step with this answer, and it is one of the central machine
abbrev pub HasStepped : Session → Step → Answer → Session → Type 0
HasStepped old step a new =
    ((next (state_of old.federation) step).outcome ≡ outcome.Done a)
    × (state_of new.federation ≡ (next (state_of old.federation) step).state)
    × (new.catalogue ≡ old.catalogue)
    × IsMachineStep (central (state_of old.federation)) (happening step (next (state_of old.federation) step)) (central (state_of new.federation))

-- the step is refused as the definitions say, or for want of memory, if it takes any
abbrev pub IsRefused : Session → Step → Fault → Type 0
IsRefused old step e = IsRefusedWith (state_of old.federation) step e

-- a call is a step, and the last callback stays; or it is refused, and nothing has changed
abbrev pub IsCalled : Session → Step → Result Answer Fault → Session → Type 0
IsCalled old step (Ok a) new = HasStepped old step a new × (new.callback ≡ old.callback)
IsCalled old step (Err e) new = IsRefused old step e × (new ≡ old)

-- a call that first copies what it was handed: it is made, or there was no memory for the copy, and nothing has changed
abbrev pub IsCalledOrUncopied : Session → Step → Result Answer Fault → Session → Type 0
IsCalledOrUncopied old step result new = IsCalled old step result new ⊎ ((result ≡ Err fault.OutOfMemory) × (new ≡ old))

-- a joined federate's call of a service
abbrev pub IsServiceCalled : Session → ℕ → Service → Result Answer Fault → Session → Type 0
IsServiceCalled old federate service = IsCalled old (Call federate service)

-- likewise of a service whose list, name or label is copied
abbrev pub IsServiceCalledOrUncopied : Session → ℕ → Service → Result Answer Fault → Session → Type 0
IsServiceCalledOrUncopied old federate service = IsCalledOrUncopied old (Call federate service)

-- a call that answers nothing
abbrev pub no_answer : Unit {0} → Answer
no_answer _ = answer.Done
