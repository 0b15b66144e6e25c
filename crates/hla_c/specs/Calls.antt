-- What a call from a C program does to what its handle stands for
use Rattle.std.specs.Prelude.{◌≡◌, ◌⊎◌, ◌<◌, ◌++◌, ℕ, cond, Option, None, Some, Result, Ok, Err, List, map, drop, length, IfOk}
use Rattle.hla_base.specs.declared.content.HandleValuePair.{HandleValuePair}
use Rattle.hla_base.specs.declared.fault.Fault.{Fault}
use Rattle.hla_base.specs.Fault.{number_of, name_of}
use Rattle.hla_fed_file.specs.declared.fault.FedFaultKind.{FedFaultKind}
use Rattle.hla_fed_file.specs.Fault.{kind_name_of}
use Rattle.hla_machine.specs.declared.service.Service.{Service}
use Rattle.hla_machine.specs.declared.step.Step.{Step}
use Rattle.hla_machine.specs.declared.step.Step.TheVariants.{Call, Tick}
use Rattle.hla_machine.specs.declared.step.Answer.{Answer}
use Rattle.hla_machine.specs.declared.step.Answer.TheVariants as answer
use Rattle.hla_session.specs.Calls.{IsCalled, IsServiceCalledOrUncopied, IsRefused, HasStepped}
use Rattle.hla_c.specs.Held.{Owned}
use Rattle.hla_plain.specs.declared.data.ValueHead.{ValueHead}
use Rattle.hla_plain.specs.declared.data.CallbackData.{CallbackData}
use Rattle.hla_plain.specs.Telling.{callback_data, callback_values}
use Rattle.hla_plain.specs.Faults.{kind_number}
use Rattle.hla_plain.specs.Values.{head_of, bytes_in, fits}
use Rattle.hla_c.specs.Codes.{handle_closed, no_room, no_such_number}

-- 0, or the number of the fault
abbrev pub code_of : Result Answer Fault → ℕ
code_of (Ok a) = 0
code_of (Err e) = number_of e

-- the session takes the step, with such an answer, or is refused, and the code says which; a closed handle stays closed
abbrev pub IsStepAnswered : Option Owned → Step → (Answer → Type 0) → ℕ → Option Owned → Type 0
IsStepAnswered None step says code new = (code ≡ handle_closed) × (new ≡ None)
IsStepAnswered (Some old) step says code None = ⊥
IsStepAnswered (Some old) step says code (Some new) =
    (r : Result Answer Fault) × (code ≡ code_of r) × IfOk r says × IsCalled old.session step r new.session

-- a joined federate's call of a service
abbrev pub IsCallServed : Option Owned → ℕ → Service → (Answer → Type 0) → ℕ → Option Owned → Type 0
IsCallServed old federate service says code new = IsStepAnswered old (Call federate service) says code new

-- likewise of a service whose list, name or label is copied: there may be no memory for the copy, and then nothing was done
abbrev pub IsCallServedOrUncopied : Option Owned → ℕ → Service → (Answer → Type 0) → ℕ → Option Owned → Type 0
IsCallServedOrUncopied None federate service says code new = (code ≡ handle_closed) × (new ≡ None)
IsCallServedOrUncopied (Some old) federate service says code None = ⊥
IsCallServedOrUncopied (Some old) federate service says code (Some new) =
    (r : Result Answer Fault) × (code ≡ code_of r) × IfOk r says × IsServiceCalledOrUncopied old.session federate service r new.session

-- a tick, whose callback takes the place of the last one
abbrev pub IsTicked : Option Owned → ℕ → CallbackData → ℕ → Option Owned → Type 0
IsTicked None federate told code new = (code ≡ handle_closed) × (new ≡ None)
IsTicked (Some old) federate told code None = ⊥
IsTicked (Some old) federate told code (Some new) =
    ((code ≡ 0) × HasStepped old.session (Tick federate) (answer.Ticked new.session.callback) new.session
    × (told ≡ callback_data new.session.callback))
    ⊎ ((e : Fault) × (code ≡ number_of e) × IsRefused old.session (Tick federate) e × (new ≡ old))

-- nothing was done
abbrev pub IsIdle : Option Owned → ℕ → ℕ → Option Owned → Type 0
IsIdle None reason code new = (code ≡ handle_closed) × (new ≡ None)
IsIdle (Some old) reason code new = (code ≡ reason) × (new ≡ Some old)

-- why no values were made: the heads and bytes are of none, or they could not be copied
abbrev pub untaken_code : List ValueHead → List ℕ → ℕ
untaken_code heads bytes = cond (fits heads bytes) 38 36

-- a service with values: these heads and bytes are just those of some values, with which it is called; or no values were made, and
-- nothing was done
abbrev pub IsCallServedWith : Option Owned → ℕ → List ValueHead → List ℕ → (List HandleValuePair → Service) → (Answer → Type 0) → ℕ → Option Owned → Type 0
IsCallServedWith old federate heads bytes service says code new =
    ((vs : List HandleValuePair) × (map head_of vs ≡ heads) × (bytes_in vs ≡ bytes) × IsCallServed old federate (service vs) says code new)
    ⊎ IsIdle old (untaken_code heads bytes) code new

-- a service with what a number stands for; where it stands for nothing, nothing was done
abbrev pub IsCallServedIn : {T : Type 0} → Option Owned → ℕ → Option T → (T → Service) → (Answer → Type 0) → ℕ → Option Owned → Type 0
IsCallServedIn old federate (Some x) service says code new = IsCallServed old federate (service x) says code new
IsCallServedIn old federate None service says code new = IsIdle old no_such_number code new

-- likewise of a service whose list is copied
abbrev pub IsCallServedInOrUncopied : {T : Type 0} → Option Owned → ℕ → Option T → (T → Service) → (Answer → Type 0) → ℕ → Option Owned → Type 0
IsCallServedInOrUncopied old federate (Some x) service says code new = IsCallServedOrUncopied old federate (service x) says code new
IsCallServedInOrUncopied old federate None service says code new = IsIdle old no_such_number code new

-- a text was written with its length, or there was no room for it, and its length alone was written
abbrev pub IsTextWritten : List ℕ → List ℕ → List ℕ → ℕ → ℕ → Type 0
IsTextWritten text before after used code =
    (used ≡ length text)
    × (((code ≡ 0) × (after ≡ text ++ drop (length text) before))
    ⊎ ((code ≡ no_room) × (length before < length text) × (after ≡ before)))

-- the name that a service answers is written
abbrev pub IsNameGiven : Option Owned → ℕ → Service → List ℕ → List ℕ → ℕ → ℕ → ℕ → Option Owned → Type 0
IsNameGiven None federate service before after unused used code new = (code ≡ handle_closed) × (new ≡ None) × (after ≡ before) × (used ≡ unused)
IsNameGiven (Some old) federate service before after unused used code None = ⊥
IsNameGiven (Some old) federate service before after unused used code (Some new) =
    ((name : List ℕ) × IsCalled old.session (Call federate service) (Ok (answer.Name name)) new.session × IsTextWritten name before after used code)
    ⊎ ((e : Fault) × (code ≡ number_of e) × IsCalled old.session (Call federate service) (Err e) new.session × (after ≡ before) × (used ≡ unused))

-- a text of the session is written, and no other place
abbrev pub IsTextGiven : Option Owned → (Owned → List ℕ) → List ℕ → List ℕ → ℕ → ℕ → ℕ → Option Owned → Type 0
IsTextGiven None text before after unused used code new = (code ≡ handle_closed) × (new ≡ None) × (after ≡ before) × (used ≡ unused)
IsTextGiven (Some old) text before after unused used code new = (new ≡ Some old) × IsTextWritten (text old) before after used code

-- the values of the last callback are written; or there was no room for their heads or for their bytes, and nothing was written
abbrev pub AreValuesTold : Option Owned → List ValueHead → List ValueHead → List ℕ → List ℕ → ℕ → Option Owned → Type 0
AreValuesTold None heads heads' bytes bytes' code new = (code ≡ handle_closed) × (new ≡ None) × (heads' ≡ heads) × (bytes' ≡ bytes)
AreValuesTold (Some old) heads heads' bytes bytes' code new =
    let vs = callback_values old.session.callback in
    (new ≡ Some old)
    × (((code ≡ 0) × (heads' ≡ map head_of vs ++ drop (length vs) heads) × (bytes' ≡ bytes_in vs ++ drop (length (bytes_in vs)) bytes))
    ⊎ ((code ≡ no_room) × ((length heads < length vs) ⊎ (length bytes < length (bytes_in vs))) × (heads' ≡ heads) × (bytes' ≡ bytes)))

-- the name of a fault is written, if there is one of this number
abbrev pub IsFaultNamed : ℕ → List ℕ → List ℕ → ℕ → ℕ → ℕ → Type 0
IsFaultNamed number before after unused used code =
    ((f : Fault) × (number_of f ≡ number) × IsTextWritten (name_of f) before after used code)
    ⊎ ((code ≡ no_such_number) × ((number ≡ 0) ⊎ (40 < number)) × (after ≡ before) × (used ≡ unused))

-- likewise of a kind of faults of FED files
abbrev pub IsKindNamed : ℕ → List ℕ → List ℕ → ℕ → ℕ → ℕ → Type 0
IsKindNamed number before after unused used code =
    ((k : FedFaultKind) × (kind_number k ≡ number) × IsTextWritten (kind_name_of k) before after used code)
    ⊎ ((code ≡ no_such_number) × ((number ≡ 0) ⊎ (9 < number)) × (after ≡ before) × (used ≡ unused))
