-- What a line has a federate of a script do
use Rattle.std.specs.Prelude.{◌≡◌, ◌⊎◌, ℕ, List, None, Some, Ok, Err}
use Rattle.hla_base.specs.declared.fault.Fault.{Fault}
use Rattle.hla_base.specs.declared.fault.Fault.TheVariants as fault
use Rattle.hla_catalogue.specs.CatalogueValue.{CatalogueValue}
use Rattle.hla_commands.specs.declared.lines.Call.{Call}
use Rattle.hla_machine.specs.declared.service.ResignAction.{ResignAction}
use Rattle.hla_machine.specs.declared.service.Service.TheVariants as service
use Rattle.hla_machine.specs.declared.step.Act.{Act}
use Rattle.hla_machine.specs.declared.step.Act.TheVariants as act
use Rattle.hla_machine.specs.declared.step.Answer.TheVariants as answer
use Rattle.hla_machine.specs.declared.step.Outcome.{Outcome}
use Rattle.hla_machine.specs.declared.step.Outcome.TheVariants as outcome
use Rattle.hla_machine.specs.declared.step.Step.TheVariants as step
use Rattle.hla_requests.specs.Requests.{service_of}
use Rattle.hla_callers.specs.Callers.{Caller, FederateCaller, HasActed, HasNotActed, answer_given}
use Rattle.hla_players.specs.declared.player.Player.{Player}
use Rattle.hla_players.specs.declared.player.Player.TheVariants as player
use Rattle.hla_players.specs.declared.player.Deed.{Deed}
use Rattle.hla_players.specs.declared.player.Deed.TheVariants as deed

-- ---- what a call of a script asks for
-- a deed is what the call asks for by the names of a catalogue, or nothing, with the fault that is meant or for want of memory
abbrev pub IsDeedOf : CatalogueValue → Call → Deed → Type 0
IsDeedOf c call deed.Tick = service_of c call ≡ Ok None
IsDeedOf c call (deed.Serve s) = service_of c call ≡ Ok (Some s)
IsDeedOf c call (deed.Refused e) = (service_of c call ≡ Err e) ⊎ (e ≡ fault.OutOfMemory)

-- ---- who does it
-- the caller that a federate of a script is, or was
abbrev pub caller_of : {L B P H : Type 0} → Player L B P H → Caller
caller_of (player.Joined f) = f.caller
caller_of (player.Gone l) = l.caller

-- ---- a caller's act
-- an act was recorded, and came out as its record answers; or nothing was recorded, and the caller is as before
abbrev pub HasTold : Caller → List ℕ → Act → Outcome → Caller → Type 0
HasTold old name a out new =
    ((ended : Outcome) × (answer_given out ≡ answer_given ended) × HasActed old name a ended new)
    ⊎ ((e : Fault) × (out ≡ outcome.Refused e) × HasNotActed old e new)

-- a deed was done by a federate of this number
abbrev pub HasDone : Caller → List ℕ → ℕ → Deed → Outcome → Caller → Type 0
HasDone old name f deed.Tick out new = HasTold old name (act.Step (step.Tick f)) out new
HasDone old name f (deed.Serve s) out new = HasTold old name (act.Step (step.Call f s)) out new
HasDone old name f (deed.Refused e) out new = (out ≡ outcome.Refused e) × (new ≡ old)

-- it is the same federate while it is joined
abbrev pub StaysAs : {L B P H : Type 0} → FederateCaller → Player L B P H → Type 0
StaysAs old (player.Joined m) = (m.federate ≡ old.federate) × (m.execution ≡ old.execution)
StaysAs old (player.Gone l) = Unit {0}

-- a joined federate has done a deed
abbrev pub DoesDeed : {L B P H : Type 0} → FederateCaller → Deed → Outcome → Player L B P H → Type 0
DoesDeed old what out new = HasDone old.caller old.execution old.federate what out (caller_of new) × StaysAs old new

-- it is gone only where the deed was to resign, and is told as done
abbrev pub IsGoneBy : {L B P H : Type 0} → Deed → Outcome → Player L B P H → Type 0
IsGoneBy what out (player.Joined m) = Unit {0}
IsGoneBy what out (player.Gone l) = (way : ResignAction) × (what ≡ deed.Serve (service.Resign way)) × (out ≡ outcome.Done answer.Done)
