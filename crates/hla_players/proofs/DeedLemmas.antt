-- What a line has a federate of a script do.
use Rattle.std.proofs.Common.{◌≡◌, ℕ, List, ◌⊎◌, inl, inr, Result, Err, refl, ap, ◌∙◌}
use Rattle.hla_base.specs.declared.fault.Fault.{Fault}
use Rattle.hla_base.specs.declared.fault.Fault.TheVariants as fault
use Rattle.hla_machine.specs.declared.service.Service.{Service}
use Rattle.hla_machine.specs.declared.service.Service.TheVariants as service
use Rattle.hla_machine.specs.declared.service.ResignAction.{ResignAction}
use Rattle.hla_machine.specs.declared.step.Act.{Act}
use Rattle.hla_machine.specs.declared.step.Act.TheVariants as act
use Rattle.hla_machine.specs.declared.step.Answer.{Answer}
use Rattle.hla_machine.specs.declared.step.Answer.TheVariants as answer
use Rattle.hla_machine.specs.declared.step.Outcome.{Outcome}
use Rattle.hla_machine.specs.declared.step.Outcome.TheVariants as outcome
use Rattle.hla_machine.specs.declared.step.Step.TheVariants as step
use Rattle.hla_callers.specs.Callers.{Caller, FederateCaller, Leaver, HasAnswered, HasResigned, IsServed, answer_given}
use Rattle.hla_players.specs.Deeds.{HasTold, DoesDeed}
use Rattle.hla_players.specs.declared.player.Player.{Player}
use Rattle.hla_players.specs.declared.player.Player.TheVariants as player
use Rattle.hla_players.specs.declared.player.Deed.TheVariants as deed

-- ---- what is told
-- want of memory and a full history are told as such
refused_exactly : (out : Outcome) (e : Fault) → answer_given out ≡ Err e → (e ≡ fault.HistoryFull) ⊎ (e ≡ fault.OutOfMemory) → out ≡ outcome.Refused e
refused_exactly (outcome.Done a) e is why = cc
refused_exactly (outcome.Refused f) e is why = let same : f ≡ e = cc in ap (λ (x : Fault). outcome.Refused x) same
refused_exactly (outcome.Failed k) e is why =
    let internal : fault.FederateInternalError ≡ e = cc in
    elim why [ inl full ↦ let clash : fault.FederateInternalError ≡ fault.HistoryFull = internal ∙ full in cc | inr none ↦ let clash : fault.FederateInternalError ≡ fault.OutOfMemory = internal ∙ none in cc ]

-- a call's answer, told as an outcome
pub answer_told : (old new : Caller) (name : List ℕ) (a : Act) (given : Result Answer Fault) (out : Outcome) → HasAnswered old name a given new → answer_given out ≡ given → HasTold old name a out new
answer_told old new name a given out answered told = elim answered [
  | inl acted ↦ inl (acted.0, told ∙ acted.1, acted.2)
  | inr none ↦ inr (none.0, refused_exactly out none.0 (told ∙ none.1) none.2.0, none.2)
]

module _ {L B P H : Type 0} where
  -- ---- what a federate has done
  pub resigned_does : (m : FederateCaller) (way : ResignAction) (l : Leaver) (p : Player L B P H) → p ≡ player.Gone l → HasResigned m.caller m.execution (act.Step (step.Call m.federate (service.Resign way))) l.caller
      → DoesDeed m (deed.Serve (service.Resign way)) (outcome.Done answer.Done) p
  resigned_does m way l p is acted = rw is (inl (outcome.Done answer.Done, refl, acted), tt)

  pub served_does : (m new : FederateCaller) (x : Service) (given : Result Answer Fault) (out : Outcome) (p : Player L B P H) → p ≡ player.Joined new → IsServed m x given new → answer_given out ≡ given → DoesDeed m (deed.Serve x) out p
  unfolding IsServed
  served_does m new x given out p is served told = rw is (answer_told m.caller new.caller m.execution (act.Step (step.Call m.federate x)) given out served.2 told, (served.1, served.0))

  pub ticked_does : (m new : FederateCaller) (given : Result Answer Fault) (out : Outcome) (p : Player L B P H) → p ≡ player.Joined new → HasAnswered m.caller m.execution (act.Step (step.Tick m.federate)) given new.caller → new.execution ≡ m.execution → new.federate ≡ m.federate
      → answer_given out ≡ given → DoesDeed m deed.Tick out p
  ticked_does m new given out p is answered execution federate told = rw is (answer_told m.caller new.caller m.execution (act.Step (step.Tick m.federate)) given out answered told, (federate, execution))
