use Rattle.std.proofs.Common.{◌≡◌, ℕ, List, Option, refl, subst, sym}
use Rattle.std.specs.Prelude.{Err, IfSome}
use Rattle.hla_callbacks.specs.declared.callback.Callback.{Callback}
use Rattle.hla_machine.specs.Histories.{AreDiscoveredInTurn, AreLawful}
use Rattle.hla_machine.specs.Runs.{Executions, no_executions, AreRun}
use Rattle.hla_machine.specs.declared.service.Service.TheVariants as service
use Rattle.hla_machine.specs.declared.step.Act.{Act}
use Rattle.hla_machine.specs.declared.step.Act.TheVariants as act
use Rattle.hla_machine.specs.declared.step.Answer.TheVariants as answer
use Rattle.hla_machine.specs.declared.step.Outcome.TheVariants as outcome
use Rattle.hla_machine.specs.declared.step.Step.TheVariants.{Call}
use Rattle.hla_history.specs.Closing.{Replays}
use Rattle.hla_callers.specs.Callers.{Caller, FederateCaller, Leaver, HasAnswered, HasResigned, IsServed, act_record}
use Rattle.hla_callers.proofs.Known.{known_replays, told_of}
use Rattle.hla_callers.proofs.RunLaws.{replayed_run, replayed_lawful}
use Rattle.hla_callers.proofs.TurnLaws.{replayed_in_turn}
use Rattle.hla_interface.proofs.federate.Federate.resign.Goals as goal

pub returns-in-Err-clause-refused : goal.returns-in-Err-clause-refused
unfolding IsServed
returns-in-Err-clause-refused g c =
    subst (λ (m : FederateCaller). (c.self.inside.execution ≡ m.execution) × (c.self.inside.federate ≡ m.federate)
    × HasAnswered m.caller m.execution (act.Step (Call m.federate (service.Resign c.args.action))) (Err c.in-Err.fault) c.resign.new.self) c.self.view_is (refl, refl, c.in-Err.ensures.refused)

-- the history that the federate was told of its resignation replays
replays_to : (l : Leaver) (old new : Caller) (name : List ℕ) (a : Act) (heard : Option (List Callback)) → l ≡ record { caller = new; heard = heard } → HasResigned old name a new → IfSome l.caller.until Replays
replays_to l old new name a heard is acted = subst (λ (x : Leaver). IfSome x.caller.until Replays) (sym is) (known_replays old.until new.until (act_record old name a (outcome.Done answer.Done) acted.0) acted.3)

pub returns-in-Ok-clause-replays : goal.returns-in-Ok-clause-replays
returns-in-Ok-clause-replays g c = replays_to c.new.result _ _ _ _ _ c.new.ensures c.in-Ok.ensures.resigned

pub returns-in-Ok-clause-run : goal.returns-in-Ok-clause-run
returns-in-Ok-clause-run g c =
    told_of c.new.result.caller.until (λ h. (y : Executions) × AreRun no_executions h y) replayed_run (replays_to c.new.result _ _ _ _ _ c.new.ensures c.in-Ok.ensures.resigned)

pub returns-in-Ok-clause-laws : goal.returns-in-Ok-clause-laws
returns-in-Ok-clause-laws g c = told_of c.new.result.caller.until AreLawful replayed_lawful (replays_to c.new.result _ _ _ _ _ c.new.ensures c.in-Ok.ensures.resigned)

pub returns-in-Ok-clause-discoveries : goal.returns-in-Ok-clause-discoveries
returns-in-Ok-clause-discoveries g c = told_of c.new.result.caller.until AreDiscoveredInTurn replayed_in_turn (replays_to c.new.result _ _ _ _ _ c.new.ensures c.in-Ok.ensures.resigned)
