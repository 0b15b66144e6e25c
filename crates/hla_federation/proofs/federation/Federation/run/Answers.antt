use Rattle.std.proofs.Common.{subst, ap, arith}
use Rattle.hla_federation.specs.FederationValue.{FederationValue}
use Rattle.hla_components.specs.Invariant.{Inv}
use Rattle.hla_components.specs.Headline.{IsLedTo}
use Rattle.hla_federation.specs.Steps.State.{state_of}
use Rattle.hla_members.proofs.Rooms.{on_err}
use Rattle.hla_federation.proofs.Steps.Running.{steps_more, one_step, take_item, take_all, are_run, are_lawful, are_discovered_in_turn}
use Rattle.hla_federation.proofs.federation.Federation.run.Goals as goal

pub loop-step-preserved : goal.loop-step-preserved
loop-step-preserved c =
    let old = c.loop-step.self in
    let new = c.step.new.self in
    let one = one_step (state_of old) (state_of new) c.step-item.result c.step.result c.step.ensures.outcome c.step.ensures.state c.step.ensures.refused (on_err c.step.result (ap state_of) c.step.ensures.unchanged) in
    let more = steps_more _ _ _ _ _ c.step-item.result c.step.result c.loop-step.invariant.steps one in
    record {
      steps = rw (take_item c.args.steps.now c.loop-step.step-index c.step-item.result c.loop-step-test.true c.step-item.is, c.push_reserved.ensures.items) more;
      room = let room = c.loop-step.invariant.room in let same = c.push_reserved.ensures.capacity in omega (arith, room, same);
      count = let count = c.loop-step.invariant.count in let one = c.push_reserved.ensures.len in omega (arith, count, one);
    }

pub returns-clause-machine : goal.returns-clause-machine
returns-clause-machine c =
    let all = take_all c.args.steps.now c.loop-step.step-index (omega (arith, c.loop-step-test.false, c.loop-step.auto.step-index-end)) in
    let kept = subst (λ (v : FederationValue). Inv (state_of v)) c.self.view_is c.self.invariant.kept in
    are_run _ _ c.args.steps.now c.loop-step.answers.items kept (rw all at c.loop-step.invariant.steps)

pub returns-clause-laws : goal.returns-clause-laws
returns-clause-laws c =
    let led = subst (λ (v : FederationValue). IsLedTo (state_of v)) c.self.view_is c.self.invariant.led in
    are_lawful _ c.args.steps.now c.loop-step.answers.items led

pub returns-clause-discoveries : goal.returns-clause-discoveries
returns-clause-discoveries c =
    let led = subst (λ (v : FederationValue). IsLedTo (state_of v)) c.self.view_is c.self.invariant.led in
    are_discovered_in_turn _ c.args.steps.now c.loop-step.answers.items led
