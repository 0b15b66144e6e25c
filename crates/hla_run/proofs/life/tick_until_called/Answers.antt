use Rattle.std.proofs.Common.{◌≡◌, ◌∙◌, [], subst, None, arith}
use Rattle.std.proofs.lemmas.Bool.{both_ways}
use Rattle.hla_machine.specs.declared.step.Act.TheVariants as act
use Rattle.hla_machine.specs.declared.step.Answer.TheVariants as answer
use Rattle.hla_machine.specs.declared.step.Outcome.{Outcome}
use Rattle.hla_machine.specs.declared.step.Outcome.TheVariants as outcome
use Rattle.hla_machine.specs.declared.step.Step.TheVariants as step
use Rattle.hla_run.specs.Recorded.{AddsAct}
use Rattle.hla_run.proofs.AnswerLemmas.{added_act_of, added_behind, added_tick, spent_more}
use Rattle.hla_run.proofs.life.tick_until_called.Goals as goal

pub loop-tick-preserved : goal.loop-tick-preserved
loop-tick-preserved g c =
    let kept = c.loop-tick.invariant in
    let first = c.args.federate.now in
    let one = c.loop-tick.federate in
    let new = c.tick.new.self in
    let out = c.outcome_of_tick-ended.result in
    let asked = act.Step (step.Tick first.federate) in
    let adds = added_act_of one.execution first.execution one.federate first.federate out one.caller new.caller kept.execution kept.federate (added_tick one new _ out c.tick.ensures.answered c.outcome_of_tick-ended.ensures) in
    let nothing : out ≡ outcome.Done (answer.Ticked None) = c.is_empty_tick.ensures.0 c.if-not-is_empty_tick.false in
    let vain = subst (λ (o : Outcome). AddsAct first.execution asked o [] one.caller new.caller) nothing adds in
    record {
      execution = c.tick.ensures.execution ∙ kept.execution;
      federate = c.tick.ensures.federate ∙ kept.federate;
      spent = spent_more first.caller one.caller new.caller first.execution first.federate c.loop-tick._tick kept.spent.0 kept.spent.1 kept.spent.2 kept.spent.3 vain;
      added = λ last. (
        kept.spent.0,
        kept.spent.1,
        omega (arith, last, kept.spent.2),
        λ told. omega (arith, last, kept.spent.2),
        added_behind first.caller one.caller new.caller first.execution asked (outcome.Done (answer.Ticked None)) kept.spent.0 kept.spent.3 vain,
      );
    }

pub returns-then-not-is_empty_tick : goal.returns-then-not-is_empty_tick
returns-then-not-is_empty_tick g c =
    let kept = c.loop-tick.invariant in
    let first = c.args.federate.now in
    let one = c.loop-tick.federate in
    let new = c.tick.new.self in
    let out = c.outcome_of_tick-ended.result in
    record {
      execution = c.tick.ensures.execution ∙ kept.execution;
      federate = c.tick.ensures.federate ∙ kept.federate;
      added = (
        kept.spent.0,
        kept.spent.1,
        omega (arith, kept.spent.2, c.loop-tick-test.true),
        λ told. absurd (both_ways c.is_empty_tick.result c.if-not-is_empty_tick.true (c.is_empty_tick.ensures.1 told)),
        added_behind first.caller one.caller new.caller first.execution (act.Step (step.Tick first.federate)) out kept.spent.0 kept.spent.3
            (added_act_of one.execution first.execution one.federate first.federate out one.caller new.caller kept.execution kept.federate (added_tick one new _ out c.tick.ensures.answered c.outcome_of_tick-ended.ensures)),
      );
    }
