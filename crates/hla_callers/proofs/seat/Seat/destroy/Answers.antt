use Rattle.std.proofs.Common.{refl, subst}
use Rattle.hla_machine.specs.declared.step.Act.TheVariants as act
use Rattle.hla_machine.specs.declared.step.Choice.TheVariants as choice
use Rattle.hla_history.specs.Forms.{NoAnswer}
use Rattle.hla_callers.specs.Callers.{Caller, HasAnswered}
use Rattle.hla_callers.proofs.Calls.{acts, has_answered, given_in_form}
use Rattle.hla_callers.proofs.seat.Seat.destroy.Goals as goal

pub returns-clause-answered : goal.returns-clause-answered
returns-clause-answered g c =
    let done = c.in_ok-own.field-0 in
    let old : Caller = record { number = c.self.inside.number; transcript = c.self.inside.transcript.items; share = c.self.inside.share.amount; until = c.self.inside.until } in
    let new : Caller = record { number = c.self.inside.number; transcript = c.push_reserved.new.self.items; share = c.destroy.new.mine.amount; until = c.all_told.result } in
    subst (λ (k : Caller). HasAnswered k c.args.name act.Destroy c.answered.result new) c.self.view_is
    (has_answered old new c.args.name act.Destroy done.own done.answer choice.None c.answered.result c.in_ok-own.ensures.asked c.answered.ensures
    (acts old new c.reserve.new.self.items done.own c.deref_mut.result.now c.destroy.new.self c.deref.result.now refl c.reserve.ensures.items c.push_reserved.ensures.items c.in_ok-own.ensures.share c.in_ok-own.ensures.recorded
    c.deref.ensures c.all_told.ensures.replays c.all_told.ensures.told c.all_told.ensures.later))

pub returns-clause-form : goal.returns-clause-form
returns-clause-form g c = given_in_form NoAnswer c.in_ok-own.field-0.answer c.answered.result c.in_ok-own.ensures.form c.answered.ensures
