use Rattle.std.proofs.Common.{refl, subst}
use Rattle.hla_machine.specs.declared.step.Act.TheVariants as act
use Rattle.hla_machine.specs.declared.step.Record.{Record}
use Rattle.hla_history.specs.Forms.{step_form}
use Rattle.hla_callers.specs.Callers.{Caller, HasAnswered}
use Rattle.hla_callers.specs.Locked.{own_record}
use Rattle.hla_callers.proofs.Calls.{acts, has_answered, given_in_form}
use Rattle.hla_callers.proofs.seat.Seat.call.Goals as goal

pub returns-clause-answered : goal.returns-clause-answered
returns-clause-answered g c =
    let before = c.deref_mut.result.now in
    let old : Caller = record { number = c.self.inside.number; transcript = c.self.inside.transcript.items; share = c.self.inside.share.amount; until = c.self.inside.until } in
    let new : Caller = record { number = c.self.inside.number; transcript = c.step.new.transcript.items; share = c.step.new.mine.amount; until = c.all_told.result } in
    let own : Record = own_record before c.self.inside.number c.args.execution c.args.step c.in_ok-answer.answer in
    subst (λ (k : Caller). HasAnswered k c.args.execution (act.Step c.args.step) c.answered.result new) c.self.view_is
    (has_answered old new c.args.execution (act.Step c.args.step) own c.in_ok-answer.answer own.choice c.answered.result refl c.answered.ensures
    (acts old new c.reserve.new.self.items own before c.step.new.self c.deref.result.now refl c.reserve.ensures.items c.in_ok-answer.ensures.asked c.in_ok-answer.ensures.share c.in_ok-answer.ensures.recorded
    c.deref.ensures c.all_told.ensures.replays c.all_told.ensures.told c.all_told.ensures.later))

pub returns-clause-form : goal.returns-clause-form
returns-clause-form g c = given_in_form (step_form c.args.step) c.in_ok-answer.answer c.answered.result c.in_ok-answer.ensures.form c.answered.ensures
