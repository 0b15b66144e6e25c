use Rattle.std.proofs.Common.{refl, ◌⊎◌, subst}
use Rattle.std.specs.Prelude.{IfOk, IfErr}
use Rattle.hla_machine.specs.declared.step.Act.TheVariants as act
use Rattle.hla_machine.specs.declared.step.Answer.TheVariants as answer
use Rattle.hla_machine.specs.declared.step.Outcome.TheVariants as outcome
use Rattle.hla_machine.specs.declared.step.Step.TheVariants.{Join}
use Rattle.hla_callers.specs.Callers.{Caller, HasActed, HasNotActed}
use Rattle.hla_callers.proofs.Calls.{Acts, acts, joined_acted, unjoined_acted}
use Rattle.hla_callers.proofs.seat.Seat.join.Goals as goal

pub returns-in-Ok-clause-joined : goal.returns-in-Ok-clause-joined
returns-in-Ok-clause-joined g c =
    let done = c.in-Ok.joined.0 in
    let old : Caller = record { number = c.self.inside.number; transcript = c.self.inside.transcript.items; share = c.self.inside.share.amount; until = c.self.inside.until } in
    let new : Caller = record { number = c.self.inside.number; transcript = c.push_reserved.new.self.items; share = c.join.new.mine.amount; until = c.all_told.result } in
    let acted : Acts old new done.own =
    acts old new c.reserve.new.self.items done.own c.deref_mut.result.now c.join.new.self c.deref.result.now refl c.reserve.ensures.items c.push_reserved.ensures.items c.in-Ok.ensures.share c.in-Ok.ensures.recorded
    c.deref.ensures c.all_told.ensures.replays c.all_told.ensures.told c.all_told.ensures.later in
    subst (λ (k : Caller). IfOk c.joined_as.result (λ n. HasActed k c.args.execution (act.Step (Join c.args.name)) (outcome.Done (answer.Federate n)) new)) c.self.view_is
    (joined_acted old new c.args.execution (act.Step (Join c.args.name)) done.own done.answer done.own.choice c.joined_as.result c.in-Ok.ensures.asked acted c.joined_as.ensures.ok)

pub returns-in-Ok-clause-refused : goal.returns-in-Ok-clause-refused
returns-in-Ok-clause-refused g c =
    let done = c.in-Ok.joined.0 in
    let old : Caller = record { number = c.self.inside.number; transcript = c.self.inside.transcript.items; share = c.self.inside.share.amount; until = c.self.inside.until } in
    let new : Caller = record { number = c.self.inside.number; transcript = c.push_reserved.new.self.items; share = c.join.new.mine.amount; until = c.all_told.result } in
    let acted : Acts old new done.own =
    acts old new c.reserve.new.self.items done.own c.deref_mut.result.now c.join.new.self c.deref.result.now refl c.reserve.ensures.items c.push_reserved.ensures.items c.in-Ok.ensures.share c.in-Ok.ensures.recorded
    c.deref.ensures c.all_told.ensures.replays c.all_told.ensures.told c.all_told.ensures.later in
    subst (λ (k : Caller). IfErr c.joined_as.result (λ e. HasActed k c.args.execution (act.Step (Join c.args.name)) (outcome.Refused e.0) new ⊎ HasNotActed k e.0 new)) c.self.view_is
    (unjoined_acted old new c.args.execution (act.Step (Join c.args.name)) done.own done.answer done.own.choice c.joined_as.result c.in-Ok.ensures.asked acted c.joined_as.ensures.err)
