use Rattle.std.proofs.Common.{refl, subst}
use Rattle.std.specs.Prelude.{Err, IfOk, IfErr}
use Rattle.hla_machine.specs.declared.service.Service.TheVariants as service
use Rattle.hla_machine.specs.declared.step.Act.{Act}
use Rattle.hla_machine.specs.declared.step.Act.TheVariants as act
use Rattle.hla_machine.specs.declared.step.Step.TheVariants.{Call}
use Rattle.hla_callers.specs.Callers.{Caller, HasAnswered, HasResigned}
use Rattle.hla_callers.proofs.Calls.{Acts, acts, resigned_acted, unresigned_acted}
use Rattle.hla_callers.proofs.seat.Seat.resign.Goals as goal

pub returns-in-Ok-clause-resigned : goal.returns-in-Ok-clause-resigned
returns-in-Ok-clause-resigned g c =
    let done = c.in-Ok.resigned.0 in
    let asked : Act = act.Step (Call c.args.federate (service.Resign c.args.action)) in
    let old : Caller = record { number = c.self.inside.number; transcript = c.self.inside.transcript.items; share = c.self.inside.share.amount; until = c.self.inside.until } in
    let new : Caller = record { number = c.self.inside.number; transcript = c.push_reserved.new.self.items; share = c.resign.new.mine.amount; until = c.all_told.result } in
    let acted : Acts old new done.own =
    acts old new c.reserve.new.self.items done.own c.deref_mut.result.now c.resign.new.self c.deref.result.now refl c.reserve.ensures.items c.push_reserved.ensures.items c.in-Ok.ensures.share c.in-Ok.ensures.recorded
    c.deref.ensures c.all_told.ensures.replays c.all_told.ensures.told c.all_told.ensures.later in
    subst (λ (k : Caller). IfOk c.resigned_with.result (λ b. HasResigned k c.args.execution asked new)) c.self.view_is
    (resigned_acted old new c.args.execution asked done.own done.answer done.own.choice c.resigned_with.result c.in-Ok.ensures.asked acted c.resigned_with.ensures.ok)

pub returns-in-Ok-clause-refused : goal.returns-in-Ok-clause-refused
returns-in-Ok-clause-refused g c =
    let done = c.in-Ok.resigned.0 in
    let asked : Act = act.Step (Call c.args.federate (service.Resign c.args.action)) in
    let old : Caller = record { number = c.self.inside.number; transcript = c.self.inside.transcript.items; share = c.self.inside.share.amount; until = c.self.inside.until } in
    let new : Caller = record { number = c.self.inside.number; transcript = c.push_reserved.new.self.items; share = c.resign.new.mine.amount; until = c.all_told.result } in
    let acted : Acts old new done.own =
    acts old new c.reserve.new.self.items done.own c.deref_mut.result.now c.resign.new.self c.deref.result.now refl c.reserve.ensures.items c.push_reserved.ensures.items c.in-Ok.ensures.share c.in-Ok.ensures.recorded
    c.deref.ensures c.all_told.ensures.replays c.all_told.ensures.told c.all_told.ensures.later in
    subst (λ (k : Caller). IfErr c.resigned_with.result (λ e. HasAnswered k c.args.execution asked (Err e) new)) c.self.view_is
    (unresigned_acted old new c.args.execution asked done.own done.answer done.own.choice c.resigned_with.result c.in-Ok.ensures.asked acted c.resigned_with.ensures.err)
