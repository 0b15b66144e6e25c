use Rattle.hla_base.specs.declared.fault.Fault.TheVariants as fault
use Rattle.hla_stage.specs.Playing.{OutOfMemory}
use Rattle.hla_stage.proofs.PlayLemmas.{adds_none, adds_none_in, adds_one}
use Rattle.hla_stage.proofs.KeepLemmas.{keeps_more}
use Rattle.std.proofs.Common.{refl}
use Rattle.hla_stage.proofs.history.play_line.Goals as goal

pub returns-in-Err-clause-answered : goal.returns-in-Err-clause-answered
returns-in-Err-clause-answered g c =
    rw c.request_with_room.ensures.records (adds_none c.args.execution.now.catalogue c.args.line.now c.args.records.now.items _ _ c.print_refusal.result c.in-Err.fault c.in-Err.ensures.refused c.print_refusal.ensures.text c.print_refusal.ensures.remembered)

pub returns-in_default-clause-kept : goal.returns-in_default-clause-kept
returns-in_default-clause-kept g c =
    rw (c.push_reserved.ensures.items, c.request_with_room.ensures.records) (keeps_more _ c.args.records.now.items _ _ c.args.execution.now.members.items _ c.in-Ok-act.record c.requires.kept c.in-Ok-act.ensures.ok)

pub returns-in_default-clause-answered : goal.returns-in_default-clause-answered
returns-in_default-clause-answered g c =
    let acted = c.in-Ok-act.ensures.ok in
    rw (c.push_reserved.ensures.items, c.request_with_room.ensures.records)
    (adds_one c.args.execution.now.catalogue _ c.args.line.now c.args.records.now.items c.in-Ok.request c.in-Ok-act.record _ _ c.act.ensures.catalogue c.in-Ok.ensures.admitted acted.remembered acted.same c.in_default.ensures.ok)

pub returns-in-Err-act-clause-answered : goal.returns-in-Err-act-clause-answered
returns-in-Err-act-clause-answered g c =
    rw c.request_with_room.ensures.records
    (adds_none_in c.args.execution.now.catalogue _ c.args.line.now c.args.records.now.items _ _ c.print_refusal-in-Err-act.result fault.OutOfMemory c.act.ensures.catalogue (OutOfMemory c.in-Ok.request c.in-Ok.ensures.admitted refl refl)
    c.print_refusal-in-Err-act.ensures.text c.print_refusal-in-Err-act.ensures.remembered)
