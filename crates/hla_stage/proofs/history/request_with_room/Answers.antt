use Rattle.std.proofs.Common.{subst}
use Rattle.std.specs.Prelude.{List}
use Rattle.hla_machine.specs.declared.step.Record.{Record}
use Rattle.hla_stage.specs.Playing.{HasNoRoom}
use Rattle.hla_stage.proofs.PlayLemmas.{ends_refused, ends_without_memory, ends_without_room}
use Rattle.hla_stage.proofs.history.request_with_room.Goals as goal

pub returns-in-Err-Refused-clause-refused : goal.returns-in-Err-Refused-clause-refused
returns-in-Err-Refused-clause-refused g c =
    ends_refused c.args.execution.now.catalogue c.args.command.now c.args.records.now.items c.as_slice.result.now c.args.execution.now.members.items c.as_slice.ensures.value c.requires c.in-Err-Refused.fault
    (rw c.in-Err-Refused.field-0-is at c.in-Err-Refused.ensures)

pub returns-in-Err-Memory-clause-refused : goal.returns-in-Err-Memory-clause-refused
returns-in-Err-Memory-clause-refused g c =
    let none = subst (λ (rs : List Record). HasNoRoom rs c.no_room.result) c.as_slice-in-Err-Memory.ensures.value c.no_room.ensures in
    ends_without_memory c.args.execution.now.catalogue c.args.command.now c.args.records.now.items c.as_slice.result.now c.args.execution.now.members.items c.as_slice.ensures.value c.requires c.no_room.result none
    (rw c.in-Err-Memory.field-0-is at c.in-Err-Memory.ensures)

pub returns-in-Err-clause-refused : goal.returns-in-Err-clause-refused
returns-in-Err-clause-refused g c =
    ends_without_room c.args.execution.now.catalogue c.args.command.now c.args.records.now.items c.as_slice.result.now c.args.execution.now.members.items c.as_slice.ensures.value c.requires c.in-Ok.request c.in-Err.fault
    c.in-Err.ensures.err c.in-Ok.ensures
