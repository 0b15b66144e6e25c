use Rattle.std.proofs.Common.{arith, ap, true, is_some, ◌∙◌}
use Rattle.hla_machine.specs.Central.{new_central}
use Rattle.hla_checker.specs.Table.{centrals_of}
use Rattle.hla_checker.proofs.Executions.TableChanges.{creation_room, creation_absent, created, consistent_pushed}
use Rattle.hla_checker.proofs.table.ExecutionTable.create.Goals as goal

pub overflow_add-self : goal.overflow_add-self
overflow_add-self c =
    let now = c.args.self.now in
    let room = creation_room (is_some (centrals_of now.executions.items c.args.name.now)) true now.creates now.present c.requires.free in
    omega (arith, room.0)

pub returns-clause-ok : goal.returns-clause-ok
returns-clause-ok c =
    let now = c.args.self.now in
    created now.creates now.present _ _ _ c.args.name.now c.args.catalogue.now c.in-Ok.ensures.items c.in_ok-name.ensures.ok (c.new.ensures.new ∙ ap new_central c.in_ok-copy.ensures.ok)
    (creation_absent (centrals_of now.executions.items c.args.name.now) true now.creates now.present c.requires.free)

pub returns-clause-consistent : goal.returns-clause-consistent
returns-clause-consistent c = consistent_pushed c.args.self.now.executions.items _ _ c.in-Ok.ensures.items c.new.ensures.consistent c.requires.consistent
