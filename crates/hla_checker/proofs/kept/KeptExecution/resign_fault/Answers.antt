use Rattle.std.proofs.Common.{true, false, sym, ◌∙◌}
use Rattle.hla_machine.specs.Directory.{deletions_sent, objects_of}
use Rattle.hla_verdicts.specs.Kept.{KeptValue, directory_of}
use Rattle.hla_checker.proofs.Sends.SendingTests.{count_deletions, resign_told}
use Rattle.hla_checker.proofs.kept.KeptExecution.resign_fault.Goals as goal

pub returns-then-is_out_of_serials : goal.returns-then-is_out_of_serials
returns-then-is_out_of_serials c =
    let v : KeptValue = record { catalogue = c.self.inside.catalogue; declarations = c.self.inside.declarations; objects = c.self.inside.registry; accounts = c.self.inside.accounts; points = c.self.inside.points } in
    let hs = objects_of (directory_of v) c.args.federate in
    resign_told v c.args.self.now c.args.federate c.args.action true c.self.view_is c.in-DeleteObjects.is
    (sym (c.is_out_of_serials.ensures (deletions_sent hs) (count_deletions hs ∙ sym c.count_owned_by-owned.ensures)) ∙ c.if-is_out_of_serials.true)

pub returns-else-is_out_of_serials : goal.returns-else-is_out_of_serials
returns-else-is_out_of_serials c =
    let v : KeptValue = record { catalogue = c.self.inside.catalogue; declarations = c.self.inside.declarations; objects = c.self.inside.registry; accounts = c.self.inside.accounts; points = c.self.inside.points } in
    let hs = objects_of (directory_of v) c.args.federate in
    resign_told v c.args.self.now c.args.federate c.args.action false c.self.view_is c.in-DeleteObjects.is
    (sym (c.is_out_of_serials.ensures (deletions_sent hs) (count_deletions hs ∙ sym c.count_owned_by-owned.ensures)) ∙ c.if-is_out_of_serials.false)
