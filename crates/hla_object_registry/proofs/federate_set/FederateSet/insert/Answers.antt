use Rattle.std.proofs.Common.{ap, ◌∙◌, true, arith}
use Rattle.hla_base.specs.Tables.{upd}
use Rattle.hla_machine.specs.Registered.{is_in}
use Rattle.hla_object_registry.proofs.Items.{is_in-set}
use Rattle.hla_object_registry.proofs.federate_set.FederateSet.insert.Goals as goal

pub returns : goal.returns
returns c =
    is_in-set c.self.inside.flags c.args.federate c.requires.some (omega (arith, c.self.invariant, c.requires.within))
    ∙ ap (λ flags. upd (is_in flags) c.args.federate true) c.self.view_is
