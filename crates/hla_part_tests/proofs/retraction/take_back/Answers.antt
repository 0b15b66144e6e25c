-- What was accepted from a regulating sender is in the table.
use Rattle.std.proofs.Common.{◌∙◌, refl, sym}
use Rattle.std.proofs.lemmas.Bool.{and_parts}
use Rattle.hla_base.specs.declared.row.Role.TheVariants.{Enabled}
use Rattle.hla_base.specs.declared.row.TimeRow.{TimeRow}
use Rattle.hla_base.specs.Rows.{new_row}
use Rattle.hla_part_tests.proofs.retraction.take_back.Goals as goal

pub retract-requires : goal.retract-requires
retract-requires c =
    let row : TimeRow = record new_row { regulating = Enabled; floor = c.args.least } in
    let accepted = sym (c.may_retract-accepted.ensures row refl refl) ∙ c.if-accepted.true in
    (and_parts _ _ (and_parts _ _ accepted).0).0
