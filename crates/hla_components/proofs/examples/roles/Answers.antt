use Rattle.hla_components.proofs.Computed.Roles.{newcomer, epoch, retraction, floor, regulator_resigns, ceasing_to_be_constrained, bar_above_entry}
use Rattle.hla_components.proofs.examples.roles.Goals as goal

pub returns : goal.returns
returns c = record { newcomer = newcomer; epoch = epoch; retraction = retraction; floor = floor; regulator_resigns = regulator_resigns; ceasing_to_be_constrained = ceasing_to_be_constrained; bar_above_entry = bar_above_entry }
