-- The examples of the same name, each by computation
use Rattle.std.proofs.Common.{refl}
use Rattle.hla_base.specs.Tables.{upd, upd2, upd_row, upd_column, upd_new, upd_whole_column, least, greatest, numbers_below}
use Rattle.hla_machine.specs.Central.{low_entry}
use Rattle.hla_component_rules.specs.Queues.{insert_event, find_event, remove_event, least_ordered, handles_of}
use Rattle.hla_components.specs.Component.{regulation_entry}
use Rattle.hla_components.specs.Examples.Roles.{Newcomer, Epoch, Retraction, Floor, RegulatorResigns, CeasingToBeConstrained, BarAboveEntry}

pub newcomer : Newcomer
unfolding upd upd2 upd_row upd_column upd_new upd_whole_column least greatest numbers_below low_entry insert_event find_event remove_event least_ordered handles_of regulation_entry
newcomer = refl

pub epoch : Epoch
unfolding upd upd2 upd_row upd_column upd_new upd_whole_column least greatest numbers_below low_entry insert_event find_event remove_event least_ordered handles_of regulation_entry
epoch = refl

pub retraction : Retraction
unfolding upd upd2 upd_row upd_column upd_new upd_whole_column least greatest numbers_below low_entry insert_event find_event remove_event least_ordered handles_of regulation_entry
retraction = refl

pub floor : Floor
unfolding upd upd2 upd_row upd_column upd_new upd_whole_column least greatest numbers_below low_entry insert_event find_event remove_event least_ordered handles_of regulation_entry
floor = refl

pub regulator_resigns : RegulatorResigns
unfolding upd upd2 upd_row upd_column upd_new upd_whole_column least greatest numbers_below low_entry insert_event find_event remove_event least_ordered handles_of regulation_entry
regulator_resigns = refl

pub ceasing_to_be_constrained : CeasingToBeConstrained
unfolding upd upd2 upd_row upd_column upd_new upd_whole_column least greatest numbers_below low_entry insert_event find_event remove_event least_ordered handles_of regulation_entry
ceasing_to_be_constrained = refl

pub bar_above_entry : BarAboveEntry
unfolding upd upd2 upd_row upd_column upd_new upd_whole_column least greatest numbers_below low_entry insert_event find_event remove_event least_ordered handles_of regulation_entry
bar_above_entry = refl
