-- The examples of the same name, each by computation
use Rattle.std.proofs.Common.{refl}
use Rattle.hla_base.specs.Tables.{upd, upd2, upd_row, upd_column, upd_new, upd_whole_column, least, greatest, numbers_below}
use Rattle.hla_machine.specs.Central.{low_entry}
use Rattle.hla_component_rules.specs.Queues.{insert_event, find_event, remove_event, least_ordered, handles_of}
use Rattle.hla_components.specs.Component.{regulation_entry}
use Rattle.hla_components.specs.Examples.Time.{StaleBound, Boundary, Creep, CreepAvailable, Flush, LargestTime, PickThenGrant, NewestNull}

pub stale_bound : StaleBound
unfolding upd upd2 upd_row upd_column upd_new upd_whole_column least greatest numbers_below low_entry insert_event find_event remove_event least_ordered handles_of regulation_entry
stale_bound = refl

pub boundary : Boundary
unfolding upd upd2 upd_row upd_column upd_new upd_whole_column least greatest numbers_below low_entry insert_event find_event remove_event least_ordered handles_of regulation_entry
boundary = refl

pub creep : Creep
unfolding upd upd2 upd_row upd_column upd_new upd_whole_column least greatest numbers_below low_entry insert_event find_event remove_event least_ordered handles_of regulation_entry
creep = refl

pub creep_available : CreepAvailable
unfolding upd upd2 upd_row upd_column upd_new upd_whole_column least greatest numbers_below low_entry insert_event find_event remove_event least_ordered handles_of regulation_entry
creep_available = refl

pub flush : Flush
unfolding upd upd2 upd_row upd_column upd_new upd_whole_column least greatest numbers_below low_entry insert_event find_event remove_event least_ordered handles_of regulation_entry
flush = refl

pub largest_time : LargestTime
unfolding upd upd2 upd_row upd_column upd_new upd_whole_column least greatest numbers_below low_entry insert_event find_event remove_event least_ordered handles_of regulation_entry
largest_time = refl

pub pick_then_grant : PickThenGrant
unfolding upd upd2 upd_row upd_column upd_new upd_whole_column least greatest numbers_below low_entry insert_event find_event remove_event least_ordered handles_of regulation_entry
pick_then_grant = refl

pub newest_null : NewestNull
unfolding upd upd2 upd_row upd_column upd_new upd_whole_column least greatest numbers_below low_entry insert_event find_event remove_event least_ordered handles_of regulation_entry
newest_null = refl
