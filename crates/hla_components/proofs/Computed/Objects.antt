-- The examples of the same name, each by computation
use Rattle.std.proofs.Common.{refl}
use Rattle.std.specs.Fmt.{digits}
use Rattle.hla_base.specs.Tables.{upd, upd2, upd_row, upd_column, upd_new, upd_whole_column, least, greatest, numbers_below}
use Rattle.hla_machine.specs.Central.{low_entry}
use Rattle.hla_component_rules.specs.Queues.{insert_event, find_event, remove_event, least_ordered, handles_of}
use Rattle.hla_components.specs.Component.{regulation_entry}
use Rattle.hla_components.specs.Examples.Objects.{Ancestor, AsynchronousDelivery, TwoOrdersAndATie, OrdersThatChange, Refusals, LateSubscriber, CreateAndDestroy}

pub ancestor : Ancestor
unfolding upd upd2 upd_row upd_column upd_new upd_whole_column least greatest numbers_below low_entry insert_event find_event remove_event least_ordered handles_of regulation_entry
ancestor = refl

pub asynchronous_delivery : AsynchronousDelivery
unfolding upd upd2 upd_row upd_column upd_new upd_whole_column least greatest numbers_below low_entry insert_event find_event remove_event least_ordered handles_of regulation_entry
asynchronous_delivery = refl

pub two_orders_and_a_tie : TwoOrdersAndATie
unfolding upd upd2 upd_row upd_column upd_new upd_whole_column least greatest numbers_below low_entry insert_event find_event remove_event least_ordered handles_of regulation_entry digits
two_orders_and_a_tie = refl

pub orders_that_change : OrdersThatChange
unfolding upd upd2 upd_row upd_column upd_new upd_whole_column least greatest numbers_below low_entry insert_event find_event remove_event least_ordered handles_of regulation_entry digits
orders_that_change = refl

pub refusals : Refusals
unfolding upd upd2 upd_row upd_column upd_new upd_whole_column least greatest numbers_below low_entry insert_event find_event remove_event least_ordered handles_of regulation_entry
refusals = refl

pub late_subscriber : LateSubscriber
unfolding upd upd2 upd_row upd_column upd_new upd_whole_column least greatest numbers_below low_entry insert_event find_event remove_event least_ordered handles_of regulation_entry digits
late_subscriber = refl

pub create_and_destroy : CreateAndDestroy
unfolding upd upd2 upd_row upd_column upd_new upd_whole_column least greatest numbers_below
create_and_destroy = record { created = refl; again = refl; joined = refl; resigned = refl; gone = (refl, refl) }
