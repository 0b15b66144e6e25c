-- What stands for a number
use Rattle.std.specs.Prelude.{ℕ, Option, None, Some, nat_eq, if◌then◌else◌}
use Rattle.hla_catalogue.specs.declared.declared.Order.{Order}
use Rattle.hla_catalogue.specs.declared.declared.Order.TheVariants as order
use Rattle.hla_machine.specs.declared.service.ResignAction.{ResignAction}
use Rattle.hla_machine.specs.declared.service.ResignAction.TheVariants as action

-- 1 receive order, 2 time-stamp order
abbrev pub order_from : ℕ → Option Order
order_from n = if nat_eq n 1 then Some order.Receive else if nat_eq n 2 then Some order.Timestamp else None

-- 1 releases attributes, 2 deletes objects, 3 does both, 4 does neither
abbrev pub resign_action_from : ℕ → Option ResignAction
resign_action_from n =
    if nat_eq n 1 then Some action.ReleaseAttributes
    else if nat_eq n 2 then Some action.DeleteObjects
    else if nat_eq n 3 then Some action.DeleteObjectsAndReleaseAttributes
    else if nat_eq n 4 then Some action.NoAction else None
