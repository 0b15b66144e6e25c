use Rattle.std.proofs.Common.{◌≡◌, ◌≤◌, length, take}
use Rattle.hla_orders.specs.Orders.{order_at, orders_given}
use Rattle.hla_orders.proofs.changed.ChangedOrders.give.Given as goal

-- the numbers so far were given the order, and all have a place
abbrev pub invariant-loop-number : goal.invariant-loop-number
invariant-loop-number l = (l.count ≤ length l.self) × (order_at l.self ≡ orders_given (order_at l.initial.self) (take l.number-index l.numbers) l.order)
