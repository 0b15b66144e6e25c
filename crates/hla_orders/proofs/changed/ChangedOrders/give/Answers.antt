use Rattle.std.proofs.Common.{ℕ, ◌<◌, ◌≤◌, List, length, take, get_or, Option, Some, sym, ap, ◌∙◌, arith}
use Rattle.std.proofs.Math.Path.{fun_ext}
use Rattle.std.proofs.lemmas.List.{take_more, take_all}
use Rattle.hla_base.specs.Tables.{upd}
use Rattle.hla_catalogue.specs.declared.declared.Order.{Order}
use Rattle.hla_orders.specs.Orders.{order_at, orders_given}
use Rattle.hla_orders.proofs.OrderLemmas.{given_more, contained}
use Rattle.hla_orders.proofs.changed.ChangedOrders.give.Goals as goal

pub set-requires-clause-some : goal.set-requires-clause-some
set-requires-clause-some c = (c.requires _ (contained c.args.numbers.now c.loop-number.number-index (omega (arith, c.loop-number-test.true)))).0

pub set-requires-clause-within : goal.set-requires-clause-within
set-requires-clause-within c =
    let within = (c.requires _ (contained c.args.numbers.now c.loop-number.number-index (omega (arith, c.loop-number-test.true)))).1 in
    omega (arith, within, c.loop-number.invariant.0)

pub loop-number-preserved : goal.loop-number-preserved
loop-number-preserved c =
    let below : c.loop-number.number-index < length c.args.numbers.now = omega (arith, c.loop-number-test.true) in
    let before = order_at c.reserve.new.self in
    let n = get_or c.args.numbers.now c.loop-number.number-index 0 in (
      omega (arith, c.loop-number.invariant.0, c.set.ensures.room),
      c.set.ensures.given
          ∙ ap (λ (t : ℕ → Option Order). upd t n (Some c.args.order)) c.loop-number.invariant.1
          ∙ sym (given_more before (take c.loop-number.number-index c.args.numbers.now) n c.args.order)
          ∙ ap (λ (ns : List ℕ). orders_given before ns c.args.order) (sym (take_more c.args.numbers.now c.loop-number.number-index 0 below)),
    )

pub returns-clause-ok : goal.returns-clause-ok
returns-clause-ok c =
    let all : length c.args.numbers.now ≤ c.loop-number.number-index = omega (arith, c.loop-number-test.false) in
    c.loop-number.invariant.1
    ∙ ap (λ (ns : List ℕ). orders_given (order_at c.reserve.new.self) ns c.args.order) (take_all c.loop-number.number-index c.args.numbers.now all)
    ∙ ap (λ (t : ℕ → Option Order). orders_given t c.args.numbers.now c.args.order) (fun_ext c.reserve.ensures.same)
