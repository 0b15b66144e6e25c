-- One after another goes, and in the end all that were counted, which is what is below the bound.
use Rattle.std.proofs.Common.{◌≡◌, ◌++◌, ◌∷◌, [], take, drop, sym, ap, ◌∙◌, append_assoc, arith}
use Rattle.std.specs.List.{slice_get}
use Rattle.hla_order_queues.proofs.Events.MovingLemmas.{one_more, no_more, drop-one, below_moved, all_moved}
use Rattle.hla_order_queues.proofs.tso.TsoQueue.move_below.Goals as goal
use Rattle.hla_order_queues.proofs.tso.TsoQueue.move_below.Goals.{in-Some, in_default}

pub loop-preserved : goal.loop-preserved
loop-preserved c = record {
  moved =
      elim c.match-take_least.branch [
        | in-Some w ↦
            ap (λ q. q.events) w.received-is
            ∙ w.put.ensures.events
            ∙ ap (λ es. es ++ w.in-Some.event ∷ []) c.loop.invariant.moved
            ∙ append_assoc c.reserve.new.self.events (take c.loop.counter c.args.self.now) (w.in-Some.event ∷ [])
            ∙ ap (λ es. c.reserve.new.self.events ++ es) (sym (one_more c.args.self.now c.loop.counter w.in-Some.event (w.in-Some.ensures.least ∙ ap (λ ys. slice_get ys 0) c.loop.invariant.left)))
        | in_default w ↦
            ap (λ q. q.events) w.received-is
            ∙ c.loop.invariant.moved
            ∙ ap (λ es. c.reserve.new.self.events ++ es) (sym (no_more c.args.self.now c.loop.counter (w.in_default.ensures.least ∙ ap (λ ys. slice_get ys 0) c.loop.invariant.left)))
      ];
  left = c.take_least.ensures.rest ∙ ap (drop 1) c.loop.invariant.left ∙ drop-one c.args.self.now c.loop.counter;
  room =
      elim c.match-take_least.branch [
        | in-Some w ↦ omega (arith, ap (λ q. q.room) w.received-is, w.put.ensures.room)
        | in_default w ↦ omega (arith, ap (λ q. q.room) w.received-is)
      ];
}

pub returns-clause-left : goal.returns-clause-left
returns-clause-left c =
    λ low.
    let n : c.loop.counter ≡ c.count_below-count.result = omega arith in
    c.loop.invariant.left
    ∙ ap (λ k. drop k c.args.self.now) n
    ∙ (below_moved c.args.bound _ c.args.self.now c.count_below-count.ensures.rising c.count_below-count.ensures.count low).1

pub returns-clause-moved : goal.returns-clause-moved
returns-clause-moved c =
    λ low.
    let n : c.loop.counter ≡ c.count_below-count.result = omega arith in
    let all = below_moved c.args.bound _ c.args.self.now c.count_below-count.ensures.rising c.count_below-count.ensures.count low in
    c.loop.invariant.moved
    ∙ ap (λ es. es ++ take c.loop.counter c.args.self.now) c.reserve.ensures.events
    ∙ ap (λ es. c.args.received.now.events ++ es) (ap (λ k. take k c.args.self.now) n ∙ all.0)

pub returns-clause-none_left : goal.returns-clause-none_left
returns-clause-none_left c =
    λ all.
    let n : c.loop.counter ≡ c.count_below-count.result = omega arith in
    c.loop.invariant.left
    ∙ ap (λ k. drop k c.args.self.now) n
    ∙ (all_moved c.args.bound _ c.args.self.now c.count_below-count.ensures.rising c.count_below-count.ensures.count all).1

pub returns-clause-all_moved : goal.returns-clause-all_moved
returns-clause-all_moved c =
    λ all.
    let n : c.loop.counter ≡ c.count_below-count.result = omega arith in
    let moved = all_moved c.args.bound _ c.args.self.now c.count_below-count.ensures.rising c.count_below-count.ensures.count all in
    c.loop.invariant.moved
    ∙ ap (λ es. es ++ take c.loop.counter c.args.self.now) c.reserve.ensures.events
    ∙ ap (λ es. c.args.received.now.events ++ es) (ap (λ k. take k c.args.self.now) n ∙ moved.0)
