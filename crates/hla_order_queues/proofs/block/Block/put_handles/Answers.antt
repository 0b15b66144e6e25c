-- One handle after another is put.
use Rattle.std.proofs.Common.{◌≡◌, ◌++◌, take, refl, ap, ◌∙◌, arith, vec_len, vec_capacity}
use Rattle.hla_component_rules.specs.Queues.{handles_of}
use Rattle.hla_order_queues.proofs.UnderSeparators.StepLemmas.{no_handles_yet, one_more_handle, no_more_handles}
use Rattle.hla_order_queues.proofs.block.Block.put_handles.Goals as goal
use Rattle.hla_order_queues.proofs.block.Block.put_handles.Goals.{in-Some, in_default}

pub loop-i-init : goal.loop-i-init
loop-i-init c = record { put = no_handles_yet c.args.handles.now.items c.args.self.now; len = omega arith; capacity = refl }

pub loop-i-preserved : goal.loop-i-preserved
loop-i-preserved c = record {
  put =
      elim c.match-nth.branch [
        | in-Some w ↦
            ap (λ v. v.items) w.handles-is
            ∙ w.push_reserved.ensures.items
            ∙ one_more_handle c.args.handles.now.items c.loop-i.handles.items c.args.self.now c.loop-i.i w.in-Some.event.now w.in-Some.ensures c.loop-i.invariant.put
        | in_default w ↦
            ap (λ v. v.items) w.handles-is
            ∙ no_more_handles c.args.handles.now.items c.loop-i.handles.items c.args.self.now c.loop-i.i w.in_default.ensures c.loop-i.invariant.put
      ];
  len =
      elim c.match-nth.branch [
        | in-Some w ↦ omega (arith, ap (λ v. vec_len v) w.handles-is, w.push_reserved.ensures.len, c.loop-i.invariant.len)
        | in_default w ↦ omega (arith, ap (λ v. vec_len v) w.handles-is, c.loop-i.invariant.len)
      ];
  capacity =
      elim c.match-nth.branch [
        | in-Some w ↦ ap (λ v. vec_capacity v) w.handles-is ∙ w.push_reserved.ensures.capacity ∙ c.loop-i.invariant.capacity
        | in_default w ↦ ap (λ v. vec_capacity v) w.handles-is ∙ c.loop-i.invariant.capacity
      ];
}

pub returns-clause-put : goal.returns-clause-put
returns-clause-put c =
    let n : c.loop-i.i ≡ c.args.count = omega arith in
    c.loop-i.invariant.put ∙ ap (λ k. c.args.handles.now.items ++ handles_of (take k c.args.self.now)) n
