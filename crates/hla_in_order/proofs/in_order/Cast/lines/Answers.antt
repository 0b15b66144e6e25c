use Rattle.std.proofs.Common.{◌≡◌, ◌-◌, List, [], length, ap, ◌∙◌, arith, length-drop}
use Rattle.hla_outcomes.specs.Joining.{joins_by}
use Rattle.hla_outcomes.proofs.JoinLemmas.{joins_more}
use Rattle.hla_in_order.proofs.LeadLemmas.{led_first, led_more}
use Rattle.hla_in_order.proofs.in_order.Cast.lines.Goals as goal

pub loop-line-init : goal.loop-line-init
loop-line-init g c = (c.requires.enough, led_first c.args.catalogue.now c.args.fed.now [] c.args.outcomes.now c.args.rti.now c.args.self.now c.requires.none c.requires.set c.requires.nobody)

pub loop-line-preserved : goal.loop-line-preserved
loop-line-preserved g c =
    let taken = joins_by c.line-item.result.command in
    let left : length c.line.new.self.ambassadors ≡ length c.loop-line.self.ambassadors - taken =
    ap (λ (bs : List g.row.B.Denot). length bs) c.in_ok-outcome.ensures.ambassadors ∙ length-drop taken c.loop-line.self.ambassadors in
    let more = joins_more c.args.lines.now c.loop-line.line-index c.line-item.result c.loop-line-test.true c.line-item.is in (
      omega (arith, more, left, c.loop-line.invariant.0),
      led_more c.args.catalogue.now c.args.fed.now c.args.lines.now c.loop-line.line-index c.line-item.result c.loop-line.outcomes c.add.new.self c.in_ok-outcome.outcome c.loop-line.rti c.line.new.rti c.loop-line.self c.line.new.self
          c.loop-line.invariant.1 c.loop-line-test.true c.line-item.is c.in_ok-outcome.ensures.led c.in_ok-add.ensures.added,
    )
