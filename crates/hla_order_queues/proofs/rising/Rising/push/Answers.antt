-- The new note is behind all lesser ones, and its event behind those that were passed; or nothing changes.
use Rattle.std.proofs.Common.{is_ok, sym, ap, ◌∙◌}
use Rattle.hla_order_queues.specs.Names.{without_passed}
use Rattle.hla_order_queues.proofs.ByName.PassedLemmas.{pushed_unpassed}
use Rattle.hla_order_queues.proofs.ByName.RisingLemmas.{pushed}
use Rattle.hla_order_queues.proofs.rising.Rising.push.Goals as goal
use Rattle.hla_order_queues.proofs.rising.Rising.push.Goals.{in-Ok, in-Err}

pub invariant_of-self : goal.invariant_of-self
invariant_of-self c =
    (pushed (is_ok c.push_back.result) c.args.serial c.args.stamp c.self.inside.notes.items c.push_back.new.self.items c.self.invariant c.if-not-is_below.ensures c.push_back.ensures.items).0

pub returns : goal.returns
returns c =
    elim c.match-push_back.branch [
      | in-Ok w ↦ rw w.result-is (pushed_unpassed c.self.inside.passed c.args.serial c.args.stamp c.self.inside.notes.items c.push_back.new.self.items c.args.self.now c.self.view_is c.if-not-is_below.ensures (sym c.is_passed.ensures ∙ c.if-is_passed.false) w.in-Ok.ensures.items)
      | in-Err w ↦ rw w.result-is (ap (without_passed c.self.inside.passed) w.in-Err.ensures.items ∙ c.self.view_is)
    ]
