-- The first note goes, or the event is the last that was passed.
use Rattle.std.proofs.Common.{sym, ap, subst, ◌∙◌, cond, eqb, None}
use Rattle.hla_order_queues.specs.Names.{noted, IsLeastNoted}
use Rattle.hla_order_queues.proofs.ByName.PassedLemmas.{rising_all, taken_unpassed, passed_by}
use Rattle.hla_order_queues.proofs.rising.Rising.pass.Goals as goal
use Rattle.hla_order_queues.proofs.rising.Rising.pass.Goals.{then-is_first, else-is_first}

pub invariant_of-self : goal.invariant_of-self
invariant_of-self c = rising_all c.if-is_first.self-inside.passed c.tidy.new.notes.items c.tidy.ensures.rising

pub returns : goal.returns
returns c =
    λ m.
    c.tidy.ensures.same m
    ∙ elim c.if-is_first.branch [
      | then-is_first w ↦ rw w.self-inside-is (taken_unpassed c.self.inside.passed c.args.serial c.self.inside.notes.items w.take_first.new.notes.items w.take_first.result c.self.invariant w.take_first.ensures m)
      | else-is_first w ↦ rw (w.self-inside-is, w.passed_to-self-inside.ensures) (passed_by c.self.inside.passed c.args.serial c.args.stamp c.self.inside.notes.items c.self.invariant (subst (IsLeastNoted c.args.serial c.args.stamp) (sym c.self.view_is) c.requires) m)
    ]
    ∙ ap (λ zs. cond (eqb c.args.serial m) None (noted m zs)) c.self.view_is
