-- The stamp is taken out of the notes, unless it was passed.
use Rattle.std.proofs.Common.{ap, ◌∙◌, cond, eqb, None}
use Rattle.hla_order_queues.specs.Names.{noted}
use Rattle.hla_order_queues.proofs.ByName.PassedLemmas.{rising_all, found_unpassed, taken_unpassed}
use Rattle.hla_order_queues.proofs.rising.Rising.take.Goals as goal

pub invariant_of-self : goal.invariant_of-self
invariant_of-self c = rising_all c.self.inside.passed c.tidy.new.notes.items c.tidy.ensures.rising

pub returns-clause-found : goal.returns-clause-found
returns-clause-found c =
    found_unpassed c.self.inside.passed c.args.serial c.self.inside.notes.items c.args.self.now c.take_from-stamp.result c.unpassed.result c.self.invariant c.self.view_is c.take_from-stamp.ensures.found c.unpassed.ensures

pub returns-clause-rest : goal.returns-clause-rest
returns-clause-rest c =
    λ m.
    c.tidy.ensures.same m
    ∙ taken_unpassed c.self.inside.passed c.args.serial c.self.inside.notes.items c.take_from-stamp.new.notes.items c.take_from-stamp.result c.self.invariant c.take_from-stamp.ensures m
    ∙ ap (λ zs. cond (eqb c.args.serial m) None (noted m zs)) c.self.view_is
