-- The stamp is noted, or put among the others; a list that was made before has nothing.
use Rattle.std.proofs.Common.{refl, ◌∙◌}
use Rattle.hla_order_queues.proofs.ByName.NamesLemmas.{when_true, when_false, put_noted, put_other, put_none}
use Rattle.hla_order_queues.proofs.names.Names.put.Goals as goal

pub returns-then-not-reach-clause-refused : goal.returns-then-not-reach-clause-refused
returns-then-not-reach-clause-refused c =
    put_none c.self.inside.rising.items c.reach.new.rising.items c.self.inside.others.entries c.self.inside.others.entries c.args.self.now c.self.view_is c.reach.ensures.same refl

pub returns-in-Noted-clause-put : goal.returns-in-Noted-clause-put
returns-in-Noted-clause-put c =
    put_noted c.self.inside.rising.items c.reach.new.rising.items c.push.new.rising.items c.self.inside.others.entries c.args.self.now (record { sender = c.args.key.sender; serial = c.args.key.serial }) c.args.key.stamp c.self.view_is c.reach.ensures.same c.in-Noted.ensures

pub returns-in-Elsewhere-clause-put : goal.returns-in-Elsewhere-clause-put
returns-in-Elsewhere-clause-put c =
    when_true c.insert.result _ _ (λ sets. put_other c.self.inside.rising.items c.push.new.rising.items c.self.inside.others.entries c.insert.new.others.entries c.args.self.now (record { sender = c.args.key.sender; serial = c.args.key.serial }) c.args.key.stamp c.self.view_is c.requires (λ n. c.in-Elsewhere.ensures n ∙ c.reach.ensures.same n) sets) c.insert.ensures.put

pub returns-in-Elsewhere-clause-refused : goal.returns-in-Elsewhere-clause-refused
returns-in-Elsewhere-clause-refused c =
    when_false c.insert.result _ _ (λ kept. put_none c.self.inside.rising.items c.push.new.rising.items c.self.inside.others.entries c.insert.new.others.entries c.args.self.now c.self.view_is (λ n. c.in-Elsewhere.ensures n ∙ c.reach.ensures.same n) kept) c.insert.ensures.refused

pub returns-in-Refused-clause-refused : goal.returns-in-Refused-clause-refused
returns-in-Refused-clause-refused c =
    put_none c.self.inside.rising.items c.push.new.rising.items c.self.inside.others.entries c.self.inside.others.entries c.args.self.now c.self.view_is (λ n. c.in-Refused.ensures n ∙ c.reach.ensures.same n) refl
