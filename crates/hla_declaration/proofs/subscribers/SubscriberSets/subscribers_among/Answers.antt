-- The set of the next class is added, and so are those who subscribe it.
use Rattle.std.proofs.Common.{◌||◌, get_or, sym, ap, ◌∙◌, take}
use Rattle.std.specs.List.{list_any}
use Rattle.std.proofs.lemmas.List.{take_more}
use Rattle.hla_declaration.specs.Subscribers.{has_federate, is_in_set_of}
use Rattle.hla_declaration.proofs.SubscriberLemmas.{has_federate-or, any_more}
use Rattle.hla_declaration.proofs.subscribers.SubscriberSets.subscribers_among.Goals as goal

pub loop-class-preserved : goal.loop-class-preserved
loop-class-preserved c f few =
    let i = c.loop-class.class-index in
    let class = get_or c.args.classes.now i 0 in
    rw (take_more c.args.classes.now i 0 c.loop-class-test.true)
    (has_federate-or c.loop-class.subscribers c.get-subscribers.result f
    ∙ ap (λ b. b || has_federate c.get-subscribers.result f) (c.loop-class.invariant f few)
    ∙ ap (λ x. list_any (is_in_set_of c.args.self.now f) (take i c.args.classes.now) || has_federate x f) c.get-subscribers.ensures
    ∙ sym (any_more (is_in_set_of c.args.self.now f) (take i c.args.classes.now) class))
