-- Who subscribes any of the classes is who is served at one of them.
use Rattle.std.proofs.Common.{ℕ, Bool, find, is_some, List, ap, ◌∙◌}
use Rattle.hla_declaration.specs.Declarations.{declarations_of}
use Rattle.hla_declaration.specs.Subscribers.{is_in_set_of}
use Rattle.hla_declaration.proofs.SubscriberLemmas.{found_is, found_same}
use Rattle.hla_declaration.proofs.declarations.Declarations.subscribers_of_interaction_class.Goals as goal

pub returns : goal.returns
returns c f few =
    let sets = c.interaction_subscribers.result.now in
    let lineage = c.interaction_lineage-lineage.result.now in
    let subscribed : ℕ → ℕ → Bool = (declarations_of c.args.self.now).subscribed_interaction in
    c.subscribers_among.ensures f few ∙ found_is (is_in_set_of sets f) lineage
    ∙ ap is_some (found_same sets subscribed c.interaction_subscribers.ensures f few lineage ∙ ap (λ (classes : List ℕ). find (subscribed f) classes) c.interaction_lineage-lineage.ensures)
