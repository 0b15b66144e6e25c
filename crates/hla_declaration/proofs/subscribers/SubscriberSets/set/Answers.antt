-- The set of the class changes, in the one federate.
use Rattle.std.proofs.Common.{◌≡◌, ℕ, ◌-◌, ◌≤◌, ◌&&◌, List, length, set, eqb, cond, sym, ap, ◌∙◌, subst}
use Rattle.std.specs.Option.{option_map_or}
use Rattle.hla_declaration.specs.Entries.{entry_at}
use Rattle.hla_declaration.specs.Subscribers.{has_federate, is_in_set_of}
use Rattle.hla_declaration.proofs.EntryLemmas.{item_numbered_read}
use Rattle.hla_declaration.proofs.SubscriberLemmas.{listed_put}
use Rattle.hla_declaration.proofs.subscribers.SubscriberSets.set.Goals as goal

pub returns-clause-listed : goal.returns-clause-listed
returns-clause-listed c f k few =
    let within : c.args.class ≤ length c.self.inside.sets.items = subst (λ (xs : List ℕ). c.args.class ≤ length xs) (sym c.self.view_is) c.requires.within in
    let here : entry_at 0 c.self.inside.sets.items c.args.class ≡ c.index.result.now =
    ap (λ o. option_map_or (λ x. x) o 0) (item_numbered_read c.self.inside.sets.items c.args.class c.index.result.now c.requires.some within c.index.ensures) in
    subst (λ (xs : List ℕ). is_in_set_of (set c.self.inside.sets.items (c.args.class - 1) c.with_federate.result) f k ≡ cond (eqb c.args.federate f && eqb c.args.class k) c.args.is_in (is_in_set_of xs f k)) c.self.view_is
    (listed_put c.self.inside.sets.items c.args.class c.with_federate.result c.args.federate c.args.is_in c.requires.some within
    (λ g few. c.with_federate.ensures g few ∙ ap (λ x. cond (eqb c.args.federate g) c.args.is_in (has_federate x g)) (sym here)) f k few)
