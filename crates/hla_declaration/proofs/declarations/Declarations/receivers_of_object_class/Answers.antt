use Rattle.std.proofs.Common.{◌≡◌, ℕ, ◌+◌, ◌≤◌, arith, find, is_some, Option, List, [], ◌∷◌, ◌++◌, ap, sym, ◌∙◌}
use Rattle.hla_base.specs.Limits.{max_joins}
use Rattle.hla_declaration.specs.Declarations.{declarations_of}
use Rattle.hla_declaration.specs.Receivers.{object_class_served}
use Rattle.hla_declaration.specs.Subscribers.{is_in_set_of}
use Rattle.hla_declaration.specs.declared.receiver.Receiver.{Receiver}
use Rattle.hla_declaration.proofs.SubscriberLemmas.{find_of_none, found_same}
use Rattle.hla_declaration.proofs.ReceiverLemmas.{nobody_object, receivers_none, one_more, none_more}
use Rattle.hla_declaration.proofs.declarations.Declarations.receivers_of_object_class.Goals as goal
use Rattle.hla_declaration.proofs.declarations.Declarations.receivers_of_object_class.Goals.{in-Some+in_ok-push, in_default}

pub loop-place-init : goal.loop-place-init
loop-place-init c =
    let served : ℕ → Option ℕ = λ g. object_class_served c.args.catalogue.now (declarations_of c.args.self.now).subscribed g c.args.class in
    c.in_ok-receivers.ensures.ok ∙ sym (receivers_none served c.args.sender (nobody_object c.args.catalogue.now c.args.self.now c.args.class))

pub loop-place-preserved : goal.loop-place-preserved
loop-place-preserved c =
    let served : ℕ → Option ℕ = λ g. object_class_served c.args.catalogue.now (declarations_of c.args.self.now).subscribed g c.args.class in
    let few : c.loop-place.place + 1 ≤ max_joins = omega (arith, c.federates.ensures.few, c.loop-place-test.true) in
    let found = found_same c.object_subscribers-sets.result.now (λ f k. is_some ((declarations_of c.args.self.now).subscribed f k)) c.object_subscribers-sets.ensures (c.loop-place.place + 1) few c.object_lineage-lineage.result.now in
    let served_is : c.class_served_within-served.result ≡ served (c.loop-place.place + 1) =
    c.class_served_within-served.ensures ∙ found ∙ ap (λ classes. find (λ k. is_some ((declarations_of c.args.self.now).subscribed (c.loop-place.place + 1) k)) classes) c.object_lineage-lineage.ensures in
    let is = rw served_is at c.receiver.ensures in
    elim c.match-receiver.branch [
      | in-Some+in_ok-push w ↦
          w.receivers-is ∙ w.in_ok-push.ensures.ok ∙ ap (λ (rs : List Receiver). rs ++ w.in-Some.receiver ∷ []) c.loop-place.invariant
          ∙ sym (one_more served c.loop-place.place c.args.sender c.receiver.result is w.in-Some.receiver w.in-Some.is)
      | in_default w ↦ w.receivers-is ∙ c.loop-place.invariant ∙ sym (none_more served c.loop-place.place c.args.sender c.receiver.result is w.in_default.is)
    ]

pub class_served_within-served-requires-clause-others : goal.class_served_within-served-requires-clause-others
class_served_within-served-requires-clause-others c none =
    let few : c.loop-place.place + 1 ≤ max_joins = omega (arith, c.federates.ensures.few, c.loop-place-test.true) in
    let sets = c.object_subscribers-sets.result.now in
    find_of_none (is_in_set_of sets (c.loop-place.place + 1)) c.object_lineage-lineage.result.now
    (sym (c.subscribers_among-subscribers.ensures (c.loop-place.place + 1) few) ∙ none)
