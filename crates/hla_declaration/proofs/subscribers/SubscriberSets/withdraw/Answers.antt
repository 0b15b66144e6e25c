-- The federate is taken out of the set at the place, and the other sets stay.
use Rattle.std.proofs.Common.{◌≡◌, ◌≢◌, ◌<◌, ◌++◌, length, take, drop, eqb, cond, false, ap, ◌∙◌, arith, ⊎_elim, length-set, get_or-set_same, get_or-set_other}
use Rattle.std.proofs.lemmas.Bool.{cases_eq}
use Rattle.std.proofs.lemmas.Grind.{common_steps}
use Rattle.hla_declaration.specs.Subscribers.{has_federate}
use Rattle.hla_declaration.proofs.SubscriberLemmas.{listed_withdrawn}
use Rattle.hla_declaration.proofs.subscribers.SubscriberSets.withdraw.Goals as goal

pub loop-set-preserved : goal.loop-set-preserved
loop-set-preserved c =
    let i = c.loop-set.set-index in
    let items = c.loop-set.set-items in
    let within : c.loop-set.set-index < length c.loop-set.set-items = omega (arith, c.loop-set-test.true, c.loop-set.auto.set-items) in
    record {
      done = λ k f below few. ⊎_elim
          (λ (e : k ≡ c.loop-set.set-index). rw (e, get_or-set_same items i c.with_federate.result 0 within)
          (c.with_federate.ensures f few ∙ ap (λ x. cond (eqb c.args.federate f) false (has_federate x f)) (c.loop-set.invariant.rest i (omega arith))))
          (λ (ne : k ≢ c.loop-set.set-index). rw (get_or-set_other items i k c.with_federate.result 0 ne) (c.loop-set.invariant.done k f (omega arith) few))
          (cases_eq k c.loop-set.set-index);
      rest = λ k past. let ne : k ≢ c.loop-set.set-index = λ e. absurd (omega arith) in
          get_or-set_other items i k c.with_federate.result 0 ne ∙ c.loop-set.invariant.rest k (omega arith);
      room = length-set items i c.with_federate.result ∙ c.loop-set.invariant.room;
    }

pub returns-clause-listed : goal.returns-clause-listed
returns-clause-listed c f k few =
    let whole : take c.self.inside.sets.len (c.loop-set.set-items ++ drop (length c.loop-set.set-items) c.self.inside.sets.items) ≡ c.loop-set.set-items = grind (arith, common_steps) in
    rw whole
    (listed_withdrawn c.args.self.now c.loop-set.set-items c.args.federate c.loop-set.invariant.room
    (λ k f within few. c.loop-set.invariant.done k f (omega (arith, within, c.loop-set-test.false, c.loop-set.auto.set-items, c.loop-set.invariant.room)) few) f k few)
