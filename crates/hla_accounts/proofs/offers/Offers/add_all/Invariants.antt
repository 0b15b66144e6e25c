-- So far those that were taken stand behind the others.
use Rattle.std.proofs.Common.{◌≡◌, ◌++◌}
use Rattle.hla_accounts.proofs.offers.Offers.add_all.Given as goal

abbrev pub invariant-loop-offer : goal.invariant-loop-offer
invariant-loop-offer l =
    (goal.iterator-loop-offer).can_next l.offer-iterator × (goal.iterator-loop-offer).is_finite l.offer-iterator
    × (l.self ≡ l.initial.self ++ l.yielded)
