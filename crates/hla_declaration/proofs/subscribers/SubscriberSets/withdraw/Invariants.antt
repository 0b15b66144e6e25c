use Rattle.std.proofs.Common.{◌≡◌, ℕ, ◌<◌, ◌≤◌, get_or, length, eqb, cond, false}
use Rattle.hla_base.specs.Limits.{max_joins}
use Rattle.hla_declaration.specs.Subscribers.{has_federate}
use Rattle.hla_declaration.proofs.subscribers.SubscriberSets.withdraw.Given as goal

-- the federate is in none of the sets so far, and the others are as they were
abbrev pub invariant-loop-set : goal.invariant-loop-set
invariant-loop-set l =
    record {
      done : (k f : ℕ) → k < l.set-index → f ≤ max_joins → has_federate (get_or l.set-items k 0) f ≡ cond (eqb l.federate f) false (has_federate (get_or l.fn.self k 0) f);
      rest : (k : ℕ) → l.set-index ≤ k → get_or l.set-items k 0 ≡ get_or l.fn.self k 0;
      room : length l.set-items ≡ length l.fn.self;
    }
