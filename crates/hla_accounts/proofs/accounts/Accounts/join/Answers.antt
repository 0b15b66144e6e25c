-- The newcomer stands behind the others.
use Rattle.std.proofs.Common.{◌≡◌, ◌++◌, ◌∷◌, [], subst, ap, ◌∙◌}
use Rattle.hla_machine.specs.Machine.{after_join}
use Rattle.hla_accounts.specs.Accounts.{central_with}
use Rattle.hla_accounts.proofs.AfterSteps.Joins.{joins_set, joins_kept}
use Rattle.hla_accounts.proofs.accounts.Accounts.join.Goals as goal
use Rattle.hla_accounts.proofs.accounts.Accounts.join.Goals.{in-Ok, in-Err}

pub invariant_of-self : goal.invariant_of-self
invariant_of-self c = elim c.match-push.branch [
  | in-Ok w ↦ rw w.in-Ok.ensures.items (joins_kept c.self.inside.accounts.items c.args.name c.new.result c.args.notices c.new.ensures.account c.new.ensures.unsent (rw c.self.view_is c.requires) c.self.invariant)
  | in-Err w ↦ rw w.in-Err.ensures.items c.self.invariant
]

pub returns-clause-ok : goal.returns-clause-ok
returns-clause-ok c = elim c.match-push.branch [
  | in-Ok w ↦ rw w.result-is (λ d told. ap (central_with d) w.in-Ok.ensures.items
      ∙ subst (λ v. central_with d (c.self.inside.accounts.items ++ c.new.result ∷ []) ≡ after_join (central_with d v) c.args.name) c.self.view_is (joins_set d c.self.inside.accounts.items c.args.name c.new.result c.args.notices c.new.ensures.account c.new.ensures.unsent told))
  | in-Err w ↦ rw w.result-is tt
]
