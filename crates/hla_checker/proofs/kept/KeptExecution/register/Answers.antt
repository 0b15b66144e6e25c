use Rattle.std.proofs.Common.{ℕ, sym, ap, subst, ◌∙◌}
use Rattle.hla_declaration.specs.Declarations.{declarations_of}
use Rattle.hla_machine.specs.Registered.{registry_of}
use Rattle.hla_machine.specs.Machine.{after_register}
use Rattle.hla_accounts.specs.Accounts.{account_at}
use Rattle.hla_verdicts.specs.Kept.{KeptValue, IsConsistent, central_of, directory_kept}
use Rattle.hla_checker.specs.Offering.{known_to_joined}
use Rattle.hla_checker.proofs.Verdicts.Registrations.{registered_central, registered_consistent}
use Rattle.hla_checker.proofs.kept.KeptExecution.register.Goals as goal

pub returns-clause-registered : goal.returns-clause-registered
returns-clause-registered c =
    let v : KeptValue = record { catalogue = c.self.inside.catalogue; declarations = c.self.inside.declarations; objects = c.self.inside.registry; accounts = c.self.inside.accounts; points = c.self.inside.points } in
    let q = c.register.new.self in
    let known = c.make_new_known.ensures
    ∙ ap (λ (h : ℕ). record (registry_of c.register.new.self) { known = known_to_joined (directory_kept c.self.inside.catalogue (declarations_of c.self.inside.declarations) (registry_of c.register.new.self)) (λ g. (account_at c.offer_new.new.accounts g).is_joined) h }) c.in_ok-object.ensures.answer in
    registered_central v q c.make_new_known.new.registry c.offer_new.new.accounts c.args.federate c.args.class c.args.name c.in_ok-attributes.attributes
    c.in_ok-attributes.ensures.ok c.in_ok-object.ensures.registered c.in_ok-offer_new.ensures.ok known
    ∙ ap (λ (y : KeptValue). after_register (central_of y) c.args.federate c.args.class c.args.name) c.self.view_is

pub returns-clause-consistent : goal.returns-clause-consistent
returns-clause-consistent c =
    let v : KeptValue = record { catalogue = c.self.inside.catalogue; declarations = c.self.inside.declarations; objects = c.self.inside.registry; accounts = c.self.inside.accounts; points = c.self.inside.points } in
    registered_consistent v c.register.new.self c.make_new_known.new.registry c.offer_new.new.accounts c.args.federate c.in_ok-offer_new.ensures.ok
    (subst (λ (y : KeptValue). IsConsistent y) (sym c.self.view_is) c.requires.consistent)
