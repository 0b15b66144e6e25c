-- What is owed is written first; what was sent stays the same under it.
use Rattle.std.proofs.Common.{◌∙◌, ap, true, arith}
use Rattle.hla_base.specs.Tables.{upd2}
use Rattle.hla_catalogue.specs.CatalogueValue.{empty_catalogue}
use Rattle.hla_machine.specs.Directory.{new_directory}
use Rattle.hla_machine.specs.Central.{Central}
use Rattle.hla_accounts.proofs.AfterSteps.Counts.{same_size}
use Rattle.hla_accounts.proofs.accounts.Accounts.take_back.Goals as goal

pub retract-requires-clause-within : goal.retract-requires-clause-within
retract-requires-clause-within c =
    let size = same_size c.args.self.now c.owe.new.self (λ d. ap (λ (x : Central). x.directory.next_federate) (c.in_ok-owe.ensures.ok d)) in
    omega (arith, size, c.requires.within)

pub retract-requires-clause-may : goal.retract-requires-clause-may
retract-requires-clause-may c = ap (λ (x : Central). (x.sent c.args.event.sender c.args.event.serial).retractable) (c.in_ok-owe.ensures.ok (new_directory empty_catalogue)) ∙ c.requires.may

pub returns-clause-ok : goal.returns-clause-ok
returns-clause-ok c d = let g = c.args.event.sender in let m = c.args.event.serial in
    c.retract.ensures d ∙ ap (λ (x : Central). record x { sent = upd2 x.sent g m (record (x.sent g m) { retracted = true }) }) (c.in_ok-owe.ensures.ok d)
