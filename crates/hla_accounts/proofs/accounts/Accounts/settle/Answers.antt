-- Asked or not, the message and what is owed go.
use Rattle.std.proofs.Common.{◌≡◌, ◌-◌, ℕ, None, length, sym, ap, ◌∙◌}
use Rattle.hla_machine.specs.Central.{Central, at_key, at3}
use Rattle.hla_accounts.specs.Accounts.{central_with}
use Rattle.hla_accounts.proofs.AfterSteps.Counts.{same_size, settled_asking, settled_taking}
use Rattle.hla_accounts.proofs.accounts.Accounts.settle.Goals as goal
use Rattle.hla_accounts.proofs.accounts.Accounts.settle.Goals.{Joined-not-is_there, After-take, then-not-is_there+in_ok-add_due, else-not-is_there}

asked_size : (c : Joined-not-is_there) → length c.if-not-is_there.self ≡ length c.args.self.now
asked_size c = elim c.if-not-is_there.branch [
  | then-not-is_there+in_ok-add_due w ↦ ap length w.self-is ∙ same_size c.args.self.now w.add_due.new.self (λ d. ap (λ (x : Central). x.directory.next_federate) (w.in_ok-add_due.ensures.ok d))
  | else-not-is_there w ↦ ap length w.self-is
]

taken_size : (c : After-take) → length c.take.new.self ≡ length c.args.self.now
taken_size c = same_size c.if-not-is_there.self c.take.new.self (λ d. ap (λ (x : Central). x.directory.next_federate) (c.take.ensures d)) ∙ elim c.if-not-is_there.branch [
  | then-not-is_there+in_ok-add_due w ↦ ap length w.self-is ∙ same_size c.args.self.now w.add_due.new.self (λ d. ap (λ (x : Central). x.directory.next_federate) (w.in_ok-add_due.ensures.ok d))
  | else-not-is_there w ↦ ap length w.self-is
]

pub take-requires-clause-within : goal.take-requires-clause-within
take-requires-clause-within c = rw asked_size c.requires.within

pub take_owed-requires-clause-within : goal.take_owed-requires-clause-within
take_owed-requires-clause-within c = rw taken_size c.requires.within

-- what is done in either case
abbrev gone : ℕ → ℕ → ℕ → Central → Central
gone g f m x = record x { bag = at_key x.bag g m f None; owed = at3 x.owed g m f (x.owed g m f - 1) }

pub returns-clause-ok : goal.returns-clause-ok
returns-clause-ok c d =
    let g = c.args.event.sender in let m = c.args.event.serial in let f = c.args.federate in
    c.take_owed.ensures d
    ∙ ap (λ (x : Central). record x { owed = at3 x.owed g m f (x.owed g m f - 1) }) (c.take.ensures d)
    ∙ elim c.if-not-is_there.branch [
      | then-not-is_there+in_ok-add_due w ↦ ap (λ v. gone g f m (central_with d v)) w.self-is ∙ ap (gone g f m) (w.in_ok-add_due.ensures.ok d) ∙ settled_asking (central_with d c.args.self.now) g f m (sym c.is_there.ensures ∙ w.if-not-is_there.true)
      | else-not-is_there w ↦ ap (λ v. gone g f m (central_with d v)) w.self-is ∙ settled_taking (central_with d c.args.self.now) g f m (sym c.is_there.ensures ∙ w.if-not-is_there.false)
    ]
