-- What is behind is in turn where nothing is due.
use Rattle.std.proofs.Common.{sym, subst, ⊎_elim}
use Rattle.std.specs.Bool.{Decides}
use Rattle.hla_callbacks.specs.declared.callback.Callback.{Callback}
use Rattle.hla_machine.specs.Callbacks.{IsInTurn, NothingIsDue}
use Rattle.hla_accounts.specs.Accounts.{central_with}
use Rattle.hla_accounts.proofs.Tests.Ticks.{nothing_due_decided}
use Rattle.hla_verdicts.proofs.ticking.is_in_turn.Goals as goal

pub returns-in-ReflectAttributeValues : goal.returns-in-ReflectAttributeValues
returns-in-ReflectAttributeValues c d =
    let before = central_with d c.args.accounts.now in
    let due : Decides c.is_nothing_due.result (NothingIsDue before c.args.federate) = rw c.is_nothing_due.ensures (nothing_due_decided d c.args.accounts.now c.args.federate) in
    let so = λ (k : Callback). Decides c.is_nothing_due.result (IsInTurn before c.args.federate k) in
    ⊎_elim (λ w. subst so (sym w.4) due)
    (⊎_elim (λ w. subst so (sym w.4) due)
    (⊎_elim (λ w. subst so (sym w.3) due)
    (⊎_elim (λ w. subst so (sym w.1) due)
    (⊎_elim (λ w. subst so (sym w.1) due) (λ w. subst so (sym w.1) due)))))
    c.in-ReflectAttributeValues.is
