-- It chooses nothing, and the federate waits for others.
use Rattle.std.proofs.Common.{◌∙◌, sym}
use Rattle.std.specs.Bool.{Decides}
use mathlib.Core.Bool.{false≢true}
use Rattle.hla_machine.specs.Callbacks.{MayTickInVain}
use Rattle.hla_accounts.specs.Accounts.{central_with}
use Rattle.hla_accounts.proofs.Tests.Ticks.{may_tick_in_vain_decided}
use Rattle.hla_verdicts.proofs.ticking.may_give_nothing.Goals as goal

pub returns-then-is_nothing : goal.returns-then-is_nothing
returns-then-is_nothing c d =
    let waits : Decides c.may_tick_in_vain.result (MayTickInVain (central_with d c.args.accounts.now) c.args.federate) = rw c.may_tick_in_vain.ensures (may_tick_in_vain_decided d c.args.accounts.now c.args.federate) in
    (λ t. (waits.0 t, c.is_nothing.ensures.0 c.if-is_nothing.true), λ may. waits.1 may.0)

pub returns-else-is_nothing : goal.returns-else-is_nothing
returns-else-is_nothing c d = (λ t. absurd (false≢true (sym c.if-is_nothing.false ∙ t)), λ may. c.is_nothing.ensures.1 may.1)
