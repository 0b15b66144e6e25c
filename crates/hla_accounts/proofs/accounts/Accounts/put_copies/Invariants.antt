-- So far the copies for those whose contents were taken wait.
use Rattle.std.proofs.Common.{◌≡◌, ◌+◌, length}
use Rattle.hla_accounts.proofs.Sendings.Messages.{ArePut}
use Rattle.hla_accounts.proofs.accounts.Accounts.put_copies.Given as goal

abbrev pub invariant-loop-content : goal.invariant-loop-content
invariant-loop-content l =
    (goal.iterator-loop-content).can_next l.content-iterator × (goal.iterator-loop-content).is_finite l.content-iterator
    × (l.federate ≡ length l.yielded + 1) × ArePut l.initial.self l.self l.event.sender l.event.serial l.delivery l.yielded
