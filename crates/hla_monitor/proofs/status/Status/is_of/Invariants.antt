use Rattle.std.proofs.Common.{◌≡◌, take}
use Rattle.hla_monitor.specs.Counts.{status_of}
use Rattle.hla_monitor.proofs.status.Status.is_of.Given as goal

abbrev pub invariant-loop-entry : goal.invariant-loop-entry
invariant-loop-entry l = l.counted ≡ status_of (take l.entry-index l.entries)
