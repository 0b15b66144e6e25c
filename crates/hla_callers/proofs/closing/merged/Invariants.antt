use Rattle.std.proofs.Common.{◌≡◌, ◌+◌, ◌≤◌, length}
use Rattle.hla_callers.specs.Close.{transcripts_length}
use Rattle.hla_callers.proofs.closing.merged.Given as goal

abbrev pub invariant-loop-left : goal.invariant-loop-left
invariant-loop-left g l = record {
  parts : l.all.parts ≡ l.fn.all.parts + length l.yielded;
  amount : l.all.amount ≡ l.fn.all.amount + transcripts_length l.yielded;
  bound : l.fn.all.parts ≤ g.L.Ledger.parts → l.all.parts ≤ g.L.Ledger.parts;
}
