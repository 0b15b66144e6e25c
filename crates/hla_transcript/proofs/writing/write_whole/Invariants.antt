use Rattle.std.proofs.Common.{◌≡◌, ◌≤◌, ◌-◌, length, take}
use Rattle.std.specs.Io.KnownBytes.{Appends}
use Rattle.hla_transcript.proofs.writing.write_whole.Given as goal

abbrev pub invariant-loop-at : goal.invariant-loop-at
invariant-loop-at g l = record {
  within : l.at ≤ length l.bytes;
  written : Appends (g.W.Write.contents l.initial.out.inner) (g.W.Write.contents l.out.inner) (take l.at l.bytes);
  sound : l.out.has_failed ≡ l.initial.out.has_failed;
}

abbrev pub decreases-loop-at : goal.decreases-loop-at
decreases-loop-at g l = length l.initial.bytes - l.at
