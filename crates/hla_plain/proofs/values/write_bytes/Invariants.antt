-- So far those that were passed have their bytes.
use Rattle.std.proofs.Common.{◌≡◌, take, length}
use Rattle.std.proofs.Math.Seq.{paste}
use Rattle.hla_plain.specs.Values.{bytes_in}
use Rattle.hla_plain.proofs.values.write_bytes.Given as goal

abbrev pub invariant-loop-pair : goal.invariant-loop-pair
invariant-loop-pair l = record {
  start : l.start ≡ length (bytes_in (take l.pair-index l.values));
  bytes : l.bytes ≡ paste l.initial.bytes 0 (bytes_in (take l.pair-index l.values)) l.start;
}
