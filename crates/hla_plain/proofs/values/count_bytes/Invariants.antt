-- So far the bytes of those that were passed are counted.
use Rattle.std.proofs.Common.{◌≡◌, take, length}
use Rattle.hla_plain.specs.Values.{bytes_in, counted}
use Rattle.hla_plain.proofs.values.count_bytes.Given as goal

abbrev pub invariant-loop-pair : goal.invariant-loop-pair
invariant-loop-pair l = l.count ≡ counted (length (bytes_in (take l.pair-index l.values)))
