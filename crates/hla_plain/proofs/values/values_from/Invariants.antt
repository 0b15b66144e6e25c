-- So far the values have the heads that were passed, their bytes and the rest are all bytes, and what is left of the heads decides.
use Rattle.std.proofs.Common.{◌≡◌, ◌++◌, map, take, drop}
use Rattle.hla_plain.specs.Values.{head_of, bytes_in, fits}
use Rattle.hla_plain.proofs.values.values_from.Given as goal

abbrev pub invariant-loop-head : goal.invariant-loop-head
invariant-loop-head l = record {
  heads : map head_of l.values ≡ take l.head-index l.heads;
  bytes : bytes_in l.values ++ l.rest ≡ l.bytes;
  left : fits l.heads l.bytes ≡ fits (drop l.head-index l.heads) l.rest;
}
