use Rattle.std.proofs.Common.{◌≡◌, ◌+◌, ◌≤◌, length}
use Rattle.hla_commands.specs.Script.{script_from, script_of, with_front, ArePlain}
use Rattle.hla_commands.proofs.reader.parse.Given as goal

abbrev pub invariant-loop-line : goal.invariant-loop-line
invariant-loop-line l = record {
  read : with_front l.found (script_from l.number l.lines) ≡ script_of l.fn.text;
  plain : ArePlain l.is_tested l.lines;
  few : l.number + length l.lines ≤ length l.fn.text;
}

abbrev pub decreases-loop-line : goal.decreases-loop-line
decreases-loop-line l = length l.lines
