use Rattle.std.proofs.Common.{◌≡◌, ◌+◌, ◌≤◌, length}
use Rattle.hla_fed_file.specs.Lexical.{tokens, tokens_from, Between}
use Rattle.hla_fed_file.specs.Reading.{reading}
use Rattle.hla_fed_file.proofs.Lexical.LineLemmas.{AreOnLines}
use Rattle.hla_fed_file.proofs.reading.take_all.Given as goal

abbrev pub invariant-loop-rest : goal.invariant-loop-rest
invariant-loop-rest l = record {
  read : reading l.reader (tokens_from Between l.line l.rest) ≡ reading l.initial.reader (tokens l.text);
  lines : AreOnLines l.text (tokens_from Between l.line l.rest);
  within : l.line + length l.rest ≤ 1 + length l.text;
}

abbrev pub decreases-loop-rest : goal.decreases-loop-rest
decreases-loop-rest l = length l.rest
