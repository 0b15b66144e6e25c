use Rattle.std.proofs.Common.{◌-◌, ◌≤◌, length}
use Rattle.hla_fed_file.specs.Lexical.{is_word}
use Rattle.hla_fed_file.specs.Spans.{AllPass}
use Rattle.hla_fed_file.proofs.spans.word_loads.Given as goal

abbrev pub invariant-loop-at : goal.invariant-loop-at
invariant-loop-at l = record {
  within : l.at ≤ length l.text;
  pass : AllPass is_word l.text 0 l.at;
}

abbrev pub decreases-loop-at : goal.decreases-loop-at
decreases-loop-at l = length l.text - l.at
