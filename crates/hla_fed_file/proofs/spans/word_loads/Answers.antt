use Rattle.std.proofs.Common.{◌+◌, ℕ, ap, ◌∙◌, arith}
use Rattle.hla_fed_file.specs.Lexical.{is_word}
use Rattle.hla_fed_file.proofs.Lexical.SpanLemmas.{counted_behind, counted_run}
use Rattle.hla_fed_file.proofs.spans.word_loads.Goals as goal

pub returns-then-run-lt-LANES-clause-count : goal.returns-then-run-lt-LANES-clause-count
returns-then-run-lt-LANES-clause-count c = counted_run is_word c.args.text.now c.loop-at.at 16 _ c.loop-at.invariant.pass c.word_run-run.ensures (omega arith) (omega arith)

pub returns-clause-count : goal.returns-clause-count
returns-clause-count c = ap (λ (k : ℕ). c.loop-at.at + k) c.word_bytes.ensures.count ∙ counted_behind is_word c.args.text.now c.loop-at.at c.loop-at.invariant.within c.loop-at.invariant.pass
