use Rattle.std.proofs.Common.{arith}
use Rattle.hla_fed_file.specs.Lexical.{is_word}
use Rattle.hla_fed_file.proofs.Lexical.SpanLemmas.{counted_run}
use Rattle.hla_fed_file.proofs.spans.word_len.Goals as goal

pub returns-then-run-lt-LANES-clause-count : goal.returns-then-run-lt-LANES-clause-count
returns-then-run-lt-LANES-clause-count c = omega (arith, counted_run is_word c.args.text.now 0 16 c.word_run-run.result (λ k from to. absurd (omega arith)) c.word_run-run.ensures (omega arith) (omega arith))
