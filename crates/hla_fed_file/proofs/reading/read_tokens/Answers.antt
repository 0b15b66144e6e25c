use Rattle.hla_fed_file.proofs.Lexical.LineLemmas.{at_line}
use Rattle.hla_fed_file.proofs.Lexical.ReadingLemmas.{too_long, ends_whole, fails_whole}
use Rattle.hla_fed_file.proofs.reading.read_tokens.Goals as goal

pub returns-then-text-gt-MAX_FED_FILE-clause-exact : goal.returns-then-text-gt-MAX_FED_FILE-clause-exact
returns-then-text-gt-MAX_FED_FILE-clause-exact c = too_long c.args.text.now c.if-text-gt-MAX_FED_FILE.true

pub returns-in-Ok-clause-exact : goal.returns-in-Ok-clause-exact
returns-in-Ok-clause-exact c = ends_whole c.args.text.now c.in-Ok.line c.new-reader.result c.take_all.new.reader c.finished.result c.new-reader.ensures c.if-text-gt-MAX_FED_FILE.false c.in-Ok.ensures.taken c.finished.ensures.exact

pub returns-in-Ok-clause-line : goal.returns-in-Ok-clause-line
returns-in-Ok-clause-line c = at_line c.args.text.now c.in-Ok.line c.finished.result c.in-Ok.ensures.end c.finished.ensures.line

pub returns-in-Err-clause-exact : goal.returns-in-Err-clause-exact
returns-in-Err-clause-exact c = fails_whole c.args.text.now c.new-reader.result c.in-Err.fault c.new-reader.ensures c.if-text-gt-MAX_FED_FILE.false c.in-Err.ensures.taken
