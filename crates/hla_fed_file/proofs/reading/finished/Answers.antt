use Rattle.std.proofs.Common.{Err, subst}
use Rattle.hla_fed_file.specs.Reading.{ReadsAs}
use Rattle.hla_fed_file.proofs.Lexical.LineLemmas.{ends_on}
use Rattle.hla_fed_file.proofs.Lexical.ReadingLemmas.{gives_own}
use Rattle.hla_fed_file.proofs.reading.finished.Goals as goal

pub returns-in-Err-clause-exact : goal.returns-in-Err-clause-exact
returns-in-Err-clause-exact c = subst (λ o. ReadsAs (Err c.in-Err.fault) o) c.in-Err.ensures (gives_own (Err c.in-Err.fault))

pub returns-in-Err-clause-line : goal.returns-in-Err-clause-line
returns-in-Err-clause-line c = ends_on c.args.line c.args.reader c.in-Err.fault c.in-Err.ensures
