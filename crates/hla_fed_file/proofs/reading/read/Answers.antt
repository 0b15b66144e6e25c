use Rattle.hla_fed_file.proofs.Forward.Described.{described_read}
use Rattle.hla_fed_file.proofs.reading.read.Goals as goal

pub returns-clause-only : goal.returns-clause-only
returns-clause-only c = λ found d. let e = described_read c.args.text.now found d in rw e at c.read_tokens.ensures.exact
