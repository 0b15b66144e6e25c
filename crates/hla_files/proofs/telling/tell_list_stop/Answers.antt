use Rattle.std.proofs.Common.{string_bytes, rules}
use Rattle.hla_files.proofs.EndLemmas.{complains_made}
use Rattle.hla_files.proofs.telling.tell_list_stop.Goals as goal

pub returns-in-Fed-clause-line : goal.returns-in-Fed-clause-line
returns-in-Fed-clause-line g c = rw c.in-Fed.is (complains_made string_bytes c.fed_line.result _ _ _ c.fed_line.ensures c.tell_made.ensures.line c.tell_made.ensures.none)

pub returns-in-Write-clause-line : goal.returns-in-Write-clause-line
returns-in-Write-clause-line g c = rw c.in-Write.is (search rules)

pub returns-in-Memory-clause-line : goal.returns-in-Memory-clause-line
returns-in-Memory-clause-line g c = rw c.in-Memory.is (search rules)
