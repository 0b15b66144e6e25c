use Rattle.std.proofs.Common.{string_bytes, rules}
use Rattle.hla_files.proofs.EndLemmas.{complains_made}
use Rattle.hla_files.proofs.telling.tell_load_stop.Goals as goal

pub returns-in-Read-clause-line : goal.returns-in-Read-clause-line
returns-in-Read-clause-line g c = rw c.in-Read.is (complains_made string_bytes c.unread_line.result _ _ _ c.unread_line.ensures c.tell_made.ensures.line c.tell_made.ensures.none)

pub returns-in-Memory-clause-line : goal.returns-in-Memory-clause-line
returns-in-Memory-clause-line g c = rw c.in-Memory.is (search rules)
