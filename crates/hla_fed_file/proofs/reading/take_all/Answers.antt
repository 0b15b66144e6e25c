use Rattle.std.proofs.Common.{sym, ◌∙◌}
use Rattle.hla_fed_file.proofs.Lexical.ReadingLemmas.{fails_with}
use Rattle.hla_fed_file.proofs.reading.take_all.Goals as goal

pub returns-in-Err-clause-taken : goal.returns-in-Err-clause-taken
returns-in-Err-clause-taken c =
    fails_with c.in-Err.kind _ c.next-lexed.result.line _ c.next-lexed.result.rest.now _ _ c.next-lexed.ensures.stream (sym c.is_end.ensures ∙ c.if-is_end.false) c.in-Err.ensures c.loop-rest.invariant.read
