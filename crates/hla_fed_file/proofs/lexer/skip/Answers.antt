use Rattle.std.proofs.Common.{sym, arith}
use Rattle.hla_fed_file.proofs.Lexical.Lexing.{at_front, front_at, front_at_end, above_blank}
use Rattle.hla_fed_file.proofs.lexer.skip.Goals.{in-Some+else-byte-eq32+then-byte-gt32+then-byte-ne59, in-Some+else-byte-eq32+else-byte-gt32+else-byte-eq10+else-is_blank, in_default}
use Rattle.hla_fed_file.proofs.lexer.skip.Goals as goal

pub returns-clause-front : goal.returns-clause-front
returns-clause-front c = elim c.match-split_first.branch [
  | in-Some+else-byte-eq32+then-byte-gt32+then-byte-ne59 w ↦ front_at _ w.in-Some.after.now w.in-Some.byte.now w.in-Some.ensures.cases.0 (at_front _ (omega arith) (above_blank _ w.if-byte-gt32.true) (omega arith))
  | in-Some+else-byte-eq32+else-byte-gt32+else-byte-eq10+else-is_blank w ↦ front_at _ w.in-Some.after.now w.in-Some.byte.now w.in-Some.ensures.cases.0 (at_front _ w.if-byte-eq10.false (sym w.if-is_blank.ensures) (omega arith))
  | in_default w ↦ front_at_end _ w.in_default.ensures.cases
]
