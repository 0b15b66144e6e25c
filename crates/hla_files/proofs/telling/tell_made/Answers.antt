use Rattle.std.proofs.Common.{List, ℕ, subst}
use Rattle.hla_transcript.specs.Watching.{stream_of}
use Rattle.hla_files.specs.Program.{WritesLine}
use Rattle.hla_files.proofs.telling.tell_made.Goals as goal

pub returns-in-Ok-clause-line : goal.returns-in-Ok-clause-line
returns-in-Ok-clause-line g c =
    let P : List ℕ → Type 0 = λ line. WritesLine (stream_of g.E.Write.contents c.args.errors.now) (stream_of g.E.Write.contents c.tell.new.errors) line in
    rw c.in-Ok.is (subst P c.as_str.ensures.value c.tell.ensures)

pub returns-in-Err-clause-none : goal.returns-in-Err-clause-none
returns-in-Err-clause-none g c = rw c.in-Err.is c.tell_out_of_memory.ensures.line
