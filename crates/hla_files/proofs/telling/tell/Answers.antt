use Rattle.std.proofs.Common.{List, ℕ, subst}
use Rattle.hla_transcript.specs.Watching.{stream_of}
use Rattle.hla_files.specs.Program.{WritesLine}
use Rattle.hla_files.proofs.EndLemmas.{tells_written}
use Rattle.hla_files.proofs.telling.tell.Goals as goal

pub returns : goal.returns
returns g c =
    let P : List ℕ → Type 0 = λ line. WritesLine (stream_of g.E.Write.contents c.args.errors.now) (stream_of g.E.Write.contents c.write_whole.new.out) line in
    subst P c.as_bytes.ensures.value (tells_written c.write_whole.result _ _ _ c.write_whole.ensures.ok c.write_whole.ensures.err c.write_whole.ensures.failure)
